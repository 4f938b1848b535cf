use Rattle.kb_blocks.proofs.Puts.{added, adds_keeps}
use Rattle.kb_blocks.proofs.store.Store.put.Goals as goal

pub returns-in-Ok-clause-put : goal.returns-in-Ok-clause-put
returns-in-Ok-clause-put g c = let h = added c.in-Ok.field-0 c.args.self.now c.add.new.self c.hash-id.result c.args.bytes.now c.in-Ok.ensures in (c.hash-id.ensures, h.0, h.1)

pub returns-in-Ok-clause-kept : goal.returns-in-Ok-clause-kept
returns-in-Ok-clause-kept g c = adds_keeps c.add.result c.args.self.now c.add.new.self c.hash-id.result c.args.bytes.now c.add.ensures

pub returns-in-Err-clause-kept : goal.returns-in-Err-clause-kept
returns-in-Err-clause-kept g c = adds_keeps c.add.result c.args.self.now c.add.new.self c.hash-id.result c.args.bytes.now c.add.ensures
