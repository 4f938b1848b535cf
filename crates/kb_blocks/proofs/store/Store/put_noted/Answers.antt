use Rattle.std.proofs.Common.{Ok, subst}
use Rattle.kb_blocks.specs.Stores.{Adds}
use Rattle.kb_blocks.proofs.Puts.{added, undone_more}
use Rattle.kb_blocks.proofs.store.Store.put_noted.Goals as goal

pub returns-in-Ok-true-clause-put : goal.returns-in-Ok-true-clause-put
returns-in-Ok-true-clause-put g c = let h = added c.in-Ok-true.field-0 c.args.self.now c.add.new.self c.hash-id.result c.args.bytes.now c.in-Ok-true.ensures in (c.hash-id.ensures, h.0, h.1)

pub returns-in-Ok-true-clause-back : goal.returns-in-Ok-true-clause-back
returns-in-Ok-true-clause-back g c =
    let new = subst (λ b. Adds c.args.self.now c.add.new.self c.hash-id.result c.args.bytes.now (Ok b)) c.in-Ok-true.field-0-test c.in-Ok-true.ensures in
    undone_more c.args.added.now.items c.push_reserved.new.self.items c.hash-id.result c.args.bytes.now c.args.self.now c.add.new.self c.push_reserved.ensures.items new.0 new.1

pub returns-in-Ok-false-clause-put : goal.returns-in-Ok-false-clause-put
returns-in-Ok-false-clause-put g c = let h = added c.in-Ok-false.field-0 c.args.self.now c.add.new.self c.hash-id.result c.args.bytes.now c.in-Ok-false.ensures in (c.hash-id.ensures, h.0, h.1)
