use Rattle.std.proofs.Common.{rules, ◌∙◌, ap}
use Rattle.std.specs.FinMap.{get}
use Rattle.kb_blocks.proofs.Puts.{puts_next, refused_after, keeps_self, stored_keeps}
use Rattle.kb_blocks.proofs.store.Store.put_all.Goals as goal

pub returns-in-Err-put_noted-clause-put : goal.returns-in-Err-put_noted-clause-put
returns-in-Err-put_noted-clause-put g c = let inv = c.loop-i.invariant in
    refused_after g.H.BlockHash.hashed (Unit {0}) (λ b. b.items) c.args.blocks.now c.loop-i.i c.index-blocks-i.result c.args.self.now c.loop-i.self c.put_noted.new.self c.undo.new.self c.as_slice.result.now c.in-Err-put_noted.fault
    c.loop-i-test.true c.index-blocks-i.is c.as_slice.ensures.value inv.free inv.held c.in-Err-put_noted.ensures.put (c.undo.ensures ∙ c.in-Err-put_noted.ensures.back ∙ inv.back)

pub returns-in-Err-put_noted-clause-kept : goal.returns-in-Err-put_noted-clause-kept
returns-in-Err-put_noted-clause-kept g c = keeps_self c.args.self.now c.undo.new.self (c.undo.ensures ∙ c.in-Err-put_noted.ensures.back ∙ c.loop-i.invariant.back)

pub returns-clause-kept : goal.returns-clause-kept
returns-clause-kept g c q b e = ap (λ m. get m q) c.loop-i.invariant.held ∙ stored_keeps g.H.BlockHash.hashed c.args.self.now _ c.loop-i.invariant.free q b e

pub loop-i-preserved : goal.loop-i-preserved
loop-i-preserved g c = let inv = c.loop-i.invariant in
    let next = puts_next g.H.BlockHash.hashed (λ b. b.items) c.args.blocks.now c.loop-i.i c.index-blocks-i.result c.args.self.now c.loop-i.self c.put_noted.new.self _ c.as_slice.result.now
    c.loop-i-test.true c.index-blocks-i.is c.as_slice.ensures.value inv.free inv.held c.in-Ok-put_noted.ensures.put in
    record {
      room = search rules;
      free = next.0;
      held = next.1;
      back = c.in-Ok-put_noted.ensures.back ∙ inv.back;
    }
