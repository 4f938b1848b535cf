use Rattle.std.proofs.Common.{◌≡◌, ◌+◌, ◌++◌, ◌∷◌, [], suc, sym, ap, ◌∙◌, arith}
use Rattle.std.specs.List.{range_with_len}
use Rattle.kb_tree.proofs.Ranges.{range_more}
use Rattle.kb_tree.proofs.slots.below.Goals as goal

pub loop-slot-preserved : goal.loop-slot-preserved
loop-slot-preserved c =
    let next : suc c.loop-slot.slot ≡ c.loop-slot.slot + 1 = omega arith in
    c.in_ok-push.ensures.items ∙ ap (λ xs. xs ++ c.loop-slot.slot ∷ []) c.loop-slot.invariant ∙ sym (range_more 0 c.loop-slot.slot c.loop-slot.slot (omega arith)) ∙ ap (range_with_len 0) next
