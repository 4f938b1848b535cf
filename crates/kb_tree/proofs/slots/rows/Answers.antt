use Rattle.std.proofs.Common.{◌≡◌, ◌<◌, ◌++◌, ◌∷◌, [], length, get_or, sym, ◌∙◌, arith}
use Rattle.kb_tree.specs.Slots.{row_in}
use Rattle.kb_tree.proofs.Entries.{some_is, none_some}
use Rattle.kb_tree.proofs.Kept.{within_at, slot_row, one_more_row}
use Rattle.kb_tree.proofs.slots.rows.Goals as goal

pub unreachable-requires : goal.unreachable-requires
unreachable-requires c =
    let lt : c.loop-slot.slot-index < length c.args.slots.now = omega arith in
    none_some (row_in c.args.rows.now (get_or c.args.slots.now c.loop-slot.slot-index 0)) (c.in_default.ensures ∙ slot_row c.args.rows.now _ (within_at _ c.args.slots.now c.requires c.loop-slot.slot-index 0 lt))

pub loop-slot-preserved : goal.loop-slot-preserved
loop-slot-preserved c =
    let lt : c.loop-slot.slot-index < length c.args.slots.now = omega arith in
    let slot = get_or c.args.slots.now c.loop-slot.slot-index 0 in
    let read : c.in-Some.row.now ≡ row_in c.args.rows.now slot = some_is _ _ (c.in-Some.ensures ∙ slot_row c.args.rows.now slot (within_at _ c.args.slots.now c.requires c.loop-slot.slot-index 0 lt)) in
    let pushed : c.in_ok-copy.field-0 ≡ row_in c.args.rows.now slot = c.in_ok-copy.ensures ∙ read in
    c.in_ok-push.ensures.items
    ∙ (λ i. c.loop-slot.invariant i ++ pushed i ∷ [])
    ∙ sym (one_more_row c.args.rows.now c.args.slots.now c.loop-slot.slot-index lt)
