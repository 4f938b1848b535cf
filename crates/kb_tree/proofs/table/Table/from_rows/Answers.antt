use Rattle.std.proofs.Common.{◌≤◌, ◌^◌, length, ap, subst, ◌∙◌}
use Rattle.std.specs.List.{range_with_len}
use Rattle.kb_ops.specs.Lists.{tree_of}
use Rattle.kb_tree.specs.Slots.{rows_in}
use Rattle.kb_tree.proofs.Filled.{filled_by, whole}
use Rattle.kb_tree.proofs.table.Table.from_rows.Goals as goal

pub invariant_of-result : goal.invariant_of-result
invariant_of-result c =
    filled_by c.args.rows.items c.deref-2.result.now c.in_ok-by_id.by_id.items c.deref-3.result.now c.in_ok-by_spot.by_spot.items c.requires c.deref-2.ensures.value
    (c.in_ok-by_id.ensures.slots ∙ ap (λ l. range_with_len 0 (length l)) c.deref.ensures.value) c.deref-3.ensures.value
    (subst (λ l. length l ≤ 2 ^ 32) c.deref.ensures.value c.in_ok-by_id.ensures.few)
    c.in_ok-by_spot.ensures.moved c.in_ok-by_spot.ensures.sorted

pub returns : goal.returns
returns c =
    ap tree_of (ap (rows_in c.args.rows.items) (c.in_ok-by_id.ensures.slots ∙ ap (λ l. range_with_len 0 (length l)) c.deref.ensures.value) ∙ whole c.args.rows.items)
