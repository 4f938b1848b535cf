use Rattle.std.proofs.Common.{◌≡◌, filter, not, length, ap, ◌∙◌}
use Rattle.std.specs.Prelude.{nat_eq}
use Rattle.std.specs.FinMap.Entries as entries
use Rattle.kb_name.specs.Nodes.{same_node}
use Rattle.kb_ops.specs.Plan.{has_child}
use Rattle.kb_ops.specs.Spots.{spot_cmp}
use Rattle.kb_tree.specs.Held.{Held}
use Rattle.kb_tree.specs.Slots.{row_in, spots_in}
use Rattle.kb_tree.proofs.Edits.{spots_rise}
use Rattle.kb_tree.proofs.Found.{has_child_is}
use Rattle.kb_tree.proofs.table.Table.has_child.Goals as goal

pub of_parent-requires : goal.of_parent-requires
of_parent-requires c = (λ i. entries.is_sorted spot_cmp (spots_in (c.deref.ensures.value i) (c.deref-2.ensures.value i))) ∙ spots_rise _ _ _ c.self.invariant

pub returns : goal.returns
returns c =
    let k = c.args.node in
    let below : c.of_parent.result.now ≡ filter (λ slot. same_node (row_in c.self.inside.rows.items slot).parent k) c.self.inside.by_spot.items =
    c.of_parent.ensures ∙ (λ i. filter (λ slot. same_node (row_in (c.deref.ensures.value i) slot).parent k) (c.deref-2.ensures.value i)) in
    ap not (c.is_empty.ensures ∙ ap (λ l. nat_eq (length l) 0) below)
    ∙ has_child_is _ _ _ c.self.invariant k
    ∙ ap (λ (h : Held). has_child h.tree k) c.self.view_is
