use Rattle.std.proofs.Common.{◌≡◌, List, filter, Result, Ok, Err, Vec, Global, IfOk, sym, subst, ◌∙◌}
use Rattle.std.specs.FinMap.Entries as entries
use Rattle.kb_edge.specs.declared.faults.Memory.{Memory}
use Rattle.kb_name.specs.declared.ids.NodeId.{NodeId}
use Rattle.kb_name.specs.Nodes.{same_node}
use Rattle.kb_ops.specs.Lists.{tree_of}
use Rattle.kb_ops.specs.Spots.{spot_cmp}
use Rattle.kb_ops.specs.Trees.{Tree}
use Rattle.kb_tree.specs.Held.{Held}
use Rattle.kb_tree.specs.Children.{IsChildren}
use Rattle.kb_tree.specs.Slots.{row_in, rows_in, ids_in, spots_in}
use Rattle.kb_tree.proofs.Edits.{spots_rise}
use Rattle.kb_tree.proofs.Found.{are_children}
use Rattle.kb_tree.proofs.table.Table.children.Goals as goal

pub of_parent-below-requires : goal.of_parent-below-requires
of_parent-below-requires c = (λ i. entries.is_sorted spot_cmp (spots_in (c.deref.ensures.value i) (c.deref-2.ensures.value i))) ∙ spots_rise _ _ _ c.self.invariant

if_ok : (t : Tree) (k : NodeId) (ids : List NodeId) (r : Result (Vec NodeId Global) Memory) → IsChildren t k ids → IfOk r (λ v. v.items ≡ ids) → IfOk r (λ v. IsChildren t k v.items)
if_ok t k ids (Ok v) are h = subst (IsChildren t k) (sym h) are
if_ok t k ids (Err e) are h = h

pub returns : goal.returns
returns c =
    let k = c.args.parent in
    let below : c.of_parent-below.result.now ≡ filter (λ slot. same_node (row_in c.self.inside.rows.items slot).parent k) c.self.inside.by_spot.items =
    c.of_parent-below.ensures ∙ (λ i. filter (λ slot. same_node (row_in (c.deref.ensures.value i) slot).parent k) (c.deref-2.ensures.value i)) in
    if_ok c.args.self.now.tree k (ids_in c.deref-3.result.now c.of_parent-below.result.now) c.ids.result
    (subst (λ (h : Held). IsChildren h.tree k (ids_in c.deref-3.result.now c.of_parent-below.result.now)) c.self.view_is
    (subst (IsChildren (tree_of (rows_in c.self.inside.rows.items c.self.inside.by_id.items)) k) (sym (λ i. ids_in (c.deref-3.ensures.value i) (below i))) (are_children _ _ _ c.self.invariant k)))
    c.ids.ensures
