use Rattle.std.proofs.Common.{◌≡◌, ℕ, true, List, Some, map, set, slice_get, inl, inr, sym, ap, ◌∙◌}
use Rattle.std.specs.FinMap.Entries as entries
use Rattle.kb_name.specs.declared.ids.NodeId.{NodeId}
use Rattle.kb_name.specs.Nodes.{node_cmp}
use Rattle.kb_ops.specs.declared.rows.Row.{Row}
use Rattle.kb_ops.specs.Lists.{keyed, place_of, rises}
use Rattle.kb_ops.specs.Sorted.{place_in_order}
use Rattle.kb_ops.proofs.Looks.{nodes_total, exact_nodes}
use Rattle.kb_tree.specs.Slots.{row_in, rows_in, redirected}
use Rattle.kb_tree.proofs.Kept.{keyed_slots, place_keyed, redirect_is, redirect_not, slot_cases}
use Rattle.kb_tree.proofs.slots.redirect.Goals as goal

is_redirected : (rows : List Row) (slots after : List ℕ) (last slot at : ℕ) (id : NodeId) → rises (rows_in rows slots) ≡ true → id ≡ (row_in rows last).id → at ≡ place_of id (rows_in rows slots)
    → (slice_get slots at ≡ Some last → after ≡ set slots at slot) → ((slice_get slots at ≡ Some last → ⊥) → after ≡ slots) → after ≡ redirected last slot slots
is_redirected rows slots after last slot at id rise is place here not_here =
    let key = λ (s : ℕ). keyed (row_in rows s) in
    let up : entries.is_sorted node_cmp (map key slots) ≡ true = ap (entries.is_sorted node_cmp) (sym (keyed_slots rows slots)) ∙ rise in
    let stands : at ≡ place_in_order node_cmp (row_in rows last).id (map key slots) = place ∙ ap (λ q. place_of q (rows_in rows slots)) is ∙ sym (place_keyed rows slots (row_in rows last).id) in
    elim (slot_cases slots at last) [
      | inl got ↦ here got ∙ redirect_is node_cmp nodes_total exact_nodes key slots up last slot at stands got
      | inr never ↦ not_here never ∙ redirect_not node_cmp nodes_total exact_nodes key slots up last slot at stands never
    ]

pub returns-clause-items : goal.returns-clause-items
returns-clause-items c =
    is_redirected c.args.rows.now c.args.slots.now.items c.put_over.new.slots.items c.args.last c.args.slot c.place-at.result c.id_in.result c.requires c.id_in.ensures
    (c.place-at.ensures.is ∙ ap (λ l. place_of c.id_in.result (rows_in c.args.rows.now l)) c.deref.ensures.value)
    c.put_over.ensures.here c.put_over.ensures.not_here
