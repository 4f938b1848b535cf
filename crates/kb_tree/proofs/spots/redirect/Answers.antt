use Rattle.std.proofs.Common.{◌≡◌, ℕ, true, List, Some, set, slice_get, inl, inr, ap, ◌∙◌}
use Rattle.std.specs.FinMap.Entries as entries
use Rattle.std.proofs.lemmas.Option.{get_or_from_slice_get}
use Rattle.kb_ops.specs.declared.rows.Row.{Row}
use Rattle.kb_ops.specs.Sorted.{place_in_order}
use Rattle.kb_ops.specs.Spots.{spot_cmp}
use Rattle.kb_ops.proofs.Spots.{spots_total, exact_spots}
use Rattle.kb_tree.specs.Slots.{row_in, spot_in, spots_in, redirected}
use Rattle.kb_tree.proofs.Kept.{slot_row, redirect_is, redirect_not, slot_cases}
use Rattle.kb_tree.proofs.spots.redirect.Goals as goal

is_redirected : (rows : List Row) (slots after : List ℕ) (last slot at : ℕ) (row : Row) → entries.is_sorted spot_cmp (spots_in rows slots) ≡ true → row ≡ row_in rows last
    → at ≡ place_in_order spot_cmp (row.parent, row.name) (spots_in rows slots)
    → (slice_get slots at ≡ Some last → after ≡ set slots at slot) → ((slice_get slots at ≡ Some last → ⊥) → after ≡ slots) → after ≡ redirected last slot slots
is_redirected rows slots after last slot at row up is place here not_here =
    let stands : at ≡ place_in_order spot_cmp (spot_in rows last).0 (spots_in rows slots) = place ∙ ap (λ (r : Row). place_in_order spot_cmp (r.parent, r.name) (spots_in rows slots)) is in
    elim (slot_cases slots at last) [
      | inl got ↦ here got ∙ redirect_is spot_cmp spots_total exact_spots (spot_in rows) slots up last slot at stands got
      | inr never ↦ not_here never ∙ redirect_not spot_cmp spots_total exact_spots (spot_in rows) slots up last slot at stands never
    ]

pub returns-clause-items : goal.returns-clause-items
returns-clause-items c =
    let rows = c.args.rows.now in
    let row = c.index-rows-last.result in
    let is : row ≡ row_in rows c.args.last = c.index-rows-last.is ∙ get_or_from_slice_get rows c.args.last (row_in rows c.args.last) row (slot_row rows c.args.last c.requires.there) in
    is_redirected rows c.args.slots.now.items c.put_over.new.slots.items c.args.last c.args.slot c.place-at.result row c.requires.rise is
    (c.place-at.ensures.is ∙ ap (λ l. place_in_order spot_cmp (row.parent, row.name) (spots_in rows l)) c.deref.ensures.value)
    c.put_over.ensures.here c.put_over.ensures.not_here
