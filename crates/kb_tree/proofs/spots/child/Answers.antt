use Rattle.std.proofs.Common.{◌≡◌, ℕ, true, cond, List, Option, Some, None, slice_get, sym, ap, ◌∙◌}
use Rattle.std.specs.Option.{option_and_then, option_map}
use Rattle.std.specs.Ordering.{is_eq}
use Rattle.std.specs.Cmp.{eq_by_cmp_equiv}
use Rattle.std.specs.FinMap.Entries as entries
use Rattle.std.proofs.lemmas.Option.{slice_get-map}
use Rattle.kb_name.specs.declared.ids.NodeId.{NodeId}
use Rattle.kb_ops.specs.declared.rows.Row.{Row}
use Rattle.kb_ops.specs.Sorted.{place_in_order}
use Rattle.kb_ops.specs.Spots.{Spot, spot_cmp}
use Rattle.kb_ops.proofs.Sorted.{find_is, if_key}
use Rattle.kb_ops.proofs.Spots.{spots_total, exact_spots}
use Rattle.kb_tree.specs.Slots.{spot_in, spots_in}
use Rattle.kb_tree.proofs.spots.child.Goals as goal

-- what stands at a place of the list, if it has the place
at_spot : (rows : List Row) (slots : List ℕ) (k : Spot) (i : ℕ) (r : Option ℕ) → entries.is_sorted spot_cmp (spots_in rows slots) ≡ true → i ≡ place_in_order spot_cmp k (spots_in rows slots) → r ≡ slice_get slots i
    → option_and_then (if_key spot_cmp spots_total exact_spots k) (option_map (spot_in rows) r) ≡ entries.find spot_cmp k (spots_in rows slots)
at_spot rows slots k i r up place got =
    ap (λ o. option_and_then (if_key spot_cmp spots_total exact_spots k) o) (ap (option_map (spot_in rows)) got ∙ sym (slice_get-map (spot_in rows) slots i) ∙ ap (slice_get (spots_in rows slots)) place)
    ∙ sym (find_is spot_cmp spots_total exact_spots k (spots_in rows slots) up)

pub returns-then-is_eq : goal.returns-then-is_eq
returns-then-is_eq c =
    let rows = c.args.rows.now in
    let k : Spot = (c.args.parent, c.args.name.now) in
    let slot = c.in-Some.slot in
    ap (λ (q : NodeId). Some q) c.id_in.ensures
    ∙ sym (ap (λ b. cond b (Some (spot_in rows slot).1) None) ((eq_by_cmp_equiv spots_total).symm k (spot_in rows slot).0 ∙ ap is_eq (sym c.compare.ensures) ∙ sym c.is_eq.ensures ∙ c.if-is_eq.true))
    ∙ at_spot rows c.args.slots.now k _ (Some slot) c.requires c.place.ensures.is c.in-Some.ensures

pub returns-else-is_eq : goal.returns-else-is_eq
returns-else-is_eq c =
    let rows = c.args.rows.now in
    let k : Spot = (c.args.parent, c.args.name.now) in
    let slot = c.in-Some.slot in
    sym (ap (λ b. cond b (Some (spot_in rows slot).1) None) ((eq_by_cmp_equiv spots_total).symm k (spot_in rows slot).0 ∙ ap is_eq (sym c.compare.ensures) ∙ sym c.is_eq.ensures ∙ c.if-is_eq.false))
    ∙ at_spot rows c.args.slots.now k _ (Some slot) c.requires c.place.ensures.is c.in-Some.ensures

pub returns-in-None : goal.returns-in-None
returns-in-None c = at_spot c.args.rows.now c.args.slots.now (c.args.parent, c.args.name.now) _ None c.requires c.place.ensures.is c.in-None.ensures
