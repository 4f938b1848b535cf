-- What a table that is parallel to the ids has at an id, and what holds of an id that is not among them.
use Rattle.std.proofs.Common.{◌≡◌, ℕ, zero, suc, true, false, List, [], ◌∷◌, map, Option, Some, None, is_some, inl, inr, slice_get, get_or, refl, sym, ap, ◌∙◌}
use Rattle.kb_name.specs.declared.ids.NodeId.{NodeId}
use Rattle.kb_name.specs.Nodes.{root}
use Rattle.kb_ops.specs.declared.rows.Row.{Row}
use Rattle.kb_ops.proofs.Nodes.{node_cases}
use Rattle.kb_ops.proofs.Kept.{some_and}
use Rattle.kb_ops.proofs.Walks.{row_cases}
use Rattle.kb_rules.specs.Three.{Three}
use Rattle.kb_rules.specs.Places.{seat, on_ours, is_kept}
use Rattle.kb_rules.specs.Joins.{joined}
use Rattle.kb_rules.specs.Ready.{is_in, CanMerge}
use Rattle.kb_rules.specs.Code.{place_in}
use Rattle.kb_rules.proofs.Basics.{not_true, not_both, same_some, none_some}
use Rattle.kb_rules.proofs.Reaching.{seat_cases, new_is_ours, root_row_seat}
use Rattle.kb_rules.proofs.Keeps.{kept_least, stays_there, parent_there}
use Rattle.kb_rules.proofs.Joined.{joins}
use Rattle.kb_rules.proofs.Positions.{place_there, place_got}

pub at_map : {A : Type 0} (f : NodeId → A) (ids : List NodeId) (i : ℕ) (q : NodeId) (d : A) → slice_get ids i ≡ Some q → get_or (map f ids) i d ≡ f q
at_map f [] i q d h = none_some q None refl h
at_map f (x ∷ ids) zero q d h = let same : x ≡ q = cc in ap f same
at_map f (x ∷ ids) (suc i) q d h = at_map f ids i q d h

-- a value of the table is that of the id at its place
pub told_at : {A : Type 0} (f : NodeId → A) (ids : List NodeId) (table : List A) (place : Option ℕ) (i : ℕ) (q : NodeId) (x : A) → table ≡ map f ids → place ≡ place_in ids q → place ≡ Some i → x ≡ get_or table i x → x ≡ f q
told_at f ids table place i q x are is at got = got ∙ ap (λ l. get_or l i x) are ∙ at_map f ids i q x (place_got q ids i (sym is ∙ at))

pub not_in : (ids : List NodeId) (place : Option ℕ) (q : NodeId) → place ≡ place_in ids q → place ≡ None → is_in q ids ≡ false
not_in ids place q is none = sym (place_there q ids) ∙ ap is_some (sym is ∙ none)

module _ (n m : ℕ) (t : Three) (can : CanMerge n m t) where
  no_merged : (q : NodeId) → is_in q t.ids ≡ false → t.merged q ≡ None
  no_merged q out = elim (row_cases t.merged q) [ inl w ↦ not_both _ (can.merged_in q w.0 w.1) out | inr none ↦ none ]

  no_ours : (q : NodeId) → is_in q t.ids ≡ false → t.ours q ≡ None
  no_ours q out = elim (row_cases t.ours q) [ inl w ↦ not_both _ (can.ours_in q w.0 w.1) out | inr none ↦ none ]

  pub seat_in_ids : (q : NodeId) (r : Row) → seat t q ≡ Some r → is_in q t.ids ≡ true
  seat_in_ids q r h = elim (seat_cases t q r h) [ inl a ↦ can.ours_in q r a.1 | inr a ↦ can.merged_in q r a.1 ]

  pub root_in_ids : is_in root t.ids ≡ true
  root_in_ids = let a = some_and _ (t.merged root) can.merged.rooted in can.merged_in root a.0 a.1

  -- the parent of a place is among the ids
  pub parent_in_ids : (q : NodeId) (r : Row) → seat t q ≡ Some r → is_in r.parent t.ids ≡ true
  parent_in_ids q r h = elim (node_cases q root) [
    | inl e ↦
        let a = some_and _ (t.merged root) can.merged.rooted in
        let same : r ≡ a.0 = same_some r a.0 (seat t root) (ap (seat t) (sym e) ∙ h) (root_row_seat n m t can ∙ a.1) in
        ap (λ z. is_in z t.ids) (ap (λ (z : Row). z.parent) same ∙ a.2.1) ∙ root_in_ids
    | inr off ↦ let p = parent_there n m t can q r off h in seat_in_ids r.parent p.0 p.1
  ]

  pub kept_in_ids : (q : NodeId) → is_kept t q ≡ true → is_in q t.ids ≡ true
  kept_in_ids = kept_least t (λ q. is_in q t.ids ≡ true) (λ q h. elim (stays_there t q h) [ inl w ↦ can.merged_in q w.0 w.1 | inr w ↦ can.ours_in q w.0 w.1 ]) (λ q r h in'. parent_in_ids q r h)

  pub side_out : (q : NodeId) → is_in q t.ids ≡ false → true ≡ on_ours t q
  side_out q out = sym (new_is_ours t q (no_merged q out))

  pub kept_out : (q : NodeId) → is_in q t.ids ≡ false → false ≡ is_kept t q
  kept_out q out = sym (not_true _ (λ k. not_both _ (kept_in_ids q k) out))

  pub joined_out : (q : NodeId) → is_in q t.ids ≡ false → None ≡ joined t q
  joined_out q out = elim (joined t q) as (λ o. joined t q ≡ o → None ≡ o) [
    | Some a ↦ λ e. let j = joins n m t can q a e in none_some j.row (t.ours q) (no_ours q out) j.found
    | None ↦ λ e. refl
  ] refl
