-- A table has at most as many rows as there are slots.
use Rattle.std.proofs.Common.{◌≡◌, ℕ, suc, ◌<◌, ◌≤◌, ◌^◌, ◌||◌, true, false, eqb, List, [], ◌∷◌, length, Some, inl, inr, slice_get, refl, sym, ap, subst, ◌∙◌, arith}
use mathlib.Core.Bool.{true≢false}
use Rattle.std.specs.FinMap as map
use Rattle.std.specs.List.{AllByRecursion, IsDistinct, list_any}
use Rattle.std.proofs.lemmas.Map.Steps.{length-le_from_distinct_below}
use Rattle.kb_ops.specs.declared.rows.Row.{Row}
use Rattle.kb_ops.specs.Lists.{tree_of}
use Rattle.kb_tree.specs.Slots.{rows_in, AreWithin, IsTable}
use Rattle.kb_tree.proofs.Kept.{nat_cases}
use Rattle.kb_tree.proofs.Edits.{only_id}
use Rattle.kb_tree.proofs.Found.{len_is}

-- no slot stands twice
abbrev StandsOnce : List ℕ → Type 0
StandsOnce slots = (slot i j : ℕ) → slice_get slots i ≡ Some slot → slice_get slots j ≡ Some slot → i ≡ j

differs : (slot : ℕ) (slots : List ℕ) → ((j : ℕ) → slice_get slots j ≡ Some slot → ⊥) → AllByRecursion (λ s. eqb slot s ≡ false) slots
differs slot [] never = tt
differs slot (s ∷ slots) never = (
  elim (nat_cases slot s) [ inl e ↦ absurd (never 0 (ap (λ z. Some z) (sym e.1))) | inr ne ↦ ne.0 ],
  differs slot slots (λ j. never (suc j)),
)

distinct : (slots : List ℕ) → StandsOnce slots → IsDistinct eqb slots
unfolding IsDistinct
distinct [] once = tt
distinct (s ∷ slots) once = (
  differs s slots (λ j got. let e : 0 ≡ suc j = once s 0 (suc j) refl got in absurd (omega (arith, e))),
  distinct slots (λ slot i j a b. let e : suc i ≡ suc j = once slot (suc i) (suc j) a b in omega (arith, e)),
)

within_any : (n : ℕ) (slots : List ℕ) → AreWithin n slots → (q : ℕ) → list_any (eqb q) slots ≡ true → q < n
within_any n [] w q h = absurd (true≢false (sym h))
within_any n (s ∷ slots) w q h = elim (nat_cases q s) [
  | inl e ↦ subst (λ x. x < n) (sym e.1) w.0
  | inr ne ↦ within_any n slots w.1 q (sym (ap (λ b. b || list_any (eqb q) slots) ne.0) ∙ h)
]

pub few : (rows : List Row) (by_id by_spot : List ℕ) → IsTable rows by_id by_spot → map.len (tree_of (rows_in rows by_id)) ≤ 2 ^ 32
few rows by_id by_spot x =
    let once : StandsOnce by_id = λ slot i j a b. only_id rows by_id by_spot x slot i a ∙ sym (only_id rows by_id by_spot x slot j b) in
    let within = length-le_from_distinct_below by_id (length rows) (distinct by_id once) (within_any (length rows) by_id x.ids_within) in
    subst (λ n. n ≤ 2 ^ 32) (sym (len_is rows by_id by_spot x)) (omega (arith, within, x.few))
