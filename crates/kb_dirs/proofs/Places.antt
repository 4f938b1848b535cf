-- What is found stands at its place.
use Rattle.std.proofs.Common.{◌≡◌, ℕ, suc, ◌+◌, ◌<◌, ◌≤◌, Bool, true, false, cond, ltb, List, [], ◌∷◌, length, get_or, refl, sym, subst, arith, Some, None}
use Rattle.std.specs.Prelude.{not}
use borrow.Author.Tests.{ltb-true, ltb-false}
use Rattle.std.specs.List.{find, position, position_or_len}

module _ {X : Type 0} (p : X → Bool) where
  abbrev place : List X → ℕ
  place xs = position_or_len p xs

  found_first : (x : X) (xs : List X) (d : X) (b : Bool) → cond (not b) (suc (place xs)) 0 < suc (length xs) → (place xs < length xs → find p xs ≡ Some (get_or xs (place xs) d))
      → cond b (Some x) (find p xs) ≡ Some (get_or (x ∷ xs) (cond (not b) (suc (place xs)) 0) d)
  found_first x xs d true lt later = refl
  found_first x xs d false lt later = later (omega arith)

  found_at : (xs : List X) (d : X) → place xs < length xs → find p xs ≡ Some (get_or xs (place xs) d)
  found_at [] d lt = absurd (omega arith)
  found_at (x ∷ xs) d lt =
      let e : 1 + place xs ≡ suc (place xs) = omega arith in
      subst (λ n. find p (x ∷ xs) ≡ Some (get_or (x ∷ xs) (cond (not (p x)) n 0) d)) (sym e)
      (found_first x xs d (p x) (subst (λ n. cond (not (p x)) n 0 < suc (length xs)) e lt) (found_at xs d))

  none_first : (x : X) (xs : List X) (b : Bool) → suc (length xs) ≤ cond (not b) (suc (place xs)) 0 → (length xs ≤ place xs → find p xs ≡ None) → cond b (Some x) (find p xs) ≡ None
  none_first x xs true le later = absurd (omega arith)
  none_first x xs false le later = later (omega arith)

  none_at : (xs : List X) → length xs ≤ place xs → find p xs ≡ None
  none_at [] le = refl
  none_at (x ∷ xs) le =
      let e : 1 + place xs ≡ suc (place xs) = omega arith in
      none_first x xs (p x) (subst (λ n. suc (length xs) ≤ cond (not (p x)) n 0) e le) (none_at xs)

  pub finds : (xs : List X) (i : ℕ) (d : X) → position p xs ≡ Some i → find p xs ≡ Some (get_or xs i d)
  finds xs i d at = by (ltb (place xs) (length xs)) refl at
    where
      by : (b : Bool) → ltb (place xs) (length xs) ≡ b → cond b (Some (place xs)) None ≡ Some i → find p xs ≡ Some (get_or xs i d)
      by true e h = let same : place xs ≡ i = cc in subst (λ n. find p xs ≡ Some (get_or xs n d)) same (found_at xs d (ltb-true _ _ e))
      by false e h = cc

  pub finds_none : (xs : List X) → position p xs ≡ None → find p xs ≡ None
  finds_none xs at = by (ltb (place xs) (length xs)) refl at
    where
      by : (b : Bool) → ltb (place xs) (length xs) ≡ b → cond b (Some (place xs)) None ≡ None → find p xs ≡ None
      by true e h = cc
      by false e h = none_at xs (ltb-false _ _ e)
