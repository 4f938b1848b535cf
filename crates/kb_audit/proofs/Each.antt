-- What holds of each of a list, one after another.
use Rattle.std.proofs.Common.{◌≡◌, ℕ, zero, suc, ◌+◌, ◌<◌, ◌≤◌, List, [], ◌∷◌, ◌++◌, length, take, get_or, sym, subst, arith}
use Rattle.std.specs.List.{AllByRecursion}
use Rattle.std.proofs.lemmas.List.{take_more, take_all}

module _ {X : Type 0} (P : X → Type 0) where
  append_each : (xs ys : List X) → AllByRecursion P xs → AllByRecursion P ys → AllByRecursion P (xs ++ ys)
  append_each [] ys h k = k
  append_each (x ∷ xs) ys h k = (h.0, append_each xs ys h.1 k)

  -- it holds of one more
  pub each_more : (xs : List X) (i : ℕ) (x : X) → i < length xs → x ≡ get_or xs i x → AllByRecursion P (take i xs) → P x → AllByRecursion P (take (i + 1) xs)
  each_more xs i x lt is all p = subst (AllByRecursion P) (sym (take_more xs i x lt)) (append_each (take i xs) (get_or xs i x ∷ []) all (subst P is p, tt))

  -- and of each
  pub each_all : (xs : List X) (i : ℕ) → length xs ≤ i → AllByRecursion P (take i xs) → AllByRecursion P xs
  each_all xs i le all = subst (AllByRecursion P) (take_all i xs le) all

  -- what holds of each holds of this one
  pub each_at : (xs : List X) (i : ℕ) (x : X) → i < length xs → x ≡ get_or xs i x → AllByRecursion P xs → P x
  each_at [] i x lt is all = absurd (omega (arith, lt))
  each_at (y ∷ ys) zero x lt is all = subst P (sym is) all.0
  each_at (y ∷ ys) (suc i) x lt is all = each_at ys i x (omega (arith, lt)) is all.1
