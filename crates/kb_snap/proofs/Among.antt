-- Elements of lists, and lists without an element twice.
use Rattle.std.proofs.Common.{ℕ, zero, suc, ◌<◌, List, [], ◌∷◌, ◌++◌, length, map, take, get_or, refl, ap, sym, subst, arith, inl, inr}
use Rattle.std.specs.Prelude.{◌⊎◌}
use Rattle.std.specs.List.{AllByRecursion}
use Rattle.kb_name.specs.declared.ids.NodeId.{NodeId}
use Rattle.kb_snap.specs.Holds.{IsOneOf}
use Rattle.kb_snap.specs.Orders.{AreApart}

module _ {X : Type 0} where
  pub one_front : (x : X) (xs ys : List X) → IsOneOf x xs → IsOneOf x (xs ++ ys)
  one_front x [] ys h = absurd h
  one_front x (y ∷ xs) ys h = elim h [ inl here ↦ inl here | inr there ↦ inr (one_front x xs ys there) ]

  pub one_back : (x : X) (xs ys : List X) → IsOneOf x ys → IsOneOf x (xs ++ ys)
  one_back x [] ys h = h
  one_back x (y ∷ xs) ys h = inr (one_back x xs ys h)

  pub one_split : (x : X) (xs ys : List X) → IsOneOf x (xs ++ ys) → IsOneOf x xs ⊎ IsOneOf x ys
  one_split x [] ys h = inr h
  one_split x (y ∷ xs) ys h = elim h [
    | inl here ↦ inl (inl here)
    | inr there ↦ elim (one_split x xs ys there) [ inl a ↦ inl (inr a) | inr b ↦ inr b ]
  ]

  pub one_map : {Y : Type 0} (f : X → Y) (x : X) (xs : List X) → IsOneOf x xs → IsOneOf (f x) (map f xs)
  one_map f x [] h = absurd h
  one_map f x (y ∷ xs) h = elim h [ inl here ↦ inl (ap f here) | inr there ↦ inr (one_map f x xs there) ]

  pub all_one : (P : X → Type 0) (xs : List X) → AllByRecursion P xs → (x : X) → IsOneOf x xs → P x
  all_one P [] a x h = absurd h
  all_one P (y ∷ xs) a x h = elim h [ inl here ↦ subst P (sym here) a.0 | inr there ↦ all_one P xs a.1 x there ]

  pub one_all : (P : X → Type 0) (xs : List X) → ((x : X) → IsOneOf x xs → P x) → AllByRecursion P xs
  one_all P [] f = tt
  one_all P (y ∷ xs) f = (f y (inl refl), one_all P xs (λ x h. f x (inr h)))

  pub all_append : (P : X → Type 0) (xs ys : List X) → AllByRecursion P xs → AllByRecursion P ys → AllByRecursion P (xs ++ ys)
  all_append P [] ys a b = b
  all_append P (x ∷ xs) ys a b = (a.0, all_append P xs ys a.1 b)

  pub all_front : (P : X → Type 0) (xs ys : List X) → AllByRecursion P (xs ++ ys) → AllByRecursion P xs
  all_front P [] ys a = tt
  all_front P (x ∷ xs) ys a = (a.0, all_front P xs ys a.1)

  pub all_back : (P : X → Type 0) (xs ys : List X) → AllByRecursion P (xs ++ ys) → AllByRecursion P ys
  all_back P [] ys a = a
  all_back P (x ∷ xs) ys a = all_back P xs ys a.1

  -- the element at a place
  pub one_at : (xs : List X) (i : ℕ) (d : X) → i < length xs → IsOneOf (get_or xs i d) xs
  one_at [] i d lt = absurd (omega arith)
  one_at (x ∷ xs) zero d lt = inl refl
  one_at (x ∷ xs) (suc i) d lt = inr (one_at xs i d (omega (arith, lt)))

  pub one_taken : (xs ys : List X) (i : ℕ) (x : X) → IsOneOf x (take i xs) → IsOneOf x (take (suc i) (xs ++ ys))
  one_taken [] ys zero x h = absurd h
  one_taken [] ys (suc i) x h = absurd h
  one_taken (y ∷ xs) ys zero x h = absurd h
  one_taken (y ∷ xs) ys (suc i) x h = elim h [ inl here ↦ inl here | inr there ↦ inr (one_taken xs ys i x there) ]

  pub one_next : (xs ys : List X) (i : ℕ) (d : X) → i < length xs → IsOneOf (get_or xs i d) (take (suc i) (xs ++ ys))
  one_next [] ys i d lt = absurd (omega arith)
  one_next (y ∷ xs) ys zero d lt = inl refl
  one_next (y ∷ xs) ys (suc i) d lt = inr (one_next xs ys i d (omega (arith, lt)))

  pub one_of_taken : (xs : List X) (i : ℕ) (x : X) → IsOneOf x (take i xs) → IsOneOf x xs
  one_of_taken [] zero x h = h
  one_of_taken [] (suc i) x h = h
  one_of_taken (y ∷ xs) zero x h = absurd h
  one_of_taken (y ∷ xs) (suc i) x h = elim h [ inl here ↦ inl here | inr there ↦ inr (one_of_taken xs i x there) ]

pub apart_append : (xs ys : List NodeId) → AreApart xs → AreApart ys → ((q : NodeId) → IsOneOf q xs → IsOneOf q ys → ⊥) → AreApart (xs ++ ys)
apart_append [] ys a b off = b
apart_append (x ∷ xs) ys a b off = (
  (λ h. elim (one_split x xs ys h) [ inl l ↦ a.0 l | inr r ↦ off x (inl refl) r ]),
  apart_append xs ys a.1 b (λ q l r. off q (inr l) r),
)

-- an element at a place isn't one of those before it
pub apart_at : (xs : List NodeId) (i : ℕ) (d : NodeId) → AreApart xs → i < length xs → IsOneOf (get_or xs i d) (take i xs) → ⊥
apart_at [] i d a lt h = absurd (omega arith)
apart_at (x ∷ xs) zero d a lt h = h
apart_at (x ∷ xs) (suc i) d a lt h = elim h [
  | inl here ↦ a.0 (subst (λ (q : NodeId). IsOneOf q xs) here (one_at xs i d (omega (arith, lt))))
  | inr there ↦ apart_at xs i d a.1 (omega (arith, lt)) there
]

-- one in the middle isn't behind
pub apart_behind : (xs : List NodeId) (q : NodeId) (ys : List NodeId) → AreApart (xs ++ q ∷ ys) → IsOneOf q ys → ⊥
apart_behind [] q ys a h = a.0 h
apart_behind (x ∷ xs) q ys a h = apart_behind xs q ys a.1 h
