-- Beginnings of one list, and the entries of a number in them.
use Rattle.std.proofs.Common.{◌≡◌, ℕ, zero, suc, set, get_or, ◌+◌, ◌<◌, ◌≤◌, ◌==◌, ◌≢◌, ◌⊎◌, inl, inr, false, List, [], ◌∷◌, ◌++◌, length, refl, ap, sym, ◌∙◌, arith, append_assoc, length-append, ⊎_elim}
use Rattle.std.proofs.lemmas.List.{append-nil}
use Rattle.std.proofs.lemmas.List.Elements.{filter-append}
use Rattle.std.proofs.lemmas.Bool.Decides.{nat_tests}
use mathlib.Core.List.{IsPrefix}
use mathlib.Core.Option.{some, some-ne-none, some-injective}
use Rattle.std.specs.List.{All}
use Rattle.std.specs.Prelude.{Option, Some, None, IfSome, IfNone}
use lib.ListN.{get_elem?}
use Rattle.kb_turn.specs.Views.{Among, of}

-- what one list begins with, an equal one does
pub same_head : {A : Type 0} (x y : A) (xs ys : List A) → x ∷ xs ≡ y ∷ ys → x ≡ y
same_head x y xs ys e = cc e

module _ {A : Type 0} where
  pub prefix_self : (xs : List A) → IsPrefix xs xs
  prefix_self xs = ([], append-nil xs)

  pub prefix_snoc : (xs : List A) (a : A) → IsPrefix xs (xs ++ a ∷ [])
  prefix_snoc xs a = (a ∷ [], refl)

  pub prefix_trans : (xs ys zs : List A) → IsPrefix xs ys → IsPrefix ys zs → IsPrefix xs zs
  prefix_trans xs ys zs p q = (p.0 ++ q.0, sym (append_assoc xs p.0 q.0) ∙ (ap (λ w. w ++ q.0) p.1 ∙ q.1))

  -- of two beginnings of one list the shorter begins the longer
  pub prefix_shorter : (xs ys zs : List A) → IsPrefix xs zs → IsPrefix ys zs → length xs ≤ length ys → IsPrefix xs ys
  prefix_shorter [] ys zs p q le = (ys, refl)
  prefix_shorter (x ∷ xs) [] zs p q le = absurd (omega arith)
  prefix_shorter (x ∷ xs) (y ∷ ys) [] p q le = absurd (cc (p.1))
  prefix_shorter (x ∷ xs) (y ∷ ys) (z ∷ zs) p q le =
      let heads : x ≡ y = cc (p.1, q.1) in
      let rest = prefix_shorter xs ys zs (p.0, cc (p.1)) (q.0, cc (q.1)) (omega arith) in
      (rest.0, cc (heads, rest.1))

  pub prefix_length : (xs ys : List A) → IsPrefix xs ys → length xs ≤ length ys
  prefix_length xs ys p = omega (arith, sym (ap length p.1) ∙ length-append xs p.0)

-- what was set at a place that there is stands there
pub set_there : {A : Type 0} (l : List A) (i : ℕ) (a b : A) → get_elem? l i ≡ some a → get_elem? (set l i b) i ≡ some b
set_there [] i a b e = absurd (some-ne-none a (sym e))
set_there (x ∷ xs) zero a b e = refl
set_there (x ∷ xs) (suc i) a b e = set_there xs i a b e

pub at_snoc_place : {A : Type 0} (l : List A) (a b : A) (j : ℕ) → get_elem? (l ++ a ∷ []) j ≡ some b → (get_elem? l j ≡ some b) ⊎ ((j ≡ length l) × (a ≡ b))
at_snoc_place [] a b zero e = inr (refl, some-injective a b e)
at_snoc_place [] a b (suc j) e = absurd (some-ne-none b (sym e))
at_snoc_place (x ∷ xs) a b zero e = inl e
at_snoc_place (x ∷ xs) a b (suc j) e = ⊎_elim (λ t. inl t) (λ t. inr (omega (arith, t.0), t.1)) (at_snoc_place xs a b j e)

pub at_one : {A : Type 0} (a : A) (j : ℕ) (b : A) → get_elem? (a ∷ []) j ≡ some b → (j ≡ 0) × (a ≡ b)
at_one a zero b e = (refl, some-injective a b e)
at_one a (suc j) b e = absurd (some-ne-none b (sym e))

-- a number among those of two lists is among those of one
pub among_append : (k : ℕ) (xs ys : List ℕ) → Among k (xs ++ ys) → Among k xs ⊎ Among k ys
among_append k [] ys m = inr m
among_append k (x ∷ xs) ys m = ⊎_elim (λ e. inl (inl e)) (λ t. ⊎_elim (λ l. inl (inr l)) (λ r. inr r) (among_append k xs ys t)) m

pub among_left : (k : ℕ) (xs ys : List ℕ) → Among k xs → Among k (xs ++ ys)
among_left k [] ys m = absurd m
among_left k (x ∷ xs) ys m = ⊎_elim (λ e. inl e) (λ t. inr (among_left k xs ys t)) m

pub among_right : (k : ℕ) (xs ys : List ℕ) → Among k ys → Among k (xs ++ ys)
among_right k [] ys m = m
among_right k (x ∷ xs) ys m = inr (among_right k xs ys m)

module _ {E : Type 0} (number_of : E → ℕ) where
  -- an entry of another number is none of this one
  pub of_other : (k : ℕ) (xs : List E) (e : E) → number_of e ≢ k → of number_of k (xs ++ e ∷ []) ≡ of number_of k xs
  of_other k xs e ne = filter-append (λ x. number_of x == k) xs (e ∷ []) ∙ (let b : (number_of e == k) ≡ false = grind (arith, nat_tests) in rw b (append-nil (of number_of k xs)))

  -- where no entry carries a number, none carries this one
  pub of_bare : (k : ℕ) (xs : List E) → 0 < k → All (λ e. number_of e ≡ 0) xs → of number_of k xs ≡ []
  of_bare k [] pos h = refl
  of_bare k (x ∷ xs) pos h = let zero_at = h 0 x (omega arith) in let b : (number_of x == k) ≡ false = grind (arith, nat_tests) in rw b (of_bare k xs pos (λ i d lt. h (suc i) d (omega arith)))

  nothing_more : (us bs cs : List E) → length (us ++ bs) ≤ length us → us ++ bs ≡ us
  nothing_more us [] cs le = append-nil us
  nothing_more us (b ∷ bs) cs le = absurd (omega (arith, length-append us (b ∷ bs)))

  -- where a beginning has all entries of a number, so has each list between it and the whole
  pub of_between : (k : ℕ) (xs ys zs : List E) → IsPrefix xs ys → IsPrefix ys zs → of number_of k zs ≡ of number_of k xs → of number_of k ys ≡ of number_of k xs
  of_between k xs ys zs p q same =
      let t = λ (e : E). number_of e == k in
      let first : of number_of k ys ≡ of number_of k xs ++ of number_of k p.0 = ap (of number_of k) (sym p.1) ∙ filter-append t xs p.0 in
      let second : of number_of k zs ≡ of number_of k ys ++ of number_of k q.0 = ap (of number_of k) (sym q.1) ∙ filter-append t ys q.0 in
      let l : length (of number_of k xs) ≡ length (of number_of k ys) + length (of number_of k q.0) = ap length (sym same) ∙ (ap length second ∙ length-append (of number_of k ys) (of number_of k q.0)) in
      first ∙ nothing_more (of number_of k xs) (of number_of k p.0) [] (let f : length (of number_of k ys) ≡ length (of number_of k xs ++ of number_of k p.0) = ap length first in omega arith)

module _ {A : Type 0} (P : A → Type 0) where
  pub all_left : (xs ys : List A) → All P (xs ++ ys) → All P xs
  all_left [] ys h k d lt = absurd (omega arith)
  all_left (x ∷ xs) ys h zero d lt = h 0 d (omega arith)
  all_left (x ∷ xs) ys h (suc k) d lt = all_left xs ys (λ i e l. h (suc i) e (omega arith)) k d (omega arith)

  pub all_last : (xs : List A) (x : A) → All P (xs ++ x ∷ []) → P x
  all_last [] x h = h 0 x (omega arith)
  all_last (y ∷ xs) x h = all_last xs x (λ i e l. h (suc i) e (omega arith))

  pub all_cons : (x : A) (xs : List A) → P x → All P xs → All P (x ∷ xs)
  all_cons x xs p h zero d lt = p
  all_cons x xs p h (suc k) d lt = h k d (omega arith)

  pub all_snoc : (xs : List A) (x : A) → All P xs → P x → All P (xs ++ x ∷ [])
  all_snoc [] x h p = all_cons x [] p (λ k d lt. absurd (omega arith))
  all_snoc (y ∷ xs) x h p = all_cons y (xs ++ x ∷ []) (h 0 y (omega arith)) (all_snoc xs x (λ i e l. h (suc i) e (omega arith)) p)

pub nil_of_length : {A : Type 0} (xs : List A) → length xs ≡ 0 → xs ≡ []
nil_of_length [] e = refl
nil_of_length (x ∷ xs) e = absurd (omega arith)

pub if_some_more : {A : Type 0} (P Q : A → Type 0) (o : Option A) → ((x : A) → P x → Q x) → IfSome o P → IfSome o Q
if_some_more P Q None f h = tt
if_some_more P Q (Some x) f h = f x h

-- what holds of each element and its place still does with one more
pub each_snoc : {A : Type 0} (P : ℕ → A → Type 0) (xs : List A) (x : A) → ((j : ℕ) (d : A) → j < length xs → P j (get_or xs j d)) → P (length xs) x → (j : ℕ) (d : A) → j < length (xs ++ x ∷ []) → P j (get_or (xs ++ x ∷ []) j d)
each_snoc P [] x h p zero d lt = p
each_snoc P [] x h p (suc j) d lt = absurd (omega arith)
each_snoc P (y ∷ xs) x h p zero d lt = h 0 d (omega arith)
each_snoc P (y ∷ xs) x h p (suc j) d lt = each_snoc (λ i. P (suc i)) xs x (λ i e l. h (suc i) e (omega arith)) p j d (omega arith)

pub if_none_more : {A : Type 0} (P Q : Type 0) (o : Option A) → (P → Q) → IfNone o P → IfNone o Q
if_none_more P Q None f h = f h
if_none_more P Q (Some x) f h = tt

pub if_none_is : {A : Type 0} (P : Type 0) (o : Option A) → (o ≡ None → P) → IfNone o P
if_none_is P None f = f refl
if_none_is P (Some x) f = tt
