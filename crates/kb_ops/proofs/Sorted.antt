-- What a sorted vector of entries finds, and what an edit at a place does, for any keys.
use Rattle.std.proofs.Common.{◌≡◌, ℕ, zero, suc, ◌≤◌, ◌<◌, Bool, true, false, List, [], ◌∷◌, length, map, cond, Option, Some, None, ◌&&◌, refl, sym, ap, ◌∙◌, arith, slice_get, slice_index_or}
use Rattle.std.specs.Option.{option_and_then}
use Rattle.std.specs.List.{insert}
use Rattle.std.specs.List.Sorted.{IsPartitionedBy, IsPartitionPoint}
use Rattle.std.specs.declared.cmp.Ordering.{Ordering}
use Rattle.std.specs.declared.cmp.Ordering.TheVariants.{Less, Equal, Greater}
use Rattle.std.specs.Ordering.{eq_by_cmp, is_lt, is_eq, ordering_reverse}
use Rattle.std.specs.Cmp.{IsTotalOrder}
use Rattle.std.specs.FinMap.{IsAntisymmetric}
use Rattle.std.specs.FinMap.Entries.{find, put, by_order, below_all, is_sorted}
use Rattle.kb_ops.specs.Sorted.{place_in_order, count_front}
use Rattle.kb_ops.proofs.Nodes.{and_first, and_second}
use Rattle.kb_ops.proofs.Lists.{less_is}

module _ {K X : Type 0} (R : K → K → Ordering) (o : IsTotalOrder R) (same : IsAntisymmetric R) where
  abbrev place : K → List (K × X) → ℕ
  place k es = place_in_order R k es

  place_by : (k : K) (e : K × X) (es : List (K × X)) (c : Ordering) → R k e.0 ≡ c → place k (e ∷ es) ≡ cond (is_lt (ordering_reverse c)) (suc (place k es)) 0
  place_by k e es c p = ap (λ b. cond b (suc (place k es)) 0) (ap is_lt (o.antisymm e.0 k ∙ ap ordering_reverse p))

  find_by : (k : K) (e : K × X) (es : List (K × X)) (c : Ordering) → R k e.0 ≡ c → find R k (e ∷ es) ≡ cond (is_eq c) (Some e.1) (find R k es)
  find_by k e es c p = ap (λ r. cond (is_eq r) (Some e.1) (find R k es)) p

  -- a new entry goes into its place
  pub put_new : (k : K) (x : X) (es : List (K × X)) → find R k es ≡ None → put R k x es ≡ insert es (place k es) (k, x)
  put_new k x [] none = refl
  put_new k x (e ∷ es) none =
      elim (R k e.0) as (λ c. R k e.0 ≡ c → by_order c ((k, x) ∷ e ∷ es) ((e.0, x) ∷ es) (e ∷ put R k x es) ≡ insert (e ∷ es) (place k (e ∷ es)) (k, x)) [
        | Less ↦ λ p. ap (λ n. insert (e ∷ es) n (k, x)) (sym (place_by k e es Less p))
        | Equal ↦ λ p. let some : find R k (e ∷ es) ≡ Some e.1 = find_by k e es Equal p in cc
        | Greater ↦ λ p. ap (λ l. e ∷ l) (put_new k x es (sym (find_by k e es Greater p) ∙ none)) ∙ ap (λ n. insert (e ∷ es) n (k, x)) (sym (place_by k e es Greater p))
      ] refl

  below_from : (k m : K) → ((y : K) → R m y ≡ Less → R k y ≡ Less) → (es : List (K × X)) → below_all R m es ≡ true → below_all R k es ≡ true
  below_from k m step [] h = refl
  below_from k m step (e ∷ es) h = ap (λ c. is_lt c && below_all R k es) (step e.0 (less_is _ (and_first _ _ h))) ∙ below_from k m step es (and_second _ _ h)

  none_below : (k : K) (es : List (K × X)) → below_all R k es ≡ true → find R k es ≡ None
  none_below k [] h = refl
  none_below k (e ∷ es) h = find_by k e es Less (less_is _ (and_first _ _ h)) ∙ none_below k es (and_second _ _ h)

  -- the value at the place of a key, if the key is there
  abbrev pub if_key : K → K × X → Option X
  if_key k e = cond (eq_by_cmp R k e.0) (Some e.1) None

  pub find_is : (k : K) (es : List (K × X)) → is_sorted R es ≡ true → find R k es ≡ option_and_then (if_key k) (slice_get es (place k es))
  find_is k [] up = refl
  find_is k (e ∷ es) up =
      elim (R k e.0) as (λ c. R k e.0 ≡ c → find R k (e ∷ es) ≡ option_and_then (if_key k) (slice_get (e ∷ es) (place k (e ∷ es)))) [
        | Less ↦ λ p.
            find_by k e es Less p ∙ none_below k es (below_from k e.0 (λ y l. o.trans k e.0 y p l) es (and_first _ _ up))
            ∙ sym (ap (λ n. option_and_then (if_key k) (slice_get (e ∷ es) n)) (place_by k e es Less p) ∙ ap (λ c. cond (is_eq c) (Some e.1) None) p)
        | Equal ↦ λ p.
            find_by k e es Equal p
            ∙ sym (ap (λ n. option_and_then (if_key k) (slice_get (e ∷ es) n)) (place_by k e es Equal p) ∙ ap (λ c. cond (is_eq c) (Some e.1) None) p)
        | Greater ↦ λ p.
            find_by k e es Greater p ∙ find_is k es (and_second _ _ up)
            ∙ sym (ap (λ n. option_and_then (if_key k) (slice_get (e ∷ es) n)) (place_by k e es Greater p))
      ] refl

  below_at : (k : K) (es : List (K × X)) → below_all R k es ≡ true → (j : ℕ) (d : K × X) → j < length es → R k (slice_index_or es j d).0 ≡ Less
  below_at k [] h j d lt = absurd (omega arith)
  below_at k (e ∷ es) h zero d lt = less_is _ (and_first _ _ h)
  below_at k (e ∷ es) h (suc j) d lt = below_at k es (and_second _ _ h) j d (omega arith)

  pub place_lt_not_put : (k : K) (es : List (K × X)) → place k es ≤ length es
  place_lt_not_put k [] = omega arith
  place_lt_not_put k (e ∷ es) = elim (is_lt (R e.0 k)) as (λ b. cond b (suc (place k es)) 0 ≤ length (e ∷ es)) [ true ↦ omega (arith, place_lt_not_put k es) | false ↦ omega arith ]

  -- a list of things that stand for entries
  module _ {A : Type 0} (f : A → K × X) where
    abbrev before : K → A → Bool
    before k x = is_lt (R (f x).0 k)

    below_in : (k : K) (xs : List A) → below_all R k (map f xs) ≡ true → (j : ℕ) (d : A) → j < length xs → R k (f (slice_index_or xs j d)).0 ≡ Less
    below_in k [] h j d lt = absurd (omega arith)
    below_in k (x ∷ xs) h zero d lt = less_is _ (and_first _ _ h)
    below_in k (x ∷ xs) h (suc j) d lt = below_in k xs (and_second _ _ h) j d (omega arith)

    pub parted : (k : K) (xs : List A) → is_sorted R (map f xs) ≡ true → IsPartitionedBy (before k) xs
    parted k [] up i j d le lt p = absurd (omega arith)
    parted k (x ∷ xs) up zero zero d le lt p = p
    parted k (x ∷ xs) up zero (suc j) d le lt p = ap is_lt (o.trans (f x).0 _ k (below_in (f x).0 xs (and_first _ _ up) j d (omega arith)) (less_is _ p))
    parted k (x ∷ xs) up (suc i) zero d le lt p = absurd (omega arith)
    parted k (x ∷ xs) up (suc i) (suc j) d le lt p = parted k xs (and_second _ _ up) i j d (omega arith) (omega arith) p

    pub place_front : (k : K) (xs : List A) → count_front (before k) xs ≡ place k (map f xs)
    place_front k [] = refl
    place_front k (x ∷ xs) = ap (λ n. cond (before k x) (suc n) 0) (place_front k xs)

-- where the front ends
pub front_is : {A : Type 0} (test : A → Bool) (xs : List A) (i : ℕ) → i ≤ length xs → IsPartitionPoint (λ x. test x ≡ true) (λ x. test x ≡ false) xs i → i ≡ count_front test xs
front_is test [] i le h = omega arith
front_is test (x ∷ xs) zero le h = sym (ap (λ b. cond b (suc (count_front test xs)) 0) (h.1 0 x (omega arith) (omega arith)))
front_is test (x ∷ xs) (suc i) le h =
    ap suc (front_is test xs i (omega arith) (λ j d low high. h.0 (suc j) d (omega arith) (omega arith), λ j d low high. h.1 (suc j) d (omega arith) (omega arith)))
    ∙ sym (ap (λ b. cond b (suc (count_front test xs)) 0) (h.0 0 x (omega arith) (omega arith)))

pub map-insert : {A B : Type 0} (f : A → B) (xs : List A) (i : ℕ) (x : A) → map f (insert xs i x) ≡ insert (map f xs) i (f x)
map-insert f xs zero x = refl
map-insert f [] (suc i) x = refl
map-insert f (y ∷ xs) (suc i) x = ap (λ l. f y ∷ l) (map-insert f xs i x)
