-- More on entries in the order of their keys, for any keys: what stands at a place, and what is left without a key.
use Rattle.std.proofs.Common.{◌≡◌, ◌≢◌, ℕ, zero, suc, ◌<◌, Bool, true, false, not, List, [], ◌∷◌, length, map, cond, Some, None, ◌&&◌, refl, sym, ap, ◌∙◌, arith, slice_get, slice_index_or}
use Rattle.std.specs.Prelude.{T, filter}
use Rattle.std.specs.List.{list_all, remove}
use Rattle.std.specs.List.Sorted.{IsPartitionedBy}
use Rattle.std.specs.Option.{unwrap_or}
use Rattle.std.specs.declared.cmp.Ordering.{Ordering}
use Rattle.std.specs.declared.cmp.Ordering.TheVariants.{Less, Equal, Greater}
use Rattle.std.specs.Ordering.{eq_by_cmp, is_lt, is_eq, ordering_reverse}
use Rattle.std.specs.Cmp.{IsTotalOrder, tied_itself}
use Rattle.std.specs.FinMap.{IsAntisymmetric}
use Rattle.std.specs.FinMap.Entries.{find, where_key, below_all, is_sorted}
use Rattle.kb_ops.specs.Sorted.{place_in_order}
use Rattle.kb_ops.proofs.Nodes.{and_first, and_second}
use Rattle.kb_ops.proofs.Lists.{less_is}

pub some_is : {A : Type 0} (x y : A) → Some x ≡ Some y → x ≡ y
some_is x y e = ap (λ o. unwrap_or o x) e

pub none_some : {A : Type 0} (x : A) → None ≢ Some x
none_some x e = cc

pub both : (a b : Bool) → a ≡ true → b ≡ true → (a && b) ≡ true
both a b p q = ap (λ x. x && b) p ∙ q

pub is_true : (b : Bool) → T b → b ≡ true
is_true true h = refl
is_true false h = absurd h

-- what passes a filter passes its test
pub all_pass : {A : Type 0} (test : A → Bool) (xs : List A) → list_all test (filter test xs) ≡ true
all_pass test [] = refl
all_pass test (x ∷ xs) = elim (test x) as (λ b. test x ≡ b → list_all test (cond b (x ∷ filter test xs) (filter test xs)) ≡ true) [
  | true ↦ λ e. both _ _ e (all_pass test xs)
  | false ↦ λ e. all_pass test xs
] refl

pub map-remove : {A B : Type 0} (f : A → B) (xs : List A) (i : ℕ) → map f (remove xs i) ≡ remove (map f xs) i
map-remove f [] zero = refl
map-remove f [] (suc i) = refl
map-remove f (x ∷ xs) zero = refl
map-remove f (x ∷ xs) (suc i) = ap (λ l. f x ∷ l) (map-remove f xs i)

module _ {K X : Type 0} (R : K → K → Ordering) (o : IsTotalOrder R) (same : IsAntisymmetric R) where
  abbrev place : K → List (K × X) → ℕ
  place k es = place_in_order R k es

  place_by : (k : K) (e : K × X) (es : List (K × X)) (c : Ordering) → R k e.0 ≡ c → place k (e ∷ es) ≡ cond (is_lt (ordering_reverse c)) (suc (place k es)) 0
  place_by k e es c p = ap (λ b. cond b (suc (place k es)) 0) (ap is_lt (o.antisymm e.0 k ∙ ap ordering_reverse p))

  find_by : (k : K) (e : K × X) (es : List (K × X)) (c : Ordering) → R k e.0 ≡ c → find R k (e ∷ es) ≡ cond (is_eq c) (Some e.1) (find R k es)
  find_by k e es c p = ap (λ r. cond (is_eq r) (Some e.1) (find R k es)) p

  below_from : (k m : K) → ((y : K) → R m y ≡ Less → R k y ≡ Less) → (es : List (K × X)) → below_all R m es ≡ true → below_all R k es ≡ true
  below_from k m step [] h = refl
  below_from k m step (e ∷ es) h = ap (λ c. is_lt c && below_all R k es) (step e.0 (less_is _ (and_first _ _ h))) ∙ below_from k m step es (and_second _ _ h)

  none_below : (k : K) (es : List (K × X)) → below_all R k es ≡ true → find R k es ≡ None
  none_below k [] h = refl
  none_below k (e ∷ es) h = find_by k e es Less (less_is _ (and_first _ _ h)) ∙ none_below k es (and_second _ _ h)

  below_got : (k : K) (es : List (K × X)) → below_all R k es ≡ true → (j : ℕ) (e : K × X) → slice_get es j ≡ Some e → R k e.0 ≡ Less
  below_got k [] h j e got = absurd (none_some e got)
  below_got k (x ∷ es) h zero e got = less_is _ (and_first _ _ (ap (λ (y : K × X). is_lt (R k y.0) && below_all R k es) (sym (some_is x e got)) ∙ h))
  below_got k (x ∷ es) h (suc j) e got = below_got k es (and_second _ _ h) j e got

  -- an entry stands at the place of its key alone
  pub place_at : (es : List (K × X)) → is_sorted R es ≡ true → (j : ℕ) (e : K × X) → slice_get es j ≡ Some e → place e.0 es ≡ j
  place_at [] up j e got = absurd (none_some e got)
  place_at (x ∷ es) up zero e got = place_by e.0 x es Equal (ap (λ (y : K × X). R e.0 y.0) (some_is x e got) ∙ tied_itself o e.0)
  place_at (x ∷ es) up (suc j) e got =
      place_by e.0 x es Greater (o.antisymm e.0 x.0 ∙ ap ordering_reverse (below_got x.0 es (and_first _ _ up) j e got))
      ∙ ap suc (place_at es (and_second _ _ up) j e got)

  -- and is found there
  pub found_at : (k : K) (x : X) (es : List (K × X)) → is_sorted R es ≡ true → find R k es ≡ Some x → slice_get es (place k es) ≡ Some (k, x)
  found_at k x [] up h = absurd (none_some x h)
  found_at k x (e ∷ es) up h =
      elim (R k e.0) as (λ c. R k e.0 ≡ c → slice_get (e ∷ es) (place k (e ∷ es)) ≡ Some (k, x)) [
        | Less ↦ λ p. absurd (none_some x (sym (find_by k e es Less p ∙ none_below k es (below_from k e.0 (λ y l. o.trans k e.0 y p l) es (and_first _ _ up))) ∙ h))
        | Equal ↦ λ p.
            let value : e.1 ≡ x = some_is e.1 x (sym (find_by k e es Equal p) ∙ h) in
            ap (slice_get (e ∷ es)) (place_by k e es Equal p) ∙ (λ i. Some (sym (same k e.0 p) i, value i))
        | Greater ↦ λ p. ap (slice_get (e ∷ es)) (place_by k e es Greater p) ∙ found_at k x es (and_second _ _ up) (sym (find_by k e es Greater p) ∙ h)
      ] refl

  abbrev pub others : K → List (K × X) → List (K × X)
  others k es = where_key R (λ y. not (eq_by_cmp R k y)) es

  all_others : (k : K) (es : List (K × X)) → below_all R k es ≡ true → others k es ≡ es
  all_others k [] h = refl
  all_others k (e ∷ es) h =
      ap (λ c. cond (not (is_eq c)) (e ∷ others k es) (others k es)) (less_is _ (and_first _ _ h))
      ∙ ap (λ l. e ∷ l) (all_others k es (and_second _ _ h))

  -- without its entry, the others are left
  pub others_are : (k : K) (x : X) (es : List (K × X)) → is_sorted R es ≡ true → find R k es ≡ Some x → others k es ≡ remove es (place k es)
  others_are k x [] up h = absurd (none_some x h)
  others_are k x (e ∷ es) up h =
      elim (R k e.0) as (λ c. R k e.0 ≡ c → cond (not (is_eq c)) (e ∷ others k es) (others k es) ≡ remove (e ∷ es) (place k (e ∷ es))) [
        | Less ↦ λ p. absurd (none_some x (sym (find_by k e es Less p ∙ none_below k es (below_from k e.0 (λ y l. o.trans k e.0 y p l) es (and_first _ _ up))) ∙ h))
        | Equal ↦ λ p. all_others k es (below_from k e.0 (λ y l. o.congr k e.0 y p ∙ l) es (and_first _ _ up)) ∙ ap (remove (e ∷ es)) (sym (place_by k e es Equal p))
        | Greater ↦ λ p. ap (λ l. e ∷ l) (others_are k x es (and_second _ _ up) (sym (find_by k e es Greater p) ∙ h)) ∙ ap (remove (e ∷ es)) (sym (place_by k e es Greater p))
      ] refl

  -- a list of things that stand for entries, with a test that each passes which stands before one that passes
  module _ {A : Type 0} (f : A → K × X) (test : A → Bool) (before : (a b : A) → R (f a).0 (f b).0 ≡ Less → test b ≡ true → test a ≡ true) where
    below_all_in : (k : K) (xs : List A) → below_all R k (map f xs) ≡ true → (j : ℕ) (d : A) → j < length xs → R k (f (slice_index_or xs j d)).0 ≡ Less
    below_all_in k [] h j d lt = absurd (omega arith)
    below_all_in k (x ∷ xs) h zero d lt = less_is _ (and_first _ _ h)
    below_all_in k (x ∷ xs) h (suc j) d lt = below_all_in k xs (and_second _ _ h) j d (omega arith)

    pub parted_by : (xs : List A) → is_sorted R (map f xs) ≡ true → IsPartitionedBy test xs
    parted_by [] up i j d le lt p = absurd (omega arith)
    parted_by (x ∷ xs) up zero zero d le lt p = p
    parted_by (x ∷ xs) up zero (suc j) d le lt p = before x _ (below_all_in (f x).0 xs (and_first _ _ up) j d (omega arith)) p
    parted_by (x ∷ xs) up (suc i) zero d le lt p = absurd (omega arith)
    parted_by (x ∷ xs) up (suc i) (suc j) d le lt p = parted_by xs (and_second _ _ up) i j d (omega arith) (omega arith) p

  -- an entry of a list in order is found by its key
  pub find_got : (es : List (K × X)) → is_sorted R es ≡ true → (j : ℕ) (e : K × X) → slice_get es j ≡ Some e → find R e.0 es ≡ Some e.1
  find_got [] up j e got = absurd (none_some e got)
  find_got (x ∷ es) up zero e got =
      let is : x ≡ e = some_is x e got in
      find_by e.0 x es Equal (ap (λ (y : K × X). R e.0 y.0) is ∙ tied_itself o e.0) ∙ ap (λ (y : K × X). Some y.1) is
  find_got (x ∷ es) up (suc j) e got =
      find_by e.0 x es Greater (o.antisymm e.0 x.0 ∙ ap ordering_reverse (below_got x.0 es (and_first _ _ up) j e got)) ∙ find_got es (and_second _ _ up) j e got
