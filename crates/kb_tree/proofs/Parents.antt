-- The rows of a parent stand together in the order of places.
use Rattle.std.proofs.Common.{◌≡◌, ◌≢◌, ℕ, zero, suc, ◌-◌, ◌≤◌, Bool, true, false, not, List, [], ◌∷◌, length, map, take, drop, cond, Some, ◌&&◌, ◌||◌, slice_get, refl, sym, ap, subst, ◌∙◌, arith}
use mathlib.Core.Bool.{true≢false}
use Rattle.std.specs.Prelude.{filter}
use Rattle.std.specs.List.{list_any}
use Rattle.std.specs.List.Sorted.{IsPartitionedBy}
use Rattle.std.specs.declared.cmp.Ordering.{Ordering}
use Rattle.std.specs.declared.cmp.Ordering.TheVariants.{Less, Equal, Greater}
use Rattle.std.specs.Ordering.{is_lt, is_eq, ordering_then, ordering_reverse, nat_cmp}
use Rattle.std.specs.Cmp.{tied_itself}
use Rattle.std.specs.Cmp.Lexicographic.{slice_cmp}
use Rattle.std.specs.FinMap.Entries as entries
use Rattle.kb_name.specs.declared.ids.NodeId.{NodeId}
use Rattle.kb_name.specs.Nodes.{same_node, node_cmp}
use Rattle.kb_ops.specs.declared.rows.Row.{Row}
use Rattle.kb_ops.specs.Sorted.{count_front}
use Rattle.kb_ops.specs.Spots.{Spot, spot_cmp}
use Rattle.kb_ops.proofs.Nodes.{and_first, and_second, node_is, node_other, apart}
use Rattle.kb_ops.proofs.Looks.{nodes_total, exact_nodes, tested}
use Rattle.kb_ops.proofs.Lists.{less_is}
use Rattle.kb_ops.proofs.Spots.{spots_total, exact_spots}
use Rattle.kb_tree.specs.Slots.{row_in, spot_in, spots_in}
use Rattle.kb_tree.proofs.Entries.{parted_by, both, some_is, none_some}

-- a place before another has no greater parent
first_of : (a b : Spot) → spot_cmp a b ≡ Less → (c : Ordering) → node_cmp a.0 b.0 ≡ c → c ≢ Greater
first_of a b l c e g = let turned : ordering_then Greater (slice_cmp nat_cmp a.1 b.1) ≡ Less = ap (λ o. ordering_then o (slice_cmp nat_cmp a.1 b.1)) (sym (e ∙ g)) ∙ l in let x : Greater ≡ Less = turned in cc

module _ (rows : List Row) (k : NodeId) where
  abbrev parent : ℕ → NodeId
  parent slot = (row_in rows slot).parent

  abbrev pub before : ℕ → Bool
  before slot = is_lt (node_cmp (parent slot) k)

  abbrev pub until : ℕ → Bool
  until slot = not (is_lt (node_cmp k (parent slot)))

  abbrev pub of_it : ℕ → Bool
  of_it slot = same_node (parent slot) k

  -- by how the parent of a slot's row compares
  tests : (slot : ℕ) (c : Ordering) → node_cmp (parent slot) k ≡ c → (before slot ≡ is_lt c) × (until slot ≡ not (is_lt (ordering_reverse c))) × (of_it slot ≡ is_eq c)
  tests slot c e = (ap is_lt e, ap (λ o. not (is_lt o)) (nodes_total.antisymm k (parent slot) ∙ ap ordering_reverse e), sym (tested (parent slot) k) ∙ ap is_eq e)

  before_mono : (a b : ℕ) → spot_cmp (spot_in rows a).0 (spot_in rows b).0 ≡ Less → before b ≡ true → before a ≡ true
  before_mono a b l h = elim (node_cmp (parent a) (parent b)) as (λ c. node_cmp (parent a) (parent b) ≡ c → before a ≡ true) [
    | Less ↦ λ e. ap is_lt (nodes_total.trans (parent a) (parent b) k e (less_is _ h))
    | Equal ↦ λ e. ap is_lt (nodes_total.congr (parent a) (parent b) k e ∙ less_is _ h)
    | Greater ↦ λ e. absurd (first_of (spot_in rows a).0 (spot_in rows b).0 l Greater e refl)
  ] refl

  not_lt : (o : Ordering) → not (is_lt o) ≡ true → o ≢ Less
  not_lt o h e = true≢false (sym h ∙ ap (λ x. not (is_lt x)) e)

  until_mono : (a b : ℕ) → spot_cmp (spot_in rows a).0 (spot_in rows b).0 ≡ Less → until b ≡ true → until a ≡ true
  until_mono a b l h = elim (node_cmp k (parent a)) as (λ c. node_cmp k (parent a) ≡ c → not (is_lt c) ≡ true) [
    | Less ↦ λ e. elim (node_cmp (parent a) (parent b)) as (λ c. node_cmp (parent a) (parent b) ≡ c → false ≡ true) [
      | Less ↦ λ p. absurd (not_lt _ h (nodes_total.trans k (parent a) (parent b) e p))
      | Equal ↦ λ p. absurd (not_lt _ h (ap (node_cmp k) (sym (exact_nodes (parent a) (parent b) p)) ∙ e))
      | Greater ↦ λ p. absurd (first_of (spot_in rows a).0 (spot_in rows b).0 l Greater p refl)
    ] refl
    | Equal ↦ λ e. refl
    | Greater ↦ λ e. refl
  ] refl

  pub before_parted : (slots : List ℕ) → entries.is_sorted spot_cmp (spots_in rows slots) ≡ true → IsPartitionedBy before slots
  before_parted slots up = parted_by spot_cmp spots_total exact_spots (spot_in rows) before before_mono slots up

  pub until_parted : (slots : List ℕ) → entries.is_sorted spot_cmp (spots_in rows slots) ≡ true → IsPartitionedBy until slots
  until_parted slots up = parted_by spot_cmp spots_total exact_spots (spot_in rows) until until_mono slots up

  -- behind a slot, none is before the parent that the slot isn't before
  none_before : (s : ℕ) (slots : List ℕ) → entries.below_all spot_cmp (spot_in rows s).0 (spots_in rows slots) ≡ true → before s ≡ false → count_front before slots ≡ 0
  none_before s [] b h = refl
  none_before s (y ∷ slots) b h = elim (before y) as (λ t. before y ≡ t → cond t (suc (count_front before slots)) 0 ≡ 0) [
    | true ↦ λ e. absurd (true≢false (sym (before_mono s y (less_is _ (and_first _ _ b)) e) ∙ h))
    | false ↦ λ e. refl
  ] refl

  -- and none is the parent's, where the slot's is greater
  none_of : (s : ℕ) (slots : List ℕ) → entries.below_all spot_cmp (spot_in rows s).0 (spots_in rows slots) ≡ true → until s ≡ false → filter of_it slots ≡ []
  none_of s [] b h = refl
  none_of s (y ∷ slots) b h = elim (of_it y) as (λ t. of_it y ≡ t → cond t (y ∷ filter of_it slots) (filter of_it slots) ≡ []) [
    | true ↦ λ e.
        let same : node_cmp k (parent y) ≡ node_cmp k k = ap (node_cmp k) (exact_nodes (parent y) k (equal_is _ (tested (parent y) k ∙ e))) in
        absurd (true≢false (sym (until_mono s y (less_is _ (and_first _ _ b)) (ap (λ o. not (is_lt o)) (same ∙ tied_itself nodes_total k))) ∙ h))
    | false ↦ λ e. none_of s slots (and_second _ _ b) h
  ] refl
    where
      equal_is : (o : Ordering) → is_eq o ≡ true → o ≡ Equal
      equal_is Less g = absurd (true≢false (sym g))
      equal_is Equal g = refl
      equal_is Greater g = absurd (true≢false (sym g))

  pub before_until : (slots : List ℕ) → count_front before slots ≤ count_front until slots
  before_until [] = omega arith
  before_until (s ∷ slots) = elim (node_cmp (parent s) k) as (λ c. node_cmp (parent s) k ≡ c → count_front before (s ∷ slots) ≤ count_front until (s ∷ slots)) [
    | Less ↦ λ e. let t = tests s Less e in subst (λ b. cond b (suc (count_front before slots)) 0 ≤ count_front until (s ∷ slots)) (sym t.0) (subst (λ b. suc (count_front before slots) ≤ cond b (suc (count_front until slots)) 0) (sym t.1) (omega (arith, before_until slots)))
    | Equal ↦ λ e. let t = tests s Equal e in subst (λ b. cond b (suc (count_front before slots)) 0 ≤ count_front until (s ∷ slots)) (sym t.0) (omega arith)
    | Greater ↦ λ e. let t = tests s Greater e in subst (λ b. cond b (suc (count_front before slots)) 0 ≤ count_front until (s ∷ slots)) (sym t.0) (omega arith)
  ] refl

  less_both : (a b : ℕ) → suc a - suc b ≡ a - b
  less_both a b = omega arith

  minus_none : (a : ℕ) → a - 0 ≡ a
  minus_none a = omega arith

  pub range_is : (slots : List ℕ) → entries.is_sorted spot_cmp (spots_in rows slots) ≡ true → take (count_front until slots - count_front before slots) (drop (count_front before slots) slots) ≡ filter of_it slots
  range_is [] up = elim (count_front until [] - count_front before []) as (λ n. take n [] ≡ filter of_it []) [ zero ↦ refl | suc n ↦ refl ]
  range_is (s ∷ slots) up = elim (node_cmp (parent s) k) as (λ c. node_cmp (parent s) k ≡ c → take (count_front until (s ∷ slots) - count_front before (s ∷ slots)) (drop (count_front before (s ∷ slots)) (s ∷ slots)) ≡ filter of_it (s ∷ slots)) [
    | Less ↦ λ e.
        let t = tests s Less e in
        (λ i. take (cond (t.1 i) (suc (count_front until slots)) 0 - cond (t.0 i) (suc (count_front before slots)) 0) (drop (cond (t.0 i) (suc (count_front before slots)) 0) (s ∷ slots)))
        ∙ ap (λ n. take n (drop (count_front before slots) slots)) (less_both (count_front until slots) (count_front before slots))
        ∙ range_is slots (and_second _ _ up)
        ∙ sym (ap (λ b. cond b (s ∷ filter of_it slots) (filter of_it slots)) t.2)
    | Equal ↦ λ e.
        let t = tests s Equal e in
        let rest : count_front before slots ≡ 0 = none_before s slots (and_first _ _ up) t.0 in
        (λ i. take (cond (t.1 i) (suc (count_front until slots)) 0 - cond (t.0 i) (suc (count_front before slots)) 0) (drop (cond (t.0 i) (suc (count_front before slots)) 0) (s ∷ slots)))
        ∙ ap (λ n. take n (s ∷ slots)) (minus_none (suc (count_front until slots)))
        ∙ ap (λ n. s ∷ take n slots) (sym (minus_none (count_front until slots)))
        ∙ ap (λ l. s ∷ l) ((λ i. take (count_front until slots - sym rest i) (drop (sym rest i) slots)) ∙ range_is slots (and_second _ _ up))
        ∙ sym (ap (λ b. cond b (s ∷ filter of_it slots) (filter of_it slots)) t.2)
    | Greater ↦ λ e.
        let t = tests s Greater e in
        (λ i. take (cond (t.1 i) (suc (count_front until slots)) 0 - cond (t.0 i) (suc (count_front before slots)) 0) (drop (cond (t.0 i) (suc (count_front before slots)) 0) (s ∷ slots)))
        ∙ sym (ap (λ b. cond b (s ∷ filter of_it slots) (filter of_it slots)) t.2 ∙ none_of s slots (and_first _ _ up) t.1)
  ] refl

  -- the rows of the parent, by name
  abbrev pub name_in : ℕ → List ℕ × NodeId
  name_in slot = ((row_in rows slot).name, (row_in rows slot).id)

  both_equal : (r s : Ordering) → is_eq (ordering_then r s) ≡ (is_eq r && is_eq s)
  both_equal Less s = refl
  both_equal Equal s = refl
  both_equal Greater s = refl

  in_it : (slot : ℕ) → of_it slot ≡ true → node_cmp k (parent slot) ≡ Equal
  in_it slot h = ap (node_cmp k) (node_is (parent slot) k h) ∙ tied_itself nodes_total k

  off_it : (slot : ℕ) → of_it slot ≡ false → is_eq (node_cmp k (parent slot)) ≡ false
  off_it slot h = tested k (parent slot) ∙ node_other k (parent slot) (λ e. apart (parent slot) k h (sym e))

  pub found_by_name : (name : List ℕ) (slots : List ℕ) → entries.find (slice_cmp nat_cmp) name (map name_in (filter of_it slots)) ≡ entries.find spot_cmp (k, name) (spots_in rows slots)
  found_by_name name [] = refl
  found_by_name name (s ∷ slots) = elim (of_it s) as (λ b. of_it s ≡ b → entries.find (slice_cmp nat_cmp) name (map name_in (cond b (s ∷ filter of_it slots) (filter of_it slots))) ≡ entries.find spot_cmp (k, name) (spots_in rows (s ∷ slots))) [
    | true ↦ λ e.
        let same : is_eq (spot_cmp (k, name) (spot_in rows s).0) ≡ is_eq (slice_cmp nat_cmp name (row_in rows s).name) = ap (λ o. is_eq (ordering_then o (slice_cmp nat_cmp name (row_in rows s).name))) (in_it s e) in
        (λ i. cond (sym same i) (Some (row_in rows s).id) (found_by_name name slots i))
    | false ↦ λ e.
        let other : is_eq (spot_cmp (k, name) (spot_in rows s).0) ≡ false = both_equal (node_cmp k (parent s)) (slice_cmp nat_cmp name (row_in rows s).name) ∙ ap (λ b. b && is_eq (slice_cmp nat_cmp name (row_in rows s).name)) (off_it s e) in
        found_by_name name slots ∙ sym (ap (λ b. cond b (Some (row_in rows s).id) (entries.find spot_cmp (k, name) (spots_in rows slots))) other)
  ] refl

  less_names : (a b : ℕ) → of_it a ≡ true → of_it b ≡ true → spot_cmp (spot_in rows a).0 (spot_in rows b).0 ≡ Less → slice_cmp nat_cmp (row_in rows a).name (row_in rows b).name ≡ Less
  less_names a b p q l =
      let tie : node_cmp (parent a) (parent b) ≡ Equal = ap (λ x. node_cmp x (parent b)) (node_is (parent a) k p) ∙ in_it b q in
      sym (ap (λ o. ordering_then o (slice_cmp nat_cmp (row_in rows a).name (row_in rows b).name)) tie) ∙ l

  below_names : (s : ℕ) → of_it s ≡ true → (slots : List ℕ) → entries.below_all spot_cmp (spot_in rows s).0 (spots_in rows slots) ≡ true → entries.below_all (slice_cmp nat_cmp) (row_in rows s).name (map name_in (filter of_it slots)) ≡ true
  below_names s p [] h = refl
  below_names s p (y ∷ slots) h = elim (of_it y) as (λ b. of_it y ≡ b → entries.below_all (slice_cmp nat_cmp) (row_in rows s).name (map name_in (cond b (y ∷ filter of_it slots) (filter of_it slots))) ≡ true) [
    | true ↦ λ e. both _ _ (ap is_lt (less_names s y p e (less_is _ (and_first _ _ h)))) (below_names s p slots (and_second _ _ h))
    | false ↦ λ e. below_names s p slots (and_second _ _ h)
  ] refl

  pub names_rise : (slots : List ℕ) → entries.is_sorted spot_cmp (spots_in rows slots) ≡ true → entries.is_sorted (slice_cmp nat_cmp) (map name_in (filter of_it slots)) ≡ true
  names_rise [] up = refl
  names_rise (s ∷ slots) up = elim (of_it s) as (λ b. of_it s ≡ b → entries.is_sorted (slice_cmp nat_cmp) (map name_in (cond b (s ∷ filter of_it slots) (filter of_it slots))) ≡ true) [
    | true ↦ λ e. both _ _ (below_names s e slots (and_first _ _ up)) (names_rise slots (and_second _ _ up))
    | false ↦ λ e. names_rise slots (and_second _ _ up)
  ] refl

-- what a filter keeps, and what it was given
pub filter_has : {A : Type 0} (test : A → Bool) (xs : List A) (j : ℕ) (x : A) → slice_get xs j ≡ Some x → test x ≡ true → 1 ≤ length (filter test xs)
filter_has test [] j x got h = absurd (none_some x got)
filter_has test (y ∷ ys) zero x got h = subst (λ b. 1 ≤ length (cond b (y ∷ filter test ys) (filter test ys))) (sym (ap test (some_is y x got) ∙ h)) (omega arith)
filter_has test (y ∷ ys) (suc j) x got h = elim (test y) as (λ b. 1 ≤ length (cond b (y ∷ filter test ys) (filter test ys))) [ true ↦ omega arith | false ↦ filter_has test ys j x got h ]

pub filter_from : {A : Type 0} (test : A → Bool) (xs : List A) → 1 ≤ length (filter test xs) → (j : ℕ) × (x : A) × (slice_get xs j ≡ Some x) × (test x ≡ true)
filter_from test [] h = absurd (omega arith)
filter_from test (y ∷ ys) h = elim (test y) as (λ b. test y ≡ b → 1 ≤ length (cond b (y ∷ filter test ys) (filter test ys)) → (j : ℕ) × (x : _) × (slice_get (y ∷ ys) j ≡ Some x) × (test x ≡ true)) [
  | true ↦ λ e l. (0, y, refl, e)
  | false ↦ λ e l. let r = filter_from test ys l in (suc r.0, r.1, r.2, r.3)
] refl h

pub any_from : {A B : Type 0} (f : A → B) (test : B → Bool) (xs : List A) → list_any test (map f xs) ≡ true → (j : ℕ) × (x : A) × (slice_get xs j ≡ Some x) × (test (f x) ≡ true)
any_from f test [] h = absurd (true≢false (sym h))
any_from f test (y ∷ ys) h = elim (test (f y)) as (λ b. test (f y) ≡ b → (b || list_any test (map f ys)) ≡ true → (j : ℕ) × (x : _) × (slice_get (y ∷ ys) j ≡ Some x) × (test (f x) ≡ true)) [
  | true ↦ λ e l. (0, y, refl, e)
  | false ↦ λ e l. let r = any_from f test ys l in (suc r.0, r.1, r.2, r.3)
] refl h
