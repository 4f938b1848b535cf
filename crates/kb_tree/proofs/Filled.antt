-- A table made of rows in the order of their ids.
use Rattle.std.proofs.Common.{◌≡◌, ◌≢◌, ℕ, zero, suc, ◌+◌, ◌^◌, ◌≤◌, ◌<◌, Bool, true, false, not, List, [], ◌∷◌, ◌++◌, length, map, cond, Option, Some, None, is_some, slice_get, get_or, refl, sym, ap, subst, ◌∙◌, arith}
use mathlib.Core.Bool.{true≢false}
use Rattle.std.specs.Prelude.{filter, T, All, Contains}
use Rattle.std.specs.List.{range_with_len, IsDistinct, AllByRecursion}
use Rattle.std.specs.Option.{option_map}
use Rattle.std.specs.Cmp.{eq_by_cmp_equiv}
use Rattle.std.proofs.Common.{append_assoc}
use Rattle.std.proofs.Math.Seq.{get_or-append_seam}
use Rattle.std.proofs.lemmas.List.{length-append}
use Rattle.std.proofs.lemmas.List.FromFn.{length-range_with_len, get_or-range_with_len}
use Rattle.std.proofs.lemmas.Map.Keys.{IsDistinct-IsPermutation}
use Rattle.std.specs.List.Sorted.{IsPermutation, IsSortedBy}
use Rattle.std.proofs.lemmas.List.Sorted.{All-permutation, Contains-permutation}
use Rattle.std.proofs.lemmas.Option.{slice_get-map, slice_get_within, get_or_from_slice_get, slice_get-get_or}
use Rattle.std.specs.declared.cmp.Ordering.TheVariants.{Less, Equal, Greater}
use Rattle.std.specs.Ordering.{eq_by_cmp, is_lt, is_eq, ordering_reverse}
use Rattle.std.specs.FinMap as map
use Rattle.std.specs.FinMap.Entries as entries
use Rattle.kb_name.specs.declared.ids.NodeId.{NodeId}
use Rattle.kb_name.specs.Nodes.{root, same_node, node_cmp}
use Rattle.kb_ops.specs.declared.rows.Row.{Row}
use Rattle.kb_ops.specs.Trees.{Tree, look, root_row}
use Rattle.kb_ops.specs.Lists.{keyed, tree_of, place_of}
use Rattle.kb_ops.specs.Find.{child}
use Rattle.kb_ops.specs.Sorted.{place_in_order}
use Rattle.kb_ops.specs.Spots.{Spot, spot_cmp, spotted, AreThere, IsIndex}
use Rattle.kb_ops.proofs.Nodes.{node_self, node_other, and_first, and_second}
use Rattle.kb_ops.proofs.Looks.{nodes_total, exact_nodes}
use Rattle.kb_ops.proofs.Lists.{look_of, row_at, less_is}
use Rattle.kb_ops.proofs.Children.{child_stands, child_by}
use Rattle.kb_ops.proofs.Spots.{spots_total, exact_spots}
use Rattle.kb_tree.specs.Held.{AreKept}
use Rattle.kb_tree.specs.Slots.{row_in, rows_in, ids_in, spot_in, spots_in, AreWithin, AreShown, IsTable}
use Rattle.kb_tree.proofs.Entries.{some_is, none_some, both, place_at, find_got}
use Rattle.kb_tree.proofs.Index.{same_options, tied}
use Rattle.kb_tree.proofs.Ranges.{within_range}
use Rattle.kb_tree.proofs.Kept.{slot_row, spotted_is}

-- the slots of all rows have the rows
in_order : (done rows : List Row) → rows_in (done ++ rows) (range_with_len (length done) (length rows)) ≡ rows
in_order done [] = refl
in_order done (r ∷ rows) =
    let more : length (done ++ r ∷ []) ≡ length done + 1 = length-append done (r ∷ []) in
    λ i. get_or-append_seam done r rows root_row i
    ∷ (sym (λ j. rows_in (append_assoc done (r ∷ []) rows j) (range_with_len (more j) (length rows))) ∙ in_order (done ++ r ∷ []) rows) i

pub whole : (rows : List Row) → rows_in rows (range_with_len 0 (length rows)) ≡ rows
whole rows = in_order [] rows

-- what passes a test among slots
all_of : (n : ℕ) (test : ℕ → Bool) (xs : List ℕ) → AreWithin n xs → All (λ s. (s < n) × (test s ≡ true)) (filter test xs)
all_of n test [] w = λ k d lt. absurd (omega (arith, lt))
all_of n test (x ∷ xs) w = elim (test x) as (λ b. test x ≡ b → All (λ s. (s < n) × (test s ≡ true)) (cond b (x ∷ filter test xs) (filter test xs))) [
  | true ↦ λ e. first e (all_of n test xs w.1)
  | false ↦ λ e. all_of n test xs w.1
] refl
  where
    first : test x ≡ true → All (λ s. (s < n) × (test s ≡ true)) (filter test xs) → All (λ s. (s < n) × (test s ≡ true)) (x ∷ filter test xs)
    first e rest zero d lt = (w.0, e)
    first e rest (suc k) d lt = rest k d (omega (arith, lt))

within_of_all : (n : ℕ) (test : ℕ → Bool) (xs : List ℕ) → All (λ s. (s < n) × (test s ≡ true)) xs → AreWithin n xs
within_of_all n test [] h = tt
within_of_all n test (x ∷ xs) h = ((h 0 0 (omega arith)).0, within_of_all n test xs (λ k d lt. h (suc k) d (omega (arith, lt))))

contains_passing : (test : ℕ → Bool) (xs : List ℕ) (j s : ℕ) → slice_get xs j ≡ Some s → test s ≡ true → Contains (filter test xs) s
contains_passing test [] j s got h = absurd (none_some s got)
contains_passing test (x ∷ xs) zero s got h =
    subst (λ b. Contains (cond b (x ∷ filter test xs) (filter test xs)) s) (sym (ap test (some_is x s got) ∙ h)) (0, omega arith, some_is x s got)
contains_passing test (x ∷ xs) (suc j) s got h =
    let c = contains_passing test xs j s got h in
    elim (test x) as (λ b. Contains (cond b (x ∷ filter test xs) (filter test xs)) s) [ true ↦ (suc c.0, omega (arith, c.1), c.2) | false ↦ c ]

found_entry : (k : Spot) (q : NodeId) (es : List (Spot × NodeId)) → entries.find spot_cmp k es ≡ Some q → (j : ℕ) × (e : Spot × NodeId) × (slice_get es j ≡ Some e) × (k ≡ e.0) × (e.1 ≡ q)
found_entry k q [] h = absurd (none_some q h)
found_entry k q (e ∷ es) h = elim (eq_by_cmp spot_cmp k e.0) as (λ b. eq_by_cmp spot_cmp k e.0 ≡ b → cond b (Some e.1) (entries.find spot_cmp k es) ≡ Some q → (j : ℕ) × (f : Spot × NodeId) × (slice_get (e ∷ es) j ≡ Some f) × (k ≡ f.0) × (f.1 ≡ q)) [
  | true ↦ λ t g. (0, e, refl, tied k e.0 t, some_is e.1 q g)
  | false ↦ λ t g. let r = found_entry k q es g in (suc r.0, r.1, r.2, r.3, r.4)
] refl h

module _ (rows : List Row) (kept : AreKept rows) where
  abbrev t : Tree
  t = tree_of rows

  abbrev n : ℕ
  n = length rows

  abbrev all : List ℕ
  all = range_with_len 0 n

  abbrev pub has_place : ℕ → Bool
  has_place s = not (same_node (row_in rows s).id root)

  keyed_got : (s : ℕ) → s < n → slice_get (map keyed rows) s ≡ Some (keyed (row_in rows s))
  keyed_got s lt = slice_get-map keyed rows s ∙ ap (option_map keyed) (slot_row rows s lt)

  found_row : (s : ℕ) → s < n → look t (row_in rows s).id ≡ Some (row_in rows s)
  found_row s lt =
      map.get-from_sorted node_cmp (map keyed rows) (row_in rows s).id (subst T (sym kept.rise) tt)
      ∙ find_got node_cmp nodes_total exact_nodes (map keyed rows) kept.rise s (keyed (row_in rows s)) (keyed_got s lt)

  one_slot : (a b : ℕ) → a < n → b < n → (row_in rows a).id ≡ (row_in rows b).id → a ≡ b
  one_slot a b la lb same =
      sym (place_at node_cmp nodes_total exact_nodes (map keyed rows) kept.rise a (keyed (row_in rows a)) (keyed_got a la))
      ∙ ap (λ q. place_in_order node_cmp q (map keyed rows)) same
      ∙ place_at node_cmp nodes_total exact_nodes (map keyed rows) kept.rise b (keyed (row_in rows b)) (keyed_got b lb)

  all_shown : AreShown t rows
  all_shown = record { shown = found_row; apart = one_slot }

  off_root : (s : ℕ) → has_place s ≡ true → (row_in rows s).id ≢ root
  off_root s h e = true≢false (sym h ∙ ap (λ q. not (same_node q root)) e ∙ ap not (node_self root))

  -- two slots have two places
  ties : ℕ → ℕ → Bool
  ties a b = eq_by_cmp spot_cmp (spot_in rows a).0 (spot_in rows b).0

  two_places : (a b : ℕ) → a < n → b < n → has_place a ≡ true → has_place b ≡ true → a ≢ b → ties a b ≡ false
  unfolding ties
  two_places a b la lb ha hb ne = elim (eq_by_cmp spot_cmp (spot_in rows a).0 (spot_in rows b).0) as (λ x. eq_by_cmp spot_cmp (spot_in rows a).0 (spot_in rows b).0 ≡ x → x ≡ false) [
    | true ↦ λ e.
        let same = tied (spot_in rows a).0 (spot_in rows b).0 e in
        absurd (ne (one_slot a b la lb (kept.formed.places _ _ (row_in rows a) (row_in rows b) (found_row a la) (found_row b lb) (off_root a ha) (off_root b hb) (ap (λ (s : Spot). s.0) same) (ap (λ (s : Spot). s.1) same))))
    | false ↦ λ e. refl
  ] refl

  far : (a b m : ℕ) → a < b → b + m ≤ n → has_place a ≡ true → AllByRecursion (λ y. ties a y ≡ false) (filter has_place (range_with_len b m))
  far a b zero lt le h = tt
  far a b (suc m) lt le h =
      let rest = far a (b + 1) m (omega (arith, lt)) (omega (arith, le)) h in
      elim (has_place b) as (λ x. has_place b ≡ x → AllByRecursion (λ y. ties a y ≡ false) (cond x (b ∷ filter has_place (range_with_len (b + 1) m)) (filter has_place (range_with_len (b + 1) m)))) [
        | true ↦ λ e. (two_places a b (omega (arith, lt, le)) (omega (arith, le)) h e (λ p. absurd (omega (arith, p, lt))), rest)
        | false ↦ λ e. rest
      ] refl

  firsts_distinct : (a m : ℕ) → a + m ≤ n → IsDistinct ties (filter has_place (range_with_len a m))
  unfolding IsDistinct
  firsts_distinct a zero le = tt
  firsts_distinct a (suc m) le =
      let rest = firsts_distinct (a + 1) m (omega (arith, le)) in
      elim (has_place a) as (λ x. has_place a ≡ x → IsDistinct ties (cond x (a ∷ filter has_place (range_with_len (a + 1) m)) (filter has_place (range_with_len (a + 1) m)))) [
        | true ↦ λ e. (far a (a + 1) m (omega arith) (omega (arith, le)) e, rest)
        | false ↦ λ e. rest
      ] refl

  flips : (a b : ℕ) → ties a b ≡ ties b a
  unfolding ties
  flips a b = (eq_by_cmp_equiv spots_total).symm (spot_in rows a).0 (spot_in rows b).0

  abbrev less : ℕ → ℕ → Bool
  less a b = is_lt (spot_cmp (spot_in rows a).0 (spot_in rows b).0)

  rises_between : (a b : ℕ) → less b a ≡ false → ties a b ≡ false → spot_cmp (spot_in rows a).0 (spot_in rows b).0 ≡ Less
  unfolding ties
  rises_between a b h d = elim (spot_cmp (spot_in rows a).0 (spot_in rows b).0) as (λ c. spot_cmp (spot_in rows a).0 (spot_in rows b).0 ≡ c → c ≡ Less) [
    | Less ↦ λ e. refl
    | Equal ↦ λ e. absurd (true≢false (sym (ap is_eq e) ∙ d))
    | Greater ↦ λ e. absurd (true≢false (sym (ap is_lt (spots_total.antisymm (spot_in rows b).0 (spot_in rows a).0 ∙ ap ordering_reverse e)) ∙ h))
  ] refl

  below_further : (a b : ℕ) → spot_cmp (spot_in rows a).0 (spot_in rows b).0 ≡ Less → (xs : List ℕ) → entries.below_all spot_cmp (spot_in rows b).0 (spots_in rows xs) ≡ true → entries.below_all spot_cmp (spot_in rows a).0 (spots_in rows xs) ≡ true
  below_further a b l [] h = refl
  below_further a b l (y ∷ xs) h = both _ _ (ap is_lt (spots_total.trans (spot_in rows a).0 (spot_in rows b).0 (spot_in rows y).0 l (less_is _ (and_first _ _ h)))) (below_further a b l xs (and_second _ _ h))

  strictly : (xs : List ℕ) → IsSortedBy less xs → IsDistinct ties xs → entries.is_sorted spot_cmp (spots_in rows xs) ≡ true
  unfolding IsDistinct
  strictly [] up apart = refl
  strictly (a ∷ []) up apart = refl
  strictly (a ∷ b ∷ xs) up apart =
      let rest : entries.is_sorted spot_cmp (spots_in rows (b ∷ xs)) ≡ true = strictly (b ∷ xs) (λ k d low lt. let e : suc k + 1 ≡ suc (k + 1) = omega arith in subst (λ m. less (get_or (a ∷ b ∷ xs) m d) (get_or (b ∷ xs) k d) ≡ false) e (up (suc k) d (omega arith) (omega (arith, lt)))) apart.1 in
      let l = rises_between a b (up 0 0 (omega arith) (omega arith)) apart.0.0 in
      both _ _ (both _ _ (ap is_lt l) (below_further a b l xs (and_first _ _ rest))) rest

  -- sorted by place, the slots index the tree
  module _ (spots : List ℕ) (moved : IsPermutation (filter has_place all) spots) (up : IsSortedBy less spots) where
    all_good : All (λ s. (s < n) × (has_place s ≡ true)) spots
    all_good = All-permutation (λ s. (s < n) × (has_place s ≡ true)) (filter has_place all) spots moved (all_of n has_place all (within_range n 0 n (omega arith)))

    spots_within : AreWithin n spots
    spots_within = within_of_all n has_place spots all_good

    rising : entries.is_sorted spot_cmp (spots_in rows spots) ≡ true
    rising = strictly spots up (IsDistinct-IsPermutation ties flips (filter has_place all) spots moved (firsts_distinct 0 n (omega arith)))

    shown_are : map (spotted t) (ids_in rows spots) ≡ spots_in rows spots
    shown_are = spotted_is t rows all_shown spots spots_within

    there_all : (xs : List ℕ) → AreWithin n xs → AreThere t (ids_in rows xs)
    there_all [] w = tt
    there_all (s ∷ xs) w = (ap is_some (found_row s w.0), there_all xs w.1)

    listed : (q : NodeId) (r : Row) → look t q ≡ Some r → q ≢ root → (j : ℕ) × (s : ℕ) × (slice_get spots j ≡ Some s) × (row_in rows s ≡ r)
    listed q r found off =
        let at = row_at q r rows kept.rise (sym (look_of rows kept.rise q) ∙ found) in
        let s = place_of q rows in
        let lt : s < n = slice_get_within rows s r at.0 in
        let is : row_in rows s ≡ r = some_is (row_in rows s) r (sym (slot_row rows s lt) ∙ at.0) in
        let placed : has_place s ≡ true = ap not (node_other (row_in rows s).id root (λ e. off (sym at.1 ∙ ap (λ (x : Row). x.id) (sym is) ∙ e))) in
        let got : slice_get all s ≡ Some s = slice_get-get_or all s 0 (subst (λ m. s < m) (sym (length-range_with_len 0 n)) lt) ∙ ap (λ z. Some z) (get_or-range_with_len 0 n s 0 lt ∙ (let e : 0 + s ≡ s = omega arith in e)) in
        let c = Contains-permutation (filter has_place all) spots s moved (contains_passing has_place all s s got placed) in
        (c.0, s, slice_get-get_or spots c.0 s c.1 ∙ ap (λ z. Some z) c.2, is)

    gives : (k : Spot) → entries.find spot_cmp k (spots_in rows spots) ≡ child t k.0 k.1
    gives k = same_options _ _
        (λ q e.
        let f = found_entry k q (spots_in rows spots) e in
        let s = slot_of f.0 f.1 f.2 in
        let r = row_in rows s.0 in
        let good = good_at f.0 s.0 s.1 in
        let key : k ≡ (r.parent, r.name) = f.3 ∙ ap (λ (p : Spot × NodeId). p.0) (sym s.2) in
        let id : r.id ≡ q = ap (λ (p : Spot × NodeId). p.1) s.2 ∙ f.4 in
        child_by t kept.formed k.0 k.1 q (record {
          row = r;
          found = ap (look t) (sym id) ∙ found_row s.0 good.0;
          not_root = λ p. off_root s.0 good.1 (id ∙ p);
          parent_is = ap (λ (p : Spot). p.0) (sym key);
          name_is = ap (λ (p : Spot). p.1) (sym key);
        }))
        (λ q e.
        let s = child_stands t kept.formed k.0 k.1 q e in
        let l = listed q s.row s.found s.not_root in
        let got : slice_get (spots_in rows spots) l.0 ≡ Some (spot_in rows l.1) = slice_get-map (spot_in rows) spots l.0 ∙ ap (option_map (spot_in rows)) l.2 in
        let key : (spot_in rows l.1).0 ≡ k = λ i. ((ap (λ (r : Row). r.parent) l.3 ∙ s.parent_is) i, (ap (λ (r : Row). r.name) l.3 ∙ s.name_is) i) in
        ap (λ x. entries.find spot_cmp x (spots_in rows spots)) (sym key)
        ∙ find_got spot_cmp spots_total exact_spots (spots_in rows spots) rising l.0 (spot_in rows l.1) got
        ∙ ap (λ z. Some z) (ap (λ (r : Row). r.id) l.3 ∙ kept.formed.keyed q s.row s.found))
      where
        slot_of : (j : ℕ) (e : Spot × NodeId) → slice_get (spots_in rows spots) j ≡ Some e → (s : ℕ) × (slice_get spots j ≡ Some s) × (spot_in rows s ≡ e)
        slot_of j e got = from (slice_get spots j) refl (sym (slice_get-map (spot_in rows) spots j) ∙ got)
          where
            from : (o : Option ℕ) → slice_get spots j ≡ o → option_map (spot_in rows) o ≡ Some e → (s : ℕ) × (slice_get spots j ≡ Some s) × (spot_in rows s ≡ e)
            from None p h = absurd (none_some e h)
            from (Some s) p h = (s, p, some_is (spot_in rows s) e h)

        good_at : (j s : ℕ) → slice_get spots j ≡ Some s → (s < n) × (has_place s ≡ true)
        good_at j s got = subst (λ z. (z < n) × (has_place z ≡ true)) (get_or_from_slice_get spots j s 0 got) (all_good j 0 (slice_get_within spots j s got))

    pub filled : length rows ≤ 2 ^ 32 → IsTable rows all spots
    filled few = subst (λ l. AreKept l → IsIndex (tree_of l) (ids_in rows spots) → AreShown (tree_of l) rows → IsTable rows all spots) (whole rows)
        (λ k i s. record { kept = k; index = i; shown = s; ids_within = within_range n 0 n (omega arith); spots_within = spots_within; few = few })
        kept
        (record {
          there = there_all spots spots_within;
          rise = ap (entries.is_sorted spot_cmp) shown_are ∙ rising;
          gives = λ k. ap (entries.find spot_cmp k) shown_are ∙ gives k;
        })
        all_shown

pub filled_by : (rows rows' : List Row) (by_id by_id' spots : List ℕ) → AreKept rows → rows' ≡ rows → by_id ≡ range_with_len 0 (length rows) → by_id' ≡ by_id → length rows ≤ 2 ^ 32
    → IsPermutation (filter (λ s. not (same_node (row_in rows' s).id root)) by_id') spots → IsSortedBy (λ a b. is_lt (spot_cmp (spot_in rows' a).0 (spot_in rows' b).0)) spots → IsTable rows by_id spots
filled_by rows rows' by_id by_id' spots kept same ids same_ids few moved up =
    subst (λ l. IsTable rows l spots) (sym ids)
    (filled rows kept spots
    (subst (λ l. IsPermutation l spots) (λ i. filter (λ s. not (same_node (row_in (same i) s).id root)) ((same_ids ∙ ids) i)) moved)
    (subst (λ l. IsSortedBy (λ a b. is_lt (spot_cmp (spot_in l a).0 (spot_in l b).0)) spots) same up)
    few)
