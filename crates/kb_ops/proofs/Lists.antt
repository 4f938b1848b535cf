-- Rows in a list and the tree of them.
use Rattle.std.proofs.Common.{◌≡◌, ◌≢◌, ℕ, zero, suc, ◌≤◌, ◌<◌, Bool, true, false, not, List, [], ◌∷◌, length, map, cond, Option, Some, None, ◌&&◌, refl, sym, ap, subst, ◌∙◌, arith, set, slice_get, slice_index_or}
use Rattle.std.specs.List.Sorted.{IsPartitionedBy, IsPartitionPoint}
use mathlib.Core.Bool.{true≢false}
use Rattle.std.specs.declared.cmp.Ordering.{Ordering}
use Rattle.std.specs.declared.cmp.Ordering.TheVariants.{Less, Equal, Greater}
use Rattle.std.specs.Prelude.{find, T}
use Rattle.std.specs.Ordering.{eq_by_cmp, is_lt, is_eq, ordering_reverse}
use Rattle.std.specs.List.{insert, remove}
use Rattle.std.specs.Option.{option_and_then}
use Rattle.std.specs.Cmp.{tied_itself, alike_right, eq_by_cmp_equiv}
use Rattle.std.specs.FinMap as map
use Rattle.std.specs.FinMap.Entries as entries
use Rattle.kb_name.specs.declared.ids.NodeId.{NodeId}
use Rattle.kb_ops.specs.declared.rows.Row.{Row}
use Rattle.kb_name.specs.Nodes.{same_node, node_cmp}
use Rattle.kb_ops.specs.Trees.{Tree, look}
use Rattle.kb_ops.specs.Lists.{keyed, rises, tree_of, place_of}
use Rattle.kb_ops.proofs.Nodes.{and_first, and_second}
use Rattle.kb_ops.proofs.Looks.{nodes_total, exact_nodes, tested, same_tree}

-- the rows are those of the tree
pub entries_of : (rows : List Row) → rises rows ≡ true → map.entries (tree_of rows) ≡ map keyed rows
entries_of rows h = map.entries-from_sorted node_cmp (map keyed rows) (subst T (sym h) tt)

second_of : (rows : List Row) → map (λ (e : NodeId × Row). e.1) (map keyed rows) ≡ rows
second_of [] = refl
second_of (r ∷ rows) = ap (λ xs. r ∷ xs) (second_of rows)

pub values_of : (rows : List Row) → rises rows ≡ true → map.values (tree_of rows) ≡ rows
values_of rows h = ap (map (λ (e : NodeId × Row). e.1)) (entries_of rows h) ∙ second_of rows

length_keyed : (rows : List Row) → length (map keyed rows) ≡ length rows
length_keyed [] = refl
length_keyed (r ∷ rows) = ap suc (length_keyed rows)

pub len_of : (rows : List Row) → rises rows ≡ true → map.len (tree_of rows) ≡ length rows
len_of rows h = map.len-entries (tree_of rows) ∙ ap length (entries_of rows h) ∙ length_keyed rows

-- the row with the id
abbrev pub row_of : List Row → NodeId → Option Row
row_of rows q = find (λ r. same_node r.id q) rows

pub flip_same : (a b : NodeId) → eq_by_cmp node_cmp a b ≡ same_node b a
flip_same a b = (eq_by_cmp_equiv nodes_total).symm a b ∙ tested b a

found : (rows : List Row) (q : NodeId) → entries.find node_cmp q (map keyed rows) ≡ row_of rows q
found [] q = refl
found (r ∷ rows) q = ap (λ b. cond b (Some r) (entries.find node_cmp q (map keyed rows))) (flip_same q r.id) ∙ ap (cond (same_node r.id q) (Some r)) (found rows q)

pub look_of : (rows : List Row) → rises rows ≡ true → (q : NodeId) → look (tree_of rows) q ≡ row_of rows q
look_of rows h q = map.get-from_sorted node_cmp (map keyed rows) q (subst T (sym h) tt) ∙ found rows q

-- the place of an id in a list, by how the id compares with the first one
place_by : (k : NodeId) (x : Row) (xs : List Row) (o : Ordering) → node_cmp k x.id ≡ o → place_of k (x ∷ xs) ≡ cond (is_lt (ordering_reverse o)) (suc (place_of k xs)) 0
place_by k x xs o p = ap (λ b. cond b (suc (place_of k xs)) 0) (ap is_lt (nodes_total.antisymm x.id k ∙ ap ordering_reverse p))

-- the first row has the id, or what the rest has
row_by : (k : NodeId) (x : Row) (xs : List Row) (o : Ordering) → node_cmp k x.id ≡ o → row_of (x ∷ xs) k ≡ cond (is_eq o) (Some x) (row_of xs k)
row_by k x xs o p = ap (λ b. cond b (Some x) (row_of xs k)) (sym (flip_same k x.id) ∙ ap is_eq p)

-- a new row goes into its place
pub put_new : (r : Row) (rows : List Row) → row_of rows r.id ≡ None → entries.put node_cmp r.id r (map keyed rows) ≡ map keyed (insert rows (place_of r.id rows) r)
put_new r [] none = refl
put_new r (x ∷ xs) none =
    elim (node_cmp r.id x.id) as (λ o. node_cmp r.id x.id ≡ o → entries.by_order o (keyed r ∷ keyed x ∷ map keyed xs) ((x.id, r) ∷ map keyed xs) (keyed x ∷ entries.put node_cmp r.id r (map keyed xs)) ≡ map keyed (insert (x ∷ xs) (place_of r.id (x ∷ xs)) r)) [
      | Less ↦ λ p. ap (λ n. map keyed (insert (x ∷ xs) n r)) (sym (place_by r.id x xs Less p))
      | Equal ↦ λ p. let some : row_of (x ∷ xs) r.id ≡ Some x = row_by r.id x xs Equal p in cc
      | Greater ↦ λ p. ap (λ es. keyed x ∷ es) (put_new r xs (sym (row_by r.id x xs Greater p) ∙ none)) ∙ ap (λ n. map keyed (insert (x ∷ xs) n r)) (sym (place_by r.id x xs Greater p))
    ] refl

-- the row with the id stands at its place
abbrev pub IsAt : List Row → NodeId → Row → Type 0
IsAt rows k o = (slice_get rows (place_of k rows) ≡ Some o) × (o.id ≡ k)

-- and a row of the same id takes its place
pub put_over : (r o : Row) (rows : List Row) → IsAt rows r.id o → entries.put node_cmp r.id r (map keyed rows) ≡ map keyed (set rows (place_of r.id rows) r)
put_over r o [] at = let e = at.0 in cc
put_over r o (x ∷ xs) at =
    elim (node_cmp r.id x.id) as (λ c. node_cmp r.id x.id ≡ c → entries.by_order c (keyed r ∷ keyed x ∷ map keyed xs) ((x.id, r) ∷ map keyed xs) (keyed x ∷ entries.put node_cmp r.id r (map keyed xs)) ≡ map keyed (set (x ∷ xs) (place_of r.id (x ∷ xs)) r)) [
      | Less ↦ λ p.
          let first : Some x ≡ Some o = ap (slice_get (x ∷ xs)) (sym (place_by r.id x xs Less p)) ∙ at.0 in
          let same : x ≡ o = cc in
          let tie : node_cmp r.id x.id ≡ Equal = ap (node_cmp r.id) (ap (λ (z : Row). z.id) same ∙ at.1) ∙ tied_itself nodes_total r.id in
          cc
      | Equal ↦ λ p. ap (λ (k : NodeId). (k, r) ∷ map keyed xs) (sym (exact_nodes r.id x.id p)) ∙ ap (λ n. map keyed (set (x ∷ xs) n r)) (sym (place_by r.id x xs Equal p))
      | Greater ↦ λ p.
          let rest : slice_get xs (place_of r.id xs) ≡ Some o = ap (slice_get (x ∷ xs)) (sym (place_by r.id x xs Greater p)) ∙ at.0 in
          ap (λ es. keyed x ∷ es) (put_over r o xs (rest, at.1)) ∙ ap (λ n. map keyed (set (x ∷ xs) n r)) (sym (place_by r.id x xs Greater p))
    ] refl

pub less_is : (o : Ordering) → is_lt o ≡ true → o ≡ Less
less_is Less h = refl
less_is Equal h = absurd (true≢false (sym h))
less_is Greater h = absurd (true≢false (sym h))

abbrev IsBelow : NodeId → List Row → Type 0
IsBelow k rows = entries.below_all node_cmp k (map keyed rows) ≡ true

below_from : (k m : NodeId) → ((y : NodeId) → node_cmp m y ≡ Less → node_cmp k y ≡ Less) → (rows : List Row) → IsBelow m rows → IsBelow k rows
below_from k m step [] h = refl
below_from k m step (y ∷ rows) h =
    ap (λ o. is_lt o && entries.below_all node_cmp k (map keyed rows)) (step y.id (less_is (node_cmp m y.id) (and_first _ _ h)))
    ∙ below_from k m step rows (and_second _ _ h)

none_below : (k : NodeId) (rows : List Row) → IsBelow k rows → row_of rows k ≡ None
none_below k [] h = refl
none_below k (y ∷ rows) h = row_by k y rows Less (less_is (node_cmp k y.id) (and_first _ _ h)) ∙ none_below k rows (and_second _ _ h)

abbrev kept_but : NodeId → List (NodeId × Row) → List (NodeId × Row)
kept_but k es = entries.where_key node_cmp (λ x. not (eq_by_cmp node_cmp k x)) es

all_kept : (k : NodeId) (rows : List Row) → IsBelow k rows → kept_but k (map keyed rows) ≡ map keyed rows
all_kept k [] h = refl
all_kept k (y ∷ rows) h =
    ap (λ o. cond (not (is_eq o)) (keyed y ∷ kept_but k (map keyed rows)) (kept_but k (map keyed rows))) (less_is (node_cmp k y.id) (and_first _ _ h))
    ∙ ap (λ es. keyed y ∷ es) (all_kept k rows (and_second _ _ h))

not_some : {A : Type 0} (x : A) → Some x ≢ None
not_some x e = cc

-- a row that is there stands at the place of its id
pub row_at : (k : NodeId) (o : Row) (rows : List Row) → rises rows ≡ true → row_of rows k ≡ Some o → IsAt rows k o
row_at k o [] up h = let e : None ≡ Some o = h in cc
row_at k o (x ∷ xs) up h =
    elim (node_cmp k x.id) as (λ c. node_cmp k x.id ≡ c → IsAt (x ∷ xs) k o) [
      | Less ↦ λ p. absurd (not_some o (sym (sym (row_by k x xs Less p) ∙ h) ∙ none_below k xs (below_from k x.id (λ y l. nodes_total.trans k x.id y p l) xs (and_first _ _ up))))
      | Equal ↦ λ p.
          let same : Some x ≡ Some o = sym (row_by k x xs Equal p) ∙ h in
          let is : x ≡ o = cc in
          (ap (slice_get (x ∷ xs)) (place_by k x xs Equal p) ∙ same, ap (λ (z : Row). z.id) (sym is) ∙ sym (exact_nodes k x.id p))
      | Greater ↦ λ p.
          let at = row_at k o xs (and_second _ _ up) (sym (row_by k x xs Greater p) ∙ h) in
          (ap (slice_get (x ∷ xs)) (place_by k x xs Greater p) ∙ at.0, at.1)
    ] refl

-- to take it out leaves the other rows
pub kept_others : (k : NodeId) (o : Row) (rows : List Row) → rises rows ≡ true → IsAt rows k o → kept_but k (map keyed rows) ≡ map keyed (remove rows (place_of k rows))
kept_others k o [] up at = let e = at.0 in cc
kept_others k o (x ∷ xs) up at =
    elim (node_cmp k x.id) as (λ c. node_cmp k x.id ≡ c → cond (not (is_eq c)) (keyed x ∷ kept_but k (map keyed xs)) (kept_but k (map keyed xs)) ≡ map keyed (remove (x ∷ xs) (place_of k (x ∷ xs)))) [
      | Less ↦ λ p.
          let first : Some x ≡ Some o = ap (slice_get (x ∷ xs)) (sym (place_by k x xs Less p)) ∙ at.0 in
          let same : x ≡ o = cc in
          let tie : node_cmp k x.id ≡ Equal = ap (node_cmp k) (ap (λ (z : Row). z.id) same ∙ at.1) ∙ tied_itself nodes_total k in
          cc
      | Equal ↦ λ p. all_kept k xs (below_from k x.id (λ y l. nodes_total.congr k x.id y p ∙ l) xs (and_first _ _ up)) ∙ ap (λ n. map keyed (remove (x ∷ xs) n)) (sym (place_by k x xs Equal p))
      | Greater ↦ λ p.
          let rest : slice_get xs (place_of k xs) ≡ Some o = ap (slice_get (x ∷ xs)) (sym (place_by k x xs Greater p)) ∙ at.0 in
          ap (λ es. keyed x ∷ es) (kept_others k o xs (and_second _ _ up) (rest, at.1)) ∙ ap (λ n. map keyed (remove (x ∷ xs) n)) (sym (place_by k x xs Greater p))
    ] refl

turned : {A : Type 0} (b : Bool) (x y : A) → cond (not b) x y ≡ cond b y x
turned true x y = refl
turned false x y = refl

-- what an edit of the list does to the tree
sorted_of : (m : Tree) (rows : List Row) → map.entries m ≡ map keyed rows → rises rows ≡ true
sorted_of m rows e = is_true _ (subst (λ es. T (entries.is_sorted node_cmp es)) e (map.entries_sorted m))
  where
    is_true : (b : Bool) → T b → b ≡ true
    is_true true h = refl
    is_true false h = absurd h

tree_is : (m : Tree) (rows : List Row) → map.entries m ≡ map keyed rows → tree_of rows ≡ m
tree_is m rows e = map.same_entries_map (tree_of rows) m (entries_of rows (sorted_of m rows e) ∙ sym e)

-- rows that rise, and the tree that they are
pub record AreRows (rows : List Row) (t : Tree) : Type 0 where
  pub rise : rises rows ≡ true
  pub tree : tree_of rows ≡ t

are : (m : Tree) (rows : List Row) → map.entries m ≡ map keyed rows → AreRows rows m
are m rows e = record { rise = sorted_of m rows e; tree = tree_is m rows e }

pub insert_new : (r : Row) (rows : List Row) → rises rows ≡ true → look (tree_of rows) r.id ≡ None → AreRows (insert rows (place_of r.id rows) r) (map.insert (tree_of rows) r.id r)
insert_new r rows up none = are _ _ (map.entries-insert nodes_total (tree_of rows) r.id r ∙ ap (entries.put node_cmp r.id r) (entries_of rows up) ∙ put_new r rows (sym (look_of rows up r.id) ∙ none))

pub insert_over : (r o : Row) (rows : List Row) → rises rows ≡ true → look (tree_of rows) r.id ≡ Some o → AreRows (set rows (place_of r.id rows) r) (map.insert (tree_of rows) r.id r)
insert_over r o rows up some = are _ _ (map.entries-insert nodes_total (tree_of rows) r.id r ∙ ap (entries.put node_cmp r.id r) (entries_of rows up) ∙ put_over r o rows (row_at r.id o rows up (sym (look_of rows up r.id) ∙ some)))

pub remove_at : (k : NodeId) (o : Row) (rows : List Row) → rises rows ≡ true → look (tree_of rows) k ≡ Some o → AreRows (remove rows (place_of k rows)) (map.remove (tree_of rows) k)
remove_at k o rows up some = record { rise = rise; tree = same_tree _ _ alike }
  where
    gone : kept_but k (map keyed rows) ≡ map keyed (remove rows (place_of k rows))
    gone = kept_others k o rows up (row_at k o rows up (sym (look_of rows up k) ∙ some))

    is_true : (b : Bool) → T b → b ≡ true
    is_true true h = refl
    is_true false h = absurd h

    rise : rises (remove rows (place_of k rows)) ≡ true
    rise = is_true _ (subst (λ es. T (entries.is_sorted node_cmp es)) gone (entries.is_sorted-where_key node_cmp (λ x. not (eq_by_cmp node_cmp k x)) (map keyed rows) (subst T (sym up) tt)))

    alike : (q : NodeId) → look (tree_of (remove rows (place_of k rows))) q ≡ look (map.remove (tree_of rows) k) q
    alike q =
        map.get-from_sorted node_cmp (map keyed (remove rows (place_of k rows))) q (subst T (sym rise) tt)
        ∙ ap (entries.find node_cmp q) (sym gone)
        ∙ entries.find-where_key node_cmp (λ x. not (eq_by_cmp node_cmp k x)) q (λ x t. ap (λ r. not (is_eq r)) (sym (alike_right nodes_total q x k t))) (map keyed rows)
        ∙ turned (eq_by_cmp node_cmp k q) _ _
        ∙ ap (λ b. cond b None (entries.find node_cmp q (map keyed rows))) ((eq_by_cmp_equiv nodes_total).symm k q)
        ∙ ap (cond (eq_by_cmp node_cmp q k) None) (sym (map.get-from_sorted node_cmp (map keyed rows) q (subst T (sym up) tt)))
        ∙ sym (map.get-remove nodes_total (tree_of rows) k q)

below_at : (k : NodeId) (rows : List Row) → IsBelow k rows → (j : ℕ) (d : Row) → j < length rows → node_cmp k (slice_index_or rows j d).id ≡ Less
below_at k [] h j d lt = absurd (omega arith)
below_at k (y ∷ rows) h zero d lt = less_is (node_cmp k y.id) (and_first _ _ h)
below_at k (y ∷ rows) h (suc j) d lt = below_at k rows (and_second _ _ h) j d (omega arith)

-- rows in order have those with smaller ids at the front
pub parted : (k : NodeId) (rows : List Row) → rises rows ≡ true → IsPartitionedBy (λ r. is_lt (node_cmp r.id k)) rows
parted k [] up i j d le lt p = absurd (omega arith)
parted k (x ∷ rows) up zero zero d le lt p = p
parted k (x ∷ rows) up zero (suc j) d le lt p = ap is_lt (nodes_total.trans x.id _ k (below_at x.id rows (and_first _ _ up) j d (omega arith)) (less_is _ p))
parted k (x ∷ rows) up (suc i) zero d le lt p = absurd (omega arith)
parted k (x ∷ rows) up (suc i) (suc j) d le lt p = parted k rows (and_second _ _ up) i j d (omega arith) (omega arith) p

-- where they end is the place
pub place_is : (k : NodeId) (rows : List Row) (i : ℕ) → i ≤ length rows → IsPartitionPoint (λ r. is_lt (node_cmp r.id k) ≡ true) (λ r. is_lt (node_cmp r.id k) ≡ false) rows i → i ≡ place_of k rows
place_is k [] i le h = omega arith
place_is k (x ∷ rows) zero le h = sym (ap (λ b. cond b (suc (place_of k rows)) 0) (h.1 0 x (omega arith) (omega arith)))
place_is k (x ∷ rows) (suc i) le h =
    ap suc (place_is k rows i (omega arith) (λ j d low high. h.0 (suc j) d (omega arith) (omega arith), λ j d low high. h.1 (suc j) d (omega arith) (omega arith)))
    ∙ sym (ap (λ b. cond b (suc (place_of k rows)) 0) (h.0 0 x (omega arith) (omega arith)))

-- the row, if its id is k
abbrev pub if_at : NodeId → Row → Option Row
if_at k o = cond (same_node o.id k) (Some o) None

-- the row at the place of an id, if it has the id
pub row_is : (k : NodeId) (rows : List Row) → rises rows ≡ true → row_of rows k ≡ option_and_then (if_at k) (slice_get rows (place_of k rows))
row_is k [] up = refl
row_is k (x ∷ xs) up =
    elim (node_cmp k x.id) as (λ c. node_cmp k x.id ≡ c → row_of (x ∷ xs) k ≡ option_and_then (if_at k) (slice_get (x ∷ xs) (place_of k (x ∷ xs)))) [
      | Less ↦ λ p.
          row_by k x xs Less p ∙ none_below k xs (below_from k x.id (λ y l. nodes_total.trans k x.id y p l) xs (and_first _ _ up))
          ∙ sym (ap (λ n. option_and_then (if_at k) (slice_get (x ∷ xs) n)) (place_by k x xs Less p)
          ∙ ap (λ b. cond b (Some x) None) (sym (flip_same k x.id) ∙ ap is_eq p))
      | Equal ↦ λ p.
          row_by k x xs Equal p
          ∙ sym (ap (λ n. option_and_then (if_at k) (slice_get (x ∷ xs) n)) (place_by k x xs Equal p)
          ∙ ap (λ b. cond b (Some x) None) (sym (flip_same k x.id) ∙ ap is_eq p))
      | Greater ↦ λ p.
          row_by k x xs Greater p ∙ row_is k xs (and_second _ _ up)
          ∙ sym (ap (λ n. option_and_then (if_at k) (slice_get (x ∷ xs) n)) (place_by k x xs Greater p))
    ] refl

pub place_le : (k : NodeId) (rows : List Row) → place_of k rows ≤ length rows
place_le k [] = omega arith
place_le k (x ∷ xs) = elim (is_lt (node_cmp x.id k)) as (λ b. cond b (suc (place_of k xs)) 0 ≤ length (x ∷ xs)) [ true ↦ omega (arith, place_le k xs) | false ↦ omega arith ]
