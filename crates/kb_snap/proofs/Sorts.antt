-- Entries in the order of their ids are the map that they make.
use Rattle.std.proofs.Common.{◌≡◌, Bool, true, false, ◌&&◌, List, [], ◌∷◌, length, map, Some, refl, ap, sym, subst, ◌∙◌, inl, inr}
use Rattle.std.specs.Prelude.{T}
use Rattle.std.specs.List.{AllByRecursion}
use Rattle.std.specs.List.Sorted.{IsStrictlySortedBy}
use Rattle.std.proofs.lemmas.Map.Keys.{sorted_head, sorted_tail}
use Rattle.std.specs.Ordering.{is_lt}
use Rattle.std.specs.declared.cmp.Ordering.TheVariants.{Less}
use Rattle.std.specs.FinMap as finite
use Rattle.std.specs.FinMap.{from_entries}
use Rattle.std.specs.FinMap.Entries as entries
use Rattle.kb_name.specs.declared.ids.NodeId.{NodeId}
use Rattle.kb_name.specs.Nodes.{node_cmp}
use Rattle.kb_ops.specs.declared.rows.Row.{Row}
use Rattle.kb_ops.specs.Lists.{keyed, tree_of}
use Rattle.kb_ops.specs.Trees.{Tree, look, IsWellFormed}
use Rattle.kb_ops.proofs.Looks.{nodes_total, exact_nodes}
use Rattle.kb_tree.specs.Held.{AreKept}
use Rattle.kb_snap.specs.Holds.{IsOneOf}
use Rattle.kb_snap.proofs.Listed.{find_here}

truth : (b : Bool) → b ≡ true → T b
truth true h = tt
truth false h = let bad : false ≡ true = h in cc

both : (a b : Bool) → a ≡ true → b ≡ true → (a && b) ≡ true
both true b h k = k
both false b h k = h

module _ {X : Type 0} where
  below : (k : NodeId) (es : List (NodeId × X)) → AllByRecursion (λ y. node_cmp k y ≡ Less) (map (λ e. e.0) es) → entries.below_all node_cmp k es ≡ true
  below k [] a = refl
  below k (e ∷ es) a = both _ _ (ap is_lt a.0) (below k es a.1)

  pub sorted : (es : List (NodeId × X)) → IsStrictlySortedBy node_cmp (map (λ e. e.0) es) → entries.is_sorted node_cmp es ≡ true
  sorted [] s = refl
  sorted (e ∷ es) s = both _ _ (below e.0 es (sorted_head node_cmp e.0 (map (λ x. x.0) es) s)) (sorted es (sorted_tail node_cmp e.0 (map (λ x. x.0) es) s))

  same_maps : (es : List (NodeId × X)) → entries.is_sorted node_cmp es ≡ true → from_entries {R = node_cmp} es ≡ finite.from_sorted es
  same_maps es up = finite.same_map nodes_total exact_nodes _ _ (λ q. finite.get-from_entries nodes_total es q ∙ sym (finite.get-from_sorted node_cmp es q (truth _ up)))

  pub entries_are : (es : List (NodeId × X)) → IsStrictlySortedBy node_cmp (map (λ e. e.0) es) → finite.entries (from_entries {R = node_cmp} es) ≡ es
  entries_are es s = ap finite.entries (same_maps es (sorted es s)) ∙ finite.entries-from_sorted node_cmp es (truth _ (sorted es s))

  pub len_is : (es : List (NodeId × X)) → IsStrictlySortedBy node_cmp (map (λ e. e.0) es) → length es ≡ finite.len (from_entries {R = node_cmp} es)
  len_is es s = sym (finite.len-entries (from_entries es) ∙ ap length (entries_are es s))

  pub values_are : (es : List (NodeId × X)) → IsStrictlySortedBy node_cmp (map (λ e. e.0) es) → map (λ e. e.1) es ≡ finite.values (from_entries {R = node_cmp} es)
  values_are es s = ap (map (λ e. e.1)) (sym (entries_are es s))

-- ---- the rows of a tree

is_true : (b : Bool) → T b → b ≡ true
is_true true h = refl
is_true false h = absurd h

keyed_self : (t : Tree) → IsWellFormed t → (es : List (NodeId × Row)) → ((e : NodeId × Row) → IsOneOf e es → look t e.0 ≡ Some e.1) → map keyed (map (λ e. e.1) es) ≡ es
keyed_self t w [] f = refl
keyed_self t w (e ∷ es) f = λ i. (w.keyed e.0 e.1 (f e (inl refl)) i, e.1) ∷ keyed_self t w es (λ x h. f x (inr h)) i

mapped : (es : List (NodeId × Row)) → map (λ (z : NodeId × Row). z) es ≡ es
mapped [] = refl
mapped (e ∷ es) = ap (λ xs. e ∷ xs) (mapped es)

found : (es : List (NodeId × Row)) → entries.is_sorted node_cmp es ≡ true → (x : NodeId × Row) → IsOneOf x es → entries.find node_cmp x.0 es ≡ Some x.1
found es up x h =
    subst (λ xs. entries.find node_cmp x.0 xs ≡ Some x.1) (mapped es)
    (find_here node_cmp nodes_total (λ (z : NodeId × Row). z) es (subst (λ xs. entries.is_sorted node_cmp xs ≡ true) (sym (mapped es)) up) x h)

pub rows_kept : (t : Tree) → IsWellFormed t → (rows : List Row) → rows ≡ finite.values t → AreKept rows × (tree_of rows ≡ t)
rows_kept t w rows e =
    let es = finite.entries t in
    let up : entries.is_sorted node_cmp es ≡ true = is_true _ (finite.entries_sorted t) in
    let same : map keyed rows ≡ es = ap (map keyed) e ∙ keyed_self t w es (λ x h. finite.get-entries t x.0 ∙ found es up x h) in
    let tree : tree_of rows ≡ t = ap finite.from_sorted same ∙ finite.same_entries_map _ t (finite.entries-from_sorted node_cmp es (finite.entries_sorted t)) in
    (record { rise = ap (entries.is_sorted node_cmp) same ∙ up; formed = subst IsWellFormed (sym tree) w }, tree)
