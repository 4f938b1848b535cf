-- Lists of ids: in ascending order, put into order, and those of a tree.
use Rattle.std.proofs.Common.{◌≡◌, ◌≢◌, ℕ, zero, suc, ◌+◌, ◌≤◌, Bool, true, false, List, [], ◌∷◌, map, length, inl, inr, ◌&&◌, ◌||◌, cond, Option, Some, None, is_some, refl, sym, ap, subst, ◌∙◌, arith, slice_get}
use mathlib.Core.Bool.{true≢false}
use Rattle.std.specs.Prelude.{T, filter}
use Rattle.std.specs.declared.cmp.Ordering.TheVariants.{Less, Equal, Greater}
use Rattle.std.specs.Ordering.{is_lt, eq_by_cmp}
use Rattle.std.specs.Option.{option_map_or}
use Rattle.std.specs.Cmp.{tied_itself}
use Rattle.std.specs.List.{list_any}
use Rattle.std.specs.FinMap as map
use Rattle.std.specs.FinMap.Entries as entries
use Rattle.kb_name.specs.declared.ids.NodeId.{NodeId}
use Rattle.kb_ops.specs.declared.rows.Row.{Row}
use Rattle.kb_name.specs.Nodes.{same_node, node_cmp}
use Rattle.kb_ops.specs.Rows.{Look}
use Rattle.kb_ops.specs.Trees.{Tree, look}
use Rattle.kb_ops.proofs.Nodes.{node_is, node_self, node_other, node_cases}
use Rattle.kb_ops.proofs.Walks.{row_cases}
use Rattle.kb_ops.proofs.Looks.{nodes_total, exact_nodes, tested, look-insert}
use Rattle.kb_ops.proofs.Lists.{less_is}
use Rattle.kb_rules.specs.Code.{above, ascend}
use Rattle.kb_rules.specs.Merge.{put_id, put_ids, tree_at}
use Rattle.kb_rules.specs.Ready.{is_in}
use Rattle.kb_rules.proofs.Basics.{bool_cases, both, first_of_both, second_of_both, when, unless, none_some}

true_of : (b : Bool) → T b → b ≡ true
true_of true h = refl
true_of false h = absurd h

above_keys : (k : NodeId) (es : List (NodeId × Row)) → entries.below_all node_cmp k es ≡ above k (map (λ (e : NodeId × Row). e.0) es)
above_keys k [] = refl
above_keys k (e ∷ es) = ap (λ b. is_lt (node_cmp k e.0) && b) (above_keys k es)

rises_keys : (es : List (NodeId × Row)) → entries.is_sorted node_cmp es ≡ ascend (map (λ (e : NodeId × Row). e.0) es)
rises_keys [] = refl
rises_keys (e ∷ es) = λ i. above_keys e.0 es i && rises_keys es i

pub keys_rise : (t : Tree) → ascend (map.keys t) ≡ true
keys_rise t = sym (rises_keys (map.entries t)) ∙ true_of _ (map.entries_sorted t)

above_filter : (p : NodeId → Bool) (k : NodeId) (ids : List NodeId) → above k ids ≡ true → above k (filter p ids) ≡ true
above_filter p k [] h = refl
above_filter p k (q ∷ ids) h =
    let rest = above_filter p k ids (second_of_both _ _ h) in
    elim (p q) as (λ b. above k (cond b (q ∷ filter p ids) (filter p ids)) ≡ true) [ true ↦ both _ _ (first_of_both _ _ h) rest | false ↦ rest ]

pub rises_filter : (p : NodeId → Bool) (ids : List NodeId) → ascend ids ≡ true → ascend (filter p ids) ≡ true
rises_filter p [] h = refl
rises_filter p (q ∷ ids) h =
    let rest = rises_filter p ids (second_of_both _ _ h) in
    elim (p q) as (λ b. ascend (cond b (q ∷ filter p ids) (filter p ids)) ≡ true) [ true ↦ both _ _ (above_filter p q ids (first_of_both _ _ h)) rest | false ↦ rest ]

not_above : (k : NodeId) (ids : List NodeId) (i : ℕ) → above k ids ≡ true → slice_get ids i ≢ Some k
not_above k [] i h e = none_some k None refl e
not_above k (q ∷ ids) zero h e =
    let same : q ≡ k = cc in
    let less : node_cmp k k ≡ Less = ap (node_cmp k) (sym same) ∙ less_is (node_cmp k q) (first_of_both _ _ h) in
    let tie : node_cmp k k ≡ Equal = tied_itself nodes_total k in
    cc
not_above k (q ∷ ids) (suc i) h e = not_above k ids i (second_of_both _ _ h) e

-- an id stands once in such a list
pub stands_once : (ids : List NodeId) (i j : ℕ) (q : NodeId) → ascend ids ≡ true → slice_get ids i ≡ Some q → slice_get ids j ≡ Some q → i ≡ j
stands_once [] i j q h e f = none_some q None refl e
stands_once (x ∷ ids) zero zero q h e f = refl
stands_once (x ∷ ids) zero (suc j) q h e f = let same : x ≡ q = cc in absurd (not_above x ids j (first_of_both _ _ h) (f ∙ ap Some (sym same)))
stands_once (x ∷ ids) (suc i) zero q h e f = let same : x ≡ q = cc in absurd (not_above x ids i (first_of_both _ _ h) (e ∙ ap Some (sym same)))
stands_once (x ∷ ids) (suc i) (suc j) q h e f = ap suc (stands_once ids i j q (second_of_both _ _ h) e f)

-- what is in a filtered list
pub filter_in : (p : NodeId → Bool) (ids : List NodeId) (q : NodeId) → is_in q ids ≡ true → p q ≡ true → is_in q (filter p ids) ≡ true
filter_in p [] q h k = h
filter_in p (x ∷ ids) q h k = elim (bool_cases (same_node q x)) [
  | inl e ↦ ap (λ (xs : List NodeId). is_in q xs) (when _ (x ∷ filter p ids) (filter p ids) (ap p (sym (node_is q x e)) ∙ k)) ∙ ap (λ b. b || is_in q (filter p ids)) e
  | inr e ↦
      let rest = filter_in p ids q (sym (ap (λ b. b || is_in q ids) e) ∙ h) k in
      elim (p x) as (λ b. is_in q (cond b (x ∷ filter p ids) (filter p ids)) ≡ true) [ true ↦ ap (λ b. b || is_in q (filter p ids)) e ∙ rest | false ↦ rest ]
]

pub in_filter : (p : NodeId → Bool) (ids : List NodeId) (q : NodeId) → is_in q (filter p ids) ≡ true → p q ≡ true
in_filter p [] q h = absurd (true≢false (sym h))
in_filter p (x ∷ ids) q h = elim (bool_cases (p x)) [
  | inl e ↦ elim (bool_cases (same_node q x)) [
    | inl s ↦ ap p (node_is q x s) ∙ e
    | inr s ↦ in_filter p ids q (sym (ap (λ b. b || is_in q (filter p ids)) s) ∙ sym (ap (λ (xs : List NodeId). is_in q xs) (when _ (x ∷ filter p ids) (filter p ids) e)) ∙ h)
  ]
  | inr e ↦ in_filter p ids q (sym (ap (λ (xs : List NodeId). is_in q xs) (unless _ (x ∷ filter p ids) (filter p ids) e)) ∙ h)
]

pub get_in : (ids : List NodeId) (i : ℕ) (q : NodeId) → slice_get ids i ≡ Some q → is_in q ids ≡ true
get_in [] i q h = none_some q None refl h
get_in (x ∷ ids) zero q h = let same : x ≡ q = cc in ap (λ b. b || is_in q ids) (ap (same_node q) same ∙ node_self q)
get_in (x ∷ ids) (suc i) q h = or_second (same_node q x) _ (get_in ids i q h)
  where
    or_second : (a b : Bool) → b ≡ true → (a || b) ≡ true
    or_second true b h = refl
    or_second false b h = h

pub in_get : (ids : List NodeId) (q : NodeId) → is_in q ids ≡ true → (i : ℕ) × (slice_get ids i ≡ Some q)
in_get [] q h = absurd (true≢false (sym h))
in_get (x ∷ ids) q h = elim (bool_cases (same_node q x)) [
  | inl e ↦ (zero, ap Some (sym (node_is q x e)))
  | inr e ↦ let w = in_get ids q (sym (ap (λ b. b || is_in q ids) e) ∙ h) in (suc w.0, w.1)
]

-- what is put is in, and what was in stays in
pub put_id_in : (k : NodeId) (ids : List NodeId) → is_in k (put_id k ids) ≡ true
put_id_in k [] = ap (λ b. b || false) (node_self k)
put_id_in k (q ∷ ids) = elim (node_cmp k q) as (λ o. node_cmp k q ≡ o → is_in k (entries.by_order o (k ∷ q ∷ ids) (q ∷ ids) (q ∷ put_id k ids)) ≡ true) [
  | Less ↦ λ e. ap (λ b. b || (same_node k q || is_in k ids)) (node_self k)
  | Equal ↦ λ e. ap (λ b. b || is_in k ids) (ap (same_node k) (sym (exact_nodes k q e)) ∙ node_self k)
  | Greater ↦ λ e. later (same_node k q) _ (put_id_in k ids)
] refl
  where
    later : (a b : Bool) → b ≡ true → (a || b) ≡ true
    later true b h = refl
    later false b h = h

pub put_id_keeps : (k : NodeId) (ids : List NodeId) (q : NodeId) → is_in q ids ≡ true → is_in q (put_id k ids) ≡ true
put_id_keeps k [] q h = absurd (true≢false (sym h))
put_id_keeps k (x ∷ ids) q h = elim (node_cmp k x) as (λ o. is_in q (entries.by_order o (k ∷ x ∷ ids) (x ∷ ids) (x ∷ put_id k ids)) ≡ true) [
  | Less ↦ later (same_node q k) _ h
  | Equal ↦ h
  | Greater ↦ elim (same_node q x) as (λ b. (b || is_in q ids) ≡ true → (b || is_in q (put_id k ids)) ≡ true) [ true ↦ λ _. refl | false ↦ λ r. put_id_keeps k ids q r ] h
]
  where
    later : (a b : Bool) → b ≡ true → (a || b) ≡ true
    later true b h = refl
    later false b h = h

pub put_ids_keeps : (ks ids : List NodeId) (q : NodeId) → is_in q ids ≡ true → is_in q (put_ids ks ids) ≡ true
put_ids_keeps [] ids q h = h
put_ids_keeps (k ∷ ks) ids q h = put_ids_keeps ks (put_id k ids) q (put_id_keeps k ids q h)

pub put_ids_in : (ks ids : List NodeId) (q : NodeId) → is_in q ks ≡ true → is_in q (put_ids ks ids) ≡ true
put_ids_in [] ids q h = absurd (true≢false (sym h))
put_ids_in (k ∷ ks) ids q h = elim (bool_cases (same_node q k)) [
  | inl e ↦ put_ids_keeps ks (put_id k ids) q (subst (λ z. is_in z (put_id k ids) ≡ true) (sym (node_is q k e)) (put_id_in k ids))
  | inr e ↦ put_ids_in ks (put_id k ids) q (sym (ap (λ b. b || is_in q ks) e) ∙ h)
]

put_id_le : (k : NodeId) (ids : List NodeId) → length (put_id k ids) ≤ suc (length ids)
put_id_le k [] = omega arith
put_id_le k (q ∷ ids) = let rest = put_id_le k ids in elim (node_cmp k q) as (λ o. length (entries.by_order o (k ∷ q ∷ ids) (q ∷ ids) (q ∷ put_id k ids)) ≤ suc (suc (length ids))) [ Less ↦ omega arith | Equal ↦ omega arith | Greater ↦ omega (arith, rest) ]

pub put_ids_le : (ks ids : List NodeId) → length (put_ids ks ids) ≤ length ks + length ids
put_ids_le [] ids = omega arith
put_ids_le (k ∷ ks) ids = let rest = put_ids_le ks (put_id k ids) in let one = put_id_le k ids in omega (arith, rest, one)

pub filter_le : (p : NodeId → Bool) (ids : List NodeId) → length (filter p ids) ≤ length ids
filter_le p [] = omega arith
filter_le p (q ∷ ids) = let rest = filter_le p ids in elim (p q) as (λ b. length (cond b (q ∷ filter p ids) (filter p ids)) ≤ suc (length ids)) [ true ↦ omega (arith, rest) | false ↦ omega (arith, rest) ]

-- the ids of a tree
same_any : (f g : NodeId → Bool) → ((q : NodeId) → f q ≡ g q) → (ids : List NodeId) → list_any f ids ≡ list_any g ids
same_any f g h [] = refl
same_any f g h (q ∷ ids) = λ i. h q i || same_any f g h ids i

pub in_keys : (t : Tree) (q : NodeId) → is_in q (map.keys t) ≡ is_some (look t q)
in_keys t q = sym (map.contains_key-keys t q ∙ same_any (eq_by_cmp node_cmp q) (same_node q) (tested q) (map.keys t))

-- the tree of a look's rows
pub look_at : (f : Look) (ids : List NodeId) (q : NodeId) → look (tree_at ids f) q ≡ cond (is_in q ids) (f q) None
look_at f [] q = map.get-empty node_cmp q
look_at f (x ∷ ids) q = elim (row_cases f x) [
  | inl w ↦
      ap (λ o. look (option_map_or (λ (r : Row). map.insert (tree_at ids f) x r) o (tree_at ids f)) q) w.1
      ∙ elim (node_cases q x) [
        | inl e ↦ ap (look (map.insert (tree_at ids f) x w.0)) e ∙ (look-insert (tree_at ids f) x w.0).here ∙ sym w.1 ∙ ap f (sym e)
            ∙ sym (ap (λ b. cond (b || is_in q ids) (f q) None) (ap (λ z. same_node z x) e ∙ node_self x))
        | inr ne ↦ (look-insert (tree_at ids f) x w.0).others q ne ∙ look_at f ids q ∙ sym (ap (λ b. cond (b || is_in q ids) (f q) None) (node_other q x ne))
      ]
  | inr none ↦
      ap (λ o. look (option_map_or (λ (r : Row). map.insert (tree_at ids f) x r) o (tree_at ids f)) q) none
      ∙ look_at f ids q
      ∙ elim (node_cases q x) [
        | inl e ↦ either (is_in q ids) (f q) (ap f e ∙ none) ∙ sym (ap (λ b. cond (b || is_in q ids) (f q) None) (ap (λ z. same_node z x) e ∙ node_self x) ∙ ap f e ∙ none)
        | inr ne ↦ sym (ap (λ b. cond (b || is_in q ids) (f q) None) (node_other q x ne))
      ]
]
  where
    either : (b : Bool) (o : Option Row) → o ≡ None → cond b o None ≡ None
    either true o e = e
    either false o e = refl
