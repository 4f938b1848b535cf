-- The lists that the code keeps are the three trees.
use Rattle.std.proofs.Common.{◌≡◌, ℕ, suc, ◌+◌, ◌^◌, ◌<◌, Bool, true, false, List, [], ◌∷◌, length, Some, None, is_some, ◌||◌, refl, sym, ap, subst, ◌∙◌, arith}
use Rattle.std.specs.Option.{option_map}
use Rattle.std.specs.List.{cons_option}
use Rattle.std.proofs.lemmas.List.{length-map}
use Rattle.std.specs.Ordering.{is_lt, ordering_reverse}
use Rattle.std.specs.declared.cmp.Ordering.TheVariants.{Less, Equal, Greater}
use Rattle.std.specs.FinMap as map
use Rattle.std.specs.FinMap.Entries as entries
use Rattle.kb_name.specs.declared.ids.NodeId.{NodeId}
use Rattle.kb_name.specs.Nodes.{same_node, node_cmp}
use Rattle.kb_ops.specs.declared.rows.Row.{Row}
use Rattle.kb_ops.specs.Rows.{Look}
use Rattle.kb_ops.specs.Lists.{rises, tree_of}
use Rattle.kb_ops.proofs.Nodes.{node_self}
use Rattle.kb_ops.proofs.Looks.{nodes_total}
use Rattle.kb_ops.proofs.Lists.{less_is, look_of}
use Rattle.kb_rules.specs.declared.stamp.Stamp.{Stamp}
use Rattle.kb_rules.specs.declared.sides.Sides.{Sides}
use Rattle.kb_rules.specs.Three.{Three, is_split}
use Rattle.kb_rules.specs.Merge.{copied, conflicted, copy_id, copy_ids, put_id, put_ids, split_among, splits, with_copies, three_of, three}
use Rattle.kb_rules.specs.Meet.{Meet}
use Rattle.kb_rules.specs.Ready.{is_in, CanMerge}
use Rattle.kb_rules.specs.Code.{above, ascend, row_in, ids_of, copies_of, AreSides}
use Rattle.kb_rules.specs.Naming.{named_three}
use Rattle.kb_rules.proofs.Alike.{first_rule}
use Rattle.kb_rules.proofs.Basics.{not_both, both, first_of_both, second_of_both}
use Rattle.kb_rules.proofs.Ids.{rises_filter, in_filter, put_ids_le, filter_le}
use Rattle.kb_rules.proofs.Copies.{split_is, can_merge, copies_le}
use Rattle.kb_rules.proofs.Puts.{keys_of, ids_ascend}

-- the three trees of the lists
pub same_three : (b m u : List Row) (stamp : Stamp) → rises b ≡ true → rises m ≡ true → rises u ≡ true →
    three (tree_of b) (tree_of m) (tree_of u) stamp ≡ three_of stamp (row_in b) (row_in m) (row_in u) (ids_of m) (ids_of u)
same_three b m u stamp hb hm hu = λ i. three_of stamp (λ q. look_of b hb q i) (λ q. look_of m hm q i) (λ q. look_of u hu q i) (keys_of m hm i) (keys_of u hu i)

pub same_splits : (b m u : List Row) → rises b ≡ true → rises m ≡ true → rises u ≡ true → splits (tree_of b) (tree_of m) (tree_of u) ≡ split_among (row_in b) (row_in m) (row_in u) (ids_of m)
same_splits b m u hb hm hu = λ i. split_among (λ q. look_of b hb q i) (λ q. look_of m hm q i) (λ q. look_of u hu q i) (keys_of m hm i)

-- ids put into order
above_put : (k q : NodeId) (ids : List NodeId) → node_cmp q k ≡ Less → above q ids ≡ true → above q (put_id k ids) ≡ true
above_put k q [] l h = both _ _ (ap is_lt l) refl
above_put k q (x ∷ ids) l h = elim (node_cmp k x) as (λ o. above q (entries.by_order o (k ∷ x ∷ ids) (x ∷ ids) (x ∷ put_id k ids)) ≡ true) [
  | Less ↦ both _ _ (ap is_lt l) h
  | Equal ↦ h
  | Greater ↦ both _ _ (first_of_both _ _ h) (above_put k q ids l (second_of_both _ _ h))
]

above_from : (k m : NodeId) (ids : List NodeId) → node_cmp k m ≡ Less → above m ids ≡ true → above k ids ≡ true
above_from k m [] l h = refl
above_from k m (y ∷ ids) l h = both _ _ (ap is_lt (later k m y l (less_is _ (first_of_both _ _ h)))) (above_from k m ids l (second_of_both _ _ h))
  where
    later : (k m y : NodeId) → node_cmp k m ≡ Less → node_cmp m y ≡ Less → node_cmp k y ≡ Less
    later k m y a b = nodes_total.trans k m y a b

ascend_put : (k : NodeId) (ids : List NodeId) → ascend ids ≡ true → ascend (put_id k ids) ≡ true
ascend_put k [] h = refl
ascend_put k (x ∷ ids) h = elim (node_cmp k x) as (λ o. node_cmp k x ≡ o → ascend (entries.by_order o (k ∷ x ∷ ids) (x ∷ ids) (x ∷ put_id k ids)) ≡ true) [
  | Less ↦ λ e. both _ _ (both _ _ (ap is_lt e) (above_from k x ids e (first_of_both _ _ h))) h
  | Equal ↦ λ e. h
  | Greater ↦ λ e. both _ _ (above_put k x ids (nodes_total.antisymm x k ∙ ap ordering_reverse e) (first_of_both _ _ h)) (ascend_put k ids (second_of_both _ _ h))
] refl

ascend_puts : (ks ids : List NodeId) → ascend ids ≡ true → ascend (put_ids ks ids) ≡ true
ascend_puts [] ids h = h
ascend_puts (k ∷ ks) ids h = ascend_puts ks (put_id k ids) (ascend_put k ids h)

-- each split file has a copy
copies_all : (stamp : Stamp) (j : ℕ) (splits : List NodeId) (u : Look) → ((q : NodeId) → is_in q splits ≡ true → is_some (u q) ≡ true) → length (copies_of stamp j splits u) ≡ length splits
copies_all stamp j [] u h = refl
copies_all stamp j (s ∷ splits) u h =
    let rest = copies_all stamp (j + 1) splits u (λ q e. h q (later (same_node q s) _ e)) in
    let here = h s (ap (λ b. b || is_in s splits) (node_self s)) in
    elim (u s) as (λ o. is_some o ≡ true → length (cons_option (option_map (λ (r : Row). record r { id = copy_id stamp j }) o) (copies_of stamp (j + 1) splits u)) ≡ suc (length splits)) [
      | None ↦ λ e. not_both false e refl
      | Some r ↦ λ e. ap suc rest
    ] here
  where
    later : (a b : Bool) → b ≡ true → (a || b) ≡ true
    later true b h = refl
    later false b h = h

-- the trees don't depend on the conflicted names
can_still : (n m : ℕ) (t : Three) (c : List ℕ → ℕ → List ℕ) → CanMerge n m t → CanMerge n m (record t { conflicted = c })
can_still n m t c can = record { merged = can.merged; ours = can.ours; kinds = can.kinds; common = can.common; merged_in = can.merged_in; ours_in = can.ours_in; joined_kinds = can.joined_kinds; joined_files = can.joined_files }

module _ (s : Sides) (base : rises s.base.now ≡ true) (merged : rises s.merged.now ≡ true) (ours : rises s.ours.now ≡ true)
    (split : s.splits.now ≡ split_among (row_in s.base.now) (row_in s.merged.now) (row_in s.ours.now) (ids_of s.merged.now))
    (copies : s.copies.now ≡ copies_of s.stamp.now 1 s.splits.now (row_in s.ours.now))
    (ids : s.ids.now ≡ put_ids (copy_ids s.stamp.now 1 s.splits.now) (put_ids (ids_of s.ours.now) (ids_of s.merged.now))) where
  abbrev b : List Row
  b = s.base.now

  abbrev m : List Row
  m = s.merged.now

  abbrev u : List Row
  u = s.ours.now

  -- the three trees of the code are those of the definition
  pub three_is : s.stamp.now.rule ≡ 1 → named_three s ≡ three (tree_of b) (tree_of m) (tree_of u) s.stamp.now
  three_is rule = (λ i. record {
    base = row_in b;
    merged = row_in m;
    ours = with_copies s.stamp.now (split i) (row_in u);
    ids = (ids ∙ ap (λ xs. put_ids (copy_ids s.stamp.now 1 xs) (put_ids (ids_of u) (ids_of m))) split) i;
    conflicted = conflicted s.stamp.now;
    may = first_rule s.stamp.now.rule rule (row_in b) (λ q. is_some (copied s.stamp.now (split_among (row_in b) (row_in m) (row_in u) (ids_of m)) q)) i;
  })
      ∙ sym (same_three b m u s.stamp.now base merged ours)

  pub splits_are : s.splits.now ≡ splits (tree_of b) (tree_of m) (tree_of u)
  splits_are = split ∙ sym (same_splits b m u base merged ours)

  module _ (meet : Meet (tree_of b) (tree_of m) (tree_of u) s.stamp.now) (rule : s.stamp.now.rule ≡ 1) where
    pub sides_are : AreSides s
    sides_are =
        let can = can_merge (tree_of b) (tree_of m) (tree_of u) s.stamp.now meet in
        record {
          n = map.len (tree_of m);
          m = map.len (tree_of u);
          can = can_still (map.len (tree_of m)) (map.len (tree_of u)) (named_three s) (λ name k. name) (subst (CanMerge (map.len (tree_of m)) (map.len (tree_of u))) (sym (three_is rule)) can);
          base = base;
          merged = merged;
          ours = ours;
          splits = ap ascend split ∙ rises_filter (is_split (row_in b) (row_in m) (row_in u)) (ids_of m) (ids_ascend m merged);
          copies = copies;
          all = ap length copies ∙ copies_all s.stamp.now 1 s.splits.now (row_in u) (λ q e.
              let w = split_is (row_in b) (row_in m) (row_in u) q (in_filter (is_split (row_in b) (row_in m) (row_in u)) (ids_of m) q (ap (is_in q) (sym split) ∙ e)) in
              ap is_some w.in_ours);
          ids = ap ascend ids ∙ ascend_puts (copy_ids s.stamp.now 1 s.splits.now) (put_ids (ids_of u) (ids_of m)) (ascend_puts (ids_of u) (ids_of m) (ids_ascend m merged));
        }

  -- there are few ids
  pub ids_few : length m < 2 ^ 57 → length u < 2 ^ 57 → length s.ids.now < 2 ^ 62
  ids_few lm lu =
      let a = put_ids_le (copy_ids s.stamp.now 1 s.splits.now) (put_ids (ids_of u) (ids_of m)) in
      let c = put_ids_le (ids_of u) (ids_of m) in
      let d = copies_le s.stamp.now 1 s.splits.now in
      let e = filter_le (is_split (row_in b) (row_in m) (row_in u)) (ids_of m) in
      let x : length (ids_of m) ≡ length m = length-map m (λ (r : Row). r.id) in
      let y : length (ids_of u) ≡ length u = length-map u (λ (r : Row). r.id) in
      let z = ap length ids in
      let w = ap length split in
      omega (arith, a, c, d, e, x, y, z, w, lm, lu)
