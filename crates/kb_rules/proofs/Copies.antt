-- Ours with its copies is a well formed tree, and the three trees can be merged.
use Rattle.std.proofs.Common.{◌≡◌, ◌≢◌, ℕ, zero, suc, ◌+◌, ◌-◌, ◌*◌, ◌^◌, ◌≤◌, ◌<◌, Bool, true, false, List, [], ◌∷◌, length, ◌⊎◌, inl, inr, ◌||◌, if◌then◌else◌, nat_eq, Option, Some, None, is_some, refl, sym, ap, subst, ◌∙◌, arith, slice_get}
use mathlib.Core.Bool.{true≢false}
use borrow.Author.Tests.{eq-eqb}
use Rattle.std.specs.Prelude.{filter}
use Rattle.std.specs.Option.{option_map, option_map_or}
use Rattle.std.specs.List.{list_any}
use Rattle.std.proofs.lemmas.List.{length-map}
use Rattle.std.specs.FinMap as map
use Rattle.kb_name.specs.declared.ids.NodeId.{NodeId}
use Rattle.kb_ops.specs.declared.values.Kind.{Kind}
use Rattle.kb_ops.specs.declared.values.Kind.TheVariants.{Dir, File, Link}
use Rattle.kb_ops.specs.declared.rows.Row.{Row}
use Rattle.kb_name.specs.Names.{is_name}
use Rattle.kb_name.specs.Nodes.{root, same_node}
use Rattle.kb_ops.specs.Rows.{Look, is_dir, is_dir_row, is_dir_kind, meets, IsTree, IsPlain}
use Rattle.kb_ops.specs.Trees.{Tree, look}
use Rattle.kb_ops.proofs.Nodes.{node_is, node_self, node_cases}
use Rattle.kb_ops.proofs.Walks.{row_cases, meets_here, meets_step, meets_from}
use Rattle.kb_ops.proofs.Kept.{dir_at, at_dir, some_and, and_some}
use Rattle.kb_ops.specs.Plan.{is_file_kind}
use Rattle.kb_rules.specs.Three.{is_split_by, is_split}
use Rattle.kb_rules.specs.declared.stamp.Stamp.{Stamp}
use Rattle.kb_rules.specs.Merge.{copy_id, copied, with_copies, copy_ids, put_ids, three, conflicted}
use Rattle.kb_rules.specs.Ready.{is_in, CanMerge}
use Rattle.kb_rules.proofs.Alike.{may_kinds, may_files}
use Rattle.kb_rules.proofs.Ready.{CanName}
use Rattle.kb_rules.specs.Meet.{Meet}
use Rattle.kb_rules.proofs.Basics.{bool_cases, not_true, not_both, first_of_both, second_of_both, not_was, when, unless, same_some, none_some}
use Rattle.kb_rules.proofs.Ids.{keys_rise, rises_filter, stands_once, filter_in, in_filter, get_in, put_ids_in, put_ids_keeps, put_ids_le, filter_le, in_keys}
use Rattle.kb_rules.proofs.Joined.{chosen}

-- conflicted names are names that differ
pub record IsNaming (conflicted : List ℕ → ℕ → List ℕ) : Type 0 where
  pub named : (name : List ℕ) (k : ℕ) → 1 ≤ k → k < 2 ^ 64 → is_name name ≡ true → is_name (conflicted name k) ≡ true
  pub differ : (name : List ℕ) (j k : ℕ) → 1 ≤ j → 1 ≤ k → j < 2 ^ 64 → k < 2 ^ 64 → conflicted name j ≡ conflicted name k → j ≡ k

-- a split file, in all three trees
pub record IsSplit (b m u : Look) (q : NodeId) : Type 0 where
  pub merged : Row
  pub in_merged : m q ≡ Some merged
  pub ours : Row
  pub in_ours : u q ≡ Some ours
  pub base : Row
  pub in_base : b q ≡ Some base
  pub file : merged.kind ≡ File

file_kind : (k : Kind) → is_file_kind k ≡ true → k ≡ File
file_kind Dir h = absurd (true≢false (sym h))
file_kind File h = refl
file_kind Link h = absurd (true≢false (sym h))

pub split_is : (b m u : Look) (q : NodeId) → is_split b m u q ≡ true → IsSplit b m u q
split_is b m u q h = elim (row_cases m q) [
  | inr none ↦ not_both _ h (λ i. is_split_by (none i) (u q) (b q))
  | inl r ↦ elim (row_cases u q) [
    | inr none ↦ not_both _ h (λ i. is_split_by (r.1 i) (none i) (b q))
    | inl s ↦ elim (row_cases b q) [
      | inr none ↦ not_both _ h (λ i. is_split_by (r.1 i) (s.1 i) (none i))
      | inl o ↦ record {
        merged = r.0;
        in_merged = r.1;
        ours = s.0;
        in_ours = s.1;
        base = o.0;
        in_base = o.1;
        file = file_kind r.0.kind (first_of_both _ _ (sym (λ i. is_split_by (r.1 i) (s.1 i) (o.1 i)) ∙ h));
      }
    ]
  ]
]

module _ (stamp : Stamp) (splits : List NodeId) (u : Look) where
  -- where an id is that of a copy
  pub copied_is : (q s : NodeId) → copied stamp splits q ≡ Some s → (q ≡ copy_id stamp q.part) × (q.part ≢ 0) × (slice_get splits (q.part - 1) ≡ Some s)
  copied_is q s h =
      let c = chosen _ _ s h in
      let off : nat_eq q.part 0 ≡ false = not_was _ (second_of_both _ _ c.0) in
      (node_is _ _ (first_of_both _ _ c.0), (λ (z : q.part ≡ 0). true≢false (sym (eq-eqb q.part 0 z) ∙ off)), c.1)

  pub with_copy : (q s : NodeId) → copied stamp splits q ≡ Some s → with_copies stamp splits u q ≡ option_map (λ (r : Row). record r { id = q }) (u s)
  with_copy q s h = ap (λ o. option_map_or (λ s. option_map (λ (r : Row). record r { id = q }) (u s)) o (if list_any (same_node q) splits then None else u q)) h

  pub with_other : (q : NodeId) → copied stamp splits q ≡ None → with_copies stamp splits u q ≡ (if list_any (same_node q) splits then None else u q)
  with_other q h = ap (λ o. option_map_or (λ s. option_map (λ (r : Row). record r { id = q }) (u s)) o (if list_any (same_node q) splits then None else u q)) h

  pub copied_cases : (q : NodeId) → ((s : NodeId) × (copied stamp splits q ≡ Some s)) ⊎ (copied stamp splits q ≡ None)
  copied_cases q = elim (copied stamp splits q) as (λ o. copied stamp splits q ≡ o → ((s : NodeId) × (copied stamp splits q ≡ Some s)) ⊎ (copied stamp splits q ≡ None)) [ Some s ↦ λ e. inl (s, e) | None ↦ λ e. inr e ] refl

  -- a row of ours with copies: that of a copy, or one that is not split
  pub with_cases : (q : NodeId) (r : Row) → with_copies stamp splits u q ≡ Some r
      → ((s : NodeId) × (copied stamp splits q ≡ Some s) × (x : Row) × (u s ≡ Some x) × (r ≡ record x { id = q })) ⊎ ((copied stamp splits q ≡ None) × (is_in q splits ≡ false) × (u q ≡ Some r))
  with_cases q r h = elim (copied_cases q) [
    | inl s ↦ let x = mapped (u s.0) (sym (with_copy q s.0 s.1) ∙ h) in inl (s.0, s.1, x.0, x.1, x.2)
    | inr none ↦ elim (bool_cases (is_in q splits)) [
      | inl e ↦ none_some r None refl (sym (when _ None (u q) e) ∙ sym (with_other q none) ∙ h)
      | inr e ↦ inr (none, e, sym (unless _ None (u q) e) ∙ sym (with_other q none) ∙ h)
    ]
  ]
    where
      mapped : (o : Option Row) → option_map (λ (x : Row). record x { id = q }) o ≡ Some r → (x : Row) × (o ≡ Some x) × (r ≡ record x { id = q })
      mapped None e = none_some r None refl e
      mapped (Some x) e = (x, refl, same_some r (record x { id = q }) (Some r) refl (sym e))

  pub with_same : (q : NodeId) → copied stamp splits q ≡ None → is_in q splits ≡ false → with_copies stamp splits u q ≡ u q
  with_same q none e = with_other q none ∙ unless _ None (u q) e

copy_in : (stamp : Stamp) (splits : List NodeId) (j i : ℕ) (s : NodeId) → slice_get splits i ≡ Some s → is_in (copy_id stamp (j + i)) (copy_ids stamp j splits) ≡ true
copy_in stamp [] j i s h = none_some s None refl h
copy_in stamp (x ∷ splits) j zero s h =
    let e : j + 0 ≡ j = omega arith in
    ap (λ k. same_node (copy_id stamp k) (copy_id stamp j) || is_in (copy_id stamp k) (copy_ids stamp (j + 1) splits)) e ∙ ap (λ b. b || is_in (copy_id stamp j) (copy_ids stamp (j + 1) splits)) (node_self (copy_id stamp j))
copy_in stamp (x ∷ splits) j (suc i) s h =
    let e : (j + 1) + i ≡ j + suc i = omega arith in
    later (same_node (copy_id stamp (j + suc i)) (copy_id stamp j)) _ (subst (λ k. is_in (copy_id stamp k) (copy_ids stamp (j + 1) splits) ≡ true) e (copy_in stamp splits (j + 1) i s h))
  where
    later : (a b : Bool) → b ≡ true → (a || b) ≡ true
    later true b h = refl
    later false b h = h

pub copies_le : (stamp : Stamp) (j : ℕ) (splits : List NodeId) → length (copy_ids stamp j splits) ≤ length splits
copies_le stamp j [] = omega arith
copies_le stamp j (s ∷ splits) = let rest = copies_le stamp (j + 1) splits in omega (arith, rest)

module _ (b m u : Tree) (stamp : Stamp) (meet : Meet b m u stamp) where
  abbrev pub splits : List NodeId
  splits = filter (is_split (look b) (look m) (look u)) (map.keys m)

  abbrev pub ours : Look
  ours = with_copies stamp splits (look u)

  in_splits : (q : NodeId) → is_in q splits ≡ true → IsSplit (look b) (look m) (look u) q
  in_splits q h = split_is (look b) (look m) (look u) q (in_filter (is_split (look b) (look m) (look u)) (map.keys m) q h)

  pub split_in : (q : NodeId) → is_split (look b) (look m) (look u) q ≡ true → is_in q splits ≡ true
  split_in q h =
      let s = split_is (look b) (look m) (look u) q h in
      filter_in (is_split (look b) (look m) (look u)) (map.keys m) q (in_keys m q ∙ ap is_some s.in_merged) h

  pub kinds : (q : NodeId) (r s : Row) → look m q ≡ Some r → look u q ≡ Some s → r.kind ≡ s.kind
  kinds q r s hm hu = meet.both_kinds q r s hm hu

  pub copy_of_split : (q s : NodeId) → copied stamp splits q ≡ Some s → IsSplit (look b) (look m) (look u) s
  copy_of_split q s h = in_splits s (get_in splits (q.part - 1) s (copied_is stamp splits (look u) q s h).2)

  -- what is in a tree is no copy
  pub not_copied : (t : Tree) → ((j : ℕ) → j ≢ 0 → look t (copy_id stamp j) ≡ None) → (q : NodeId) (r : Row) → look t q ≡ Some r → copied stamp splits q ≡ None
  not_copied t free q r h = elim (copied_cases stamp splits (look u) q) [
    | inl s ↦ let c = copied_is stamp splits (look u) q s.0 s.1 in none_some r (look t q) (ap (look t) c.0 ∙ free q.part c.1) h
    | inr none ↦ none
  ]

  -- a copy is in none of the trees
  pub copy_not_in : (t : Tree) → ((j : ℕ) → j ≢ 0 → look t (copy_id stamp j) ≡ None) → (q s : NodeId) → copied stamp splits q ≡ Some s → look t q ≡ None
  copy_not_in t free q s h = let c = copied_is stamp splits (look u) q s h in ap (look t) c.0 ∙ free q.part c.1

  -- two copies of one file are one
  pub copy_once : (p q s : NodeId) → copied stamp splits p ≡ Some s → copied stamp splits q ≡ Some s → p ≡ q
  copy_once p q s hp hq =
      let x = copied_is stamp splits (look u) p s hp in
      let y = copied_is stamp splits (look u) q s hq in
      let at : p.part - 1 ≡ q.part - 1 = stands_once splits (p.part - 1) (q.part - 1) s (rises_filter _ (map.keys m) (keys_rise m)) x.2 y.2 in
      let one : p.part ≡ q.part = lowered p.part q.part x.1 y.1 at in
      x.0 ∙ ap (copy_id stamp) one ∙ sym y.0
    where
      lowered : (i j : ℕ) → i ≢ 0 → j ≢ 0 → i - 1 ≡ j - 1 → i ≡ j
      lowered i j oi oj e = omega arith

  -- a row of ours with copies, and the row of ours that it is
  pub record Was (q : NodeId) (r : Row) : Type 0 where
    pub id : NodeId
    pub row : Row
    pub found : look u id ≡ Some row
    pub is : r ≡ record row { id = q }
    pub which : ((copied stamp splits q ≡ Some id) × (row.kind ≡ File)) ⊎ ((copied stamp splits q ≡ None) × (is_in q splits ≡ false) × (id ≡ q))

  pub was : (q : NodeId) (r : Row) → ours q ≡ Some r → Was q r
  was q r h = elim (with_cases stamp splits (look u) q r h) [
    | inl c ↦
        let s = copy_of_split q c.0 c.1 in
        record { id = c.0; row = c.2; found = c.3; is = c.4; which = inl (c.1, sym (kinds c.0 s.merged c.2 s.in_merged c.3) ∙ s.file) }
    | inr o ↦ record { id = q; row = r; found = o.2; is = λ i. record r { id = meet.ours.keyed q r o.2 i }; which = inr (o.0, o.1, refl) }
  ]

  -- directories stay
  dir_stays : (p : NodeId) → is_dir (look u) p ≡ true → (r : Row) × (ours p ≡ Some r) × (look u p ≡ Some r) × (is_dir_row r ≡ true)
  dir_stays p d =
      let w = dir_at (look u) p d in
      let apart : is_in p splits ≡ false = not_true _ (λ e.
      let s = in_splits p e in
      let file : w.0.kind ≡ File = sym (kinds p s.merged w.0 s.in_merged w.1) ∙ s.file in
      not_both _ w.2 (ap is_dir_kind file)) in
      (w.0, with_same stamp splits (look u) p (not_copied u meet.no_our_copies p w.0 w.1) apart ∙ w.1, w.1, w.2)

  dir_still : (p : NodeId) → is_dir (look u) p ≡ true → is_dir ours p ≡ true
  dir_still p d = let w = dir_stays p d in at_dir ours p w.0 w.1 w.3

  file_not_root : (q : NodeId) (r : Row) → look u q ≡ Some r → r.kind ≡ File → q ≢ root
  file_not_root q r h file e =
      let a = some_and _ (look u root) meet.ours.rooted in
      let same : r ≡ a.0 = same_some r a.0 (look u root) (ap (look u) (sym e) ∙ h) a.1 in
      let no : File ≡ Dir = sym file ∙ ap (λ (z : Row). z.kind) same ∙ a.2.0 in
      cc

  copy_not_root : (q s : NodeId) → copied stamp splits q ≡ Some s → q ≢ root
  copy_not_root q s h e = let a = some_and _ (look u root) meet.ours.rooted in none_some a.0 (look u root) (ap (look u) (sym e) ∙ copy_not_in u meet.no_our_copies q s h) a.1

  dirs_reach : (k : ℕ) (p : NodeId) → is_dir (look u) p ≡ true → meets (look u) root k p ≡ true → meets ours root k p ≡ true
  dirs_reach zero p d h = h
  dirs_reach (suc k) p d h = elim (node_cases p root) [
    | inl e ↦ subst (λ x. meets ours root (suc k) x ≡ true) (sym e) (meets_here ours root (suc k))
    | inr off ↦
        let w = meets_from (look u) root p k off h in
        let s = dir_stays p d in
        let same : w.0 ≡ s.0 = same_some w.0 s.0 (look u p) w.1 s.2 in
        meets_step ours root p k w.0 (s.1 ∙ ap Some (sym same)) (dirs_reach k w.0.parent (meet.ours.parents p w.0 w.1 off) w.2)
  ]

  -- off the root both in ours and here
  off_root : (q : NodeId) (r : Row) (w : Was q r) → q ≢ root → w.id ≢ root
  off_root q r w off = elim w.which [
    | inl c ↦ file_not_root w.id w.row w.found c.1
    | inr o ↦ λ e. off (sym o.2 ∙ e)
  ]

  one_of : (p q : NodeId) (r s : Row) (x : Was p r) (y : Was q s) → x.id ≡ y.id → p ≡ q
  one_of p q r s x y e = elim x.which [
    | inl c ↦ elim y.which [
      | inl d ↦ copy_once p q y.id (c.0 ∙ ap Some e) d.0
      | inr o ↦ not_both _ (get_in splits (p.part - 1) q ((copied_is stamp splits (look u) p x.id c.0).2 ∙ ap Some (e ∙ o.2))) o.1
    ]
    | inr o ↦ elim y.which [
      | inl d ↦ not_both _ (get_in splits (q.part - 1) p ((copied_is stamp splits (look u) q y.id d.0).2 ∙ ap Some (sym e ∙ o.2))) o.1
      | inr d ↦ sym o.2 ∙ e ∙ d.2
    ]
  ]

  pub ours_formed : IsTree (map.len u) ours
  ours_formed = record {
    keyed = λ q r h. ap (λ (z : Row). z.id) (was q r h).is;
    rooted =
        let a = some_and _ (look u root) meet.ours.rooted in
        let d = dir_stays root (at_dir (look u) root a.0 a.1 (ap is_dir_kind a.2.0)) in
        and_some _ (ours root) a.0 (d.1 ∙ sym d.2 ∙ a.1) a.2;
    parents = λ q r h off.
        let w = was q r h in
        subst (λ z. is_dir ours z ≡ true) (sym (ap (λ (z : Row). z.parent) w.is)) (dir_still w.row.parent (meet.ours.parents w.id w.row w.found (off_root q r w off)));
    named = λ q r h off. let w = was q r h in ap (λ (z : Row). is_name z.name) w.is ∙ meet.ours.named w.id w.row w.found (off_root q r w off);
    places = λ p q r s hp hq op oq same_parent same_name.
        let x = was p r hp in
        let y = was q s hq in
        one_of p q r s x y (meet.ours.places x.id y.id x.row y.row x.found y.found (off_root p r x op) (off_root q s y oq)
        (sym (ap (λ (z : Row). z.parent) x.is) ∙ same_parent ∙ ap (λ (z : Row). z.parent) y.is)
        (sym (ap (λ (z : Row). z.name) x.is) ∙ same_name ∙ ap (λ (z : Row). z.name) y.is));
    reaches = λ q r h.
        let w = was q r h in
        elim (node_cases q root) [
          | inl e ↦ subst (λ x. meets ours root (map.len u) x ≡ true) (sym e) (meets_here ours root (map.len u))
          | inr off ↦ climbs (map.len u) q r w h (off_root q r w off) (meet.ours.reaches w.id w.row w.found)
        ];
    plain = λ q r h. let w = was q r h in subst (λ (z : Row). IsPlain z.kind z.bytes z.exec) (sym w.is) (meet.ours.plain w.id w.row w.found);
  }
    where
      climbs : (k : ℕ) (q : NodeId) (r : Row) (w : Was q r) → ours q ≡ Some r → w.id ≢ root → meets (look u) root k w.id ≡ true → meets ours root k q ≡ true
      climbs zero q r w h off walk = absurd (off (node_is w.id root walk))
      climbs (suc k) q r w h off walk =
          let x = meets_from (look u) root w.id k off walk in
          let same : w.row ≡ x.0 = same_some w.row x.0 (look u w.id) w.found x.1 in
          meets_step ours root q k r h
          (subst (λ z. meets ours root k z ≡ true) (sym (ap (λ (z : Row). z.parent) w.is ∙ ap (λ (z : Row). z.parent) same))
          (dirs_reach k x.0.parent (meet.ours.parents w.id x.0 x.1 off) x.2))

  -- what is in merged and in ours with copies is in ours
  shared : (q : NodeId) (r s : Row) → look m q ≡ Some r → ours q ≡ Some s → look u q ≡ Some s
  shared q r s hm h = elim (with_cases stamp splits (look u) q s h) [
    | inl c ↦ none_some r (look m q) (copy_not_in m meet.no_merged_copies q c.0 c.1) hm
    | inr o ↦ o.2
  ]

  pub can_merge : CanMerge (map.len m) (map.len u) (three b m u stamp)
  can_merge = record {
    merged = meet.merged;
    ours = ours_formed;
    kinds = λ q r s hm h. kinds q r s hm (shared q r s hm h);
    common = λ q r s hm h. meet.common q (ap is_some hm) (ap is_some (shared q r s hm h));
    merged_in = λ q r h. put_ids_keeps (copy_ids stamp 1 splits) _ q (put_ids_keeps (map.keys u) (map.keys m) q (in_keys m q ∙ ap is_some h));
    joined_kinds = λ x y h. may_kinds stamp.rule (look b) (λ q. is_some (copied stamp splits q)) x y h;
    joined_files = λ x y h file. may_files stamp.rule (look b) (λ q. is_some (copied stamp splits q)) x y h file;
    ours_in = λ q r h. elim (with_cases stamp splits (look u) q r h) [
      | inl c ↦
          let w = copied_is stamp splits (look u) q c.0 c.1 in
          let e : 1 + (q.part - 1) ≡ q.part = raised q.part w.1 in
          put_ids_in (copy_ids stamp 1 splits) _ q (subst (λ z. is_in z (copy_ids stamp 1 splits) ≡ true) (ap (copy_id stamp) e ∙ sym w.0) (copy_in stamp splits 1 (q.part - 1) c.0 w.2))
      | inr o ↦ put_ids_keeps (copy_ids stamp 1 splits) _ q (put_ids_in (map.keys u) (map.keys m) q (in_keys u q ∙ ap is_some o.2))
    ];
  }
    where
      raised : (i : ℕ) → i ≢ 0 → 1 + (i - 1) ≡ i
      raised i off = omega arith

module _ (b m u : Tree) (stamp : Stamp) (meet : Meet b m u stamp) (naming : IsNaming (conflicted stamp)) (few : 4 * (map.len m + map.len u) < 2 ^ 63) where
  pub ids_few : 4 * length (three b m u stamp).ids < 2 ^ 64
  ids_few =
      let a = put_ids_le (copy_ids stamp 1 (splits b m u stamp meet)) (put_ids (map.keys u) (map.keys m)) in
      let c = put_ids_le (map.keys u) (map.keys m) in
      let d = copies_le stamp 1 (splits b m u stamp meet) in
      let e = filter_le (is_split (look b) (look m) (look u)) (map.keys m) in
      let x : length (map.keys m) ≡ map.len m = length-map (map.entries m) _ ∙ sym (map.len-entries m) in
      let y : length (map.keys u) ≡ map.len u = length-map (map.entries u) _ ∙ sym (map.len-entries u) in
      omega (arith, a, c, d, e, x, y, few)

  pub can_name : CanName (map.len m) (map.len u) (three b m u stamp)
  can_name = record {
    can = can_merge b m u stamp meet;
    few = let few = ids_few in omega (arith, few);
    named = λ name k one le. let few = ids_few in naming.named name k one (omega (arith, le, few));
    differ = λ name j k oj ok lj lk. let few = ids_few in naming.differ name j k oj ok (omega (arith, lj, few)) (omega (arith, lk, few));
  }
