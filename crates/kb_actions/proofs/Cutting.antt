-- Trees that are cut down to some nodes can be merged as the whole ones can, and are a part of these.
use Rattle.std.proofs.Common.{◌≡◌, ◌≢◌, ℕ, ◌-◌, Bool, true, false, List, [], filter, ◌⊎◌, inl, inr, not, ◌&&◌, ◌||◌, nat_eq, cond, if◌then◌else◌, Option, Some, None, is_some, refl, sym, ap, subst, ◌∙◌, arith}
use Rattle.std.specs.Option.{option_map, option_map_or}
use Rattle.std.specs.Prelude.{IsSomeAnd}
use Rattle.std.specs.List.{list_any}
use Rattle.std.specs.Str.{bytes_eq}
use Rattle.std.specs.FinMap as map
use Rattle.kb_name.specs.declared.ids.NodeId.{NodeId}
use Rattle.kb_ops.specs.declared.values.Kind.TheVariants.{Dir}
use Rattle.kb_ops.specs.declared.rows.Row.{Row}
use Rattle.kb_name.specs.Nodes.{root, same_node}
use Rattle.kb_ops.specs.Rows.{is_dir_row}
use Rattle.kb_ops.specs.Trees.{Tree, look, IsWellFormed}
use Rattle.kb_ops.specs.Plan.{is_file_kind}
use Rattle.kb_ops.proofs.Walks.{meets_within, row_cases}
use Rattle.kb_ops.proofs.Looks.{map_most}
use Rattle.kb_rules.specs.declared.stamp.Stamp.{Stamp}
use Rattle.kb_rules.specs.Three.{Three, same_place, is_parted, is_split_by, is_split}
use Rattle.kb_rules.specs.Merge.{copy_id, copy_ids, copied, with_copies, put_ids, three, conflicted}
use Rattle.kb_rules.specs.Merge as merging
use Rattle.kb_rules.specs.Joins.{may_join}
use mathlib.Core.Bool.{beq}
use Rattle.kb_rules.specs.Meet.{Meet, HaveOneKind, HasNoCopies}
use Rattle.kb_rules.specs.Ready.{is_in}
use Rattle.kb_rules.specs.Code.{ascend}
use Rattle.kb_rules.proofs.Basics.{bool_cases, not_true, not_both, no_second, when, unless, none_some, bytes_self}
use Rattle.kb_rules.proofs.Climbs.{same_bools}
use Rattle.kb_rules.proofs.Whole.{place_self}
use Rattle.kb_rules.proofs.Unchanged.{tree_parent}
use Rattle.kb_rules.proofs.Ids.{keys_rise, rises_filter, filter_in, in_filter, get_in, put_ids_in, put_ids_keeps, in_keys}
use Rattle.kb_rules.proofs.Copies.{split_is, copied_is, with_copy, with_other, copied_cases, with_cases, with_same, split_in, can_merge}
use Rattle.kb_actions.specs.Parts.{IsPart}
use Rattle.kb_actions.specs.Cuts.{IsCut, AreCuts}
use Rattle.kb_actions.proofs.Parts.{walk_within}
use Rattle.kb_actions.proofs.Ascend.{ascend_puts, puts_were, copies_were, same_ascending}

-- ---- one tree

module _ (kept : NodeId → Bool) (t c : Tree) (cut : IsCut kept t c) where
  pub at_kept : (q : NodeId) → kept q ≡ true → look c q ≡ look t q
  at_kept q h = cut.looks q ∙ when (kept q) (look t q) None h

  pub at_left : (q : NodeId) → kept q ≡ false → look c q ≡ None
  at_left q h = cut.looks q ∙ unless (kept q) (look t q) None h

  pub some_kept : (q : NodeId) (r : Row) → look c q ≡ Some r → (kept q ≡ true) × (look t q ≡ Some r)
  some_kept q r h = elim (bool_cases (kept q)) [
    | inl e ↦ (e, sym (at_kept q e) ∙ h)
    | inr e ↦ none_some r (look c q) (at_left q e) h
  ]

  pub none_left : (q : NodeId) → look t q ≡ None → look c q ≡ None
  none_left q h = elim (bool_cases (kept q)) [ inl e ↦ at_kept q e ∙ h | inr e ↦ at_left q e ]

  pub cut_formed : kept root ≡ true → IsWellFormed t → IsWellFormed c
  cut_formed top w = record {
    keyed = λ q r h. w.keyed q r (some_kept q r h).1;
    rooted = subst (λ o. IsSomeAnd o (λ r. (r.kind ≡ Dir) × (r.parent ≡ root) × (r.name ≡ []))) (sym (at_kept root top)) w.rooted;
    parents = λ q r h off.
        let s = some_kept q r h in
        ap (λ o. option_map_or is_dir_row o false) (at_kept r.parent (cut.up q r s.0 s.1)) ∙ w.parents q r s.1 off;
    named = λ q r h off. w.named q r (some_kept q r h).1 off;
    places = λ p q r s hp hq op oq parent name. w.places p q r s (some_kept p r hp).1 (some_kept q s hq).1 op oq parent name;
    reaches = λ q r h.
        let s = some_kept q r h in
        meets_within (map.len c) (look c) (map_most (map.len c) c refl) root q (map.len t)
        (walk_within kept (look c) (look t) at_kept (λ x y k e. cut.up x y k e) root (map.len t) q s.0 ∙ w.reaches q r s.1);
    plain = λ q r h. w.plain q r (some_kept q r h).1;
  }

never_parted : (a b : Bool) → is_parted true a b ≡ false
never_parted a b = refl

-- a node with one row in all three isn't split
one_row : (o : Option Row) → is_split_by o o o ≡ false
one_row None = refl
one_row (Some r) = no_second (is_file_kind r.kind) _ (
    (λ i. is_parted (bytes_self r.bytes i) (bytes_eq r.bytes r.bytes) (bytes_eq r.bytes r.bytes) || is_parted (place_self r r refl refl i) (same_place r r) (same_place r r)))

module _ (kept : NodeId → Bool) (b m u cb cm cu : Tree) (stamp : Stamp) (cuts : AreCuts kept b m u cb cm cu) (meet : Meet b m u stamp) where
  one_kind : (x y cx cy : Tree) → IsCut kept x cx → IsCut kept y cy → HaveOneKind (look x) (look y) → HaveOneKind (look cx) (look cy)
  one_kind x y cx cy hx hy kinds q r s er es = kinds q r s (some_kept kept x cx hx q r er).1 (some_kept kept y cy hy q s es).1

  no_copies : (x cx : Tree) → IsCut kept x cx → HasNoCopies stamp (look x) → HasNoCopies stamp (look cx)
  no_copies x cx hx none j off = none_left kept x cx hx (copy_id stamp j) (none j off)

  pub cut_meet : Meet cb cm cu stamp
  cut_meet = record {
    base = cut_formed kept b cb cuts.base cuts.top meet.base;
    merged = cut_formed kept m cm cuts.merged cuts.top meet.merged;
    ours = cut_formed kept u cu cuts.ours cuts.top meet.ours;
    merged_kinds = one_kind b m cb cm cuts.base cuts.merged meet.merged_kinds;
    our_kinds = one_kind b u cb cu cuts.base cuts.ours meet.our_kinds;
    both_kinds = one_kind m u cm cu cuts.merged cuts.ours meet.both_kinds;
    common = λ q hm hu. elim (bool_cases (kept q)) [
      | inl e ↦ ap is_some (at_kept kept b cb cuts.base q e) ∙ meet.common q (sym (ap is_some (at_kept kept m cm cuts.merged q e)) ∙ hm) (sym (ap is_some (at_kept kept u cu cuts.ours q e)) ∙ hu)
      | inr e ↦ not_both (is_some (look cm q)) hm (ap is_some (at_left kept m cm cuts.merged q e))
    ];
    no_base_copies = no_copies b cb cuts.base meet.no_base_copies;
    no_merged_copies = no_copies m cm cuts.merged meet.no_merged_copies;
    no_our_copies = no_copies u cu cuts.ours meet.no_our_copies;
  }

  -- ---- split files

  split_same : (q : NodeId) → kept q ≡ true → is_split (look cb) (look cm) (look cu) q ≡ is_split (look b) (look m) (look u) q
  split_same q h = λ i. is_split_by (at_kept kept m cm cuts.merged q h i) (at_kept kept u cu cuts.ours q h i) (at_kept kept b cb cuts.base q h i)

  pub split_kept : (q : NodeId) → is_split (look b) (look m) (look u) q ≡ true → kept q ≡ true
  split_kept q h = elim (bool_cases (kept q)) [
    | inl e ↦ e
    | inr e ↦ not_both (is_split_by (look m q) (look u q) (look b q)) h
        ((λ i. is_split_by (look m q) (sym (cuts.rest_ours q e) i) (cuts.rest_base q e i)) ∙ one_row (look m q))
  ]

  abbrev whole_splits : List NodeId
  whole_splits = merging.splits b m u

  pub splits_same : merging.splits cb cm cu ≡ whole_splits
  splits_same = same_ascending (merging.splits cb cm cu) whole_splits
      (rises_filter (is_split (look cb) (look cm) (look cu)) (map.keys cm) (keys_rise cm))
      (rises_filter (is_split (look b) (look m) (look u)) (map.keys m) (keys_rise m))
      (λ q. same_bools _ _
      (λ h.
      let s = in_filter (is_split (look cb) (look cm) (look cu)) (map.keys cm) q h in
      let w = split_is (look cb) (look cm) (look cu) q s in
      let at = (some_kept kept m cm cuts.merged q w.merged w.in_merged).0 in
      split_in b m u stamp meet q (sym (split_same q at) ∙ s))
      (λ h.
      let s = in_filter (is_split (look b) (look m) (look u)) (map.keys m) q h in
      split_in cb cm cu stamp cut_meet q (split_same q (split_kept q s) ∙ s)))

  in_splits : (q : NodeId) → is_in q whole_splits ≡ true → kept q ≡ true
  in_splits q h = split_kept q (in_filter (is_split (look b) (look m) (look u)) (map.keys m) q h)

  -- ---- the part

  abbrev t : Three
  t = three b m u stamp

  abbrev c : Three
  c = three cb cm cu stamp

  abbrev inside : NodeId → Bool
  inside q = is_in q c.ids

  Among : NodeId → Type 0
  Among q = (kept q ≡ true) ⊎ ((i : ℕ) × (i ≢ 0) × (q ≡ copy_id stamp i))

  among : (q : NodeId) → inside q ≡ true → Among q
  unfolding Among
  among q h = elim (puts_were (copy_ids stamp 1 (merging.splits cb cm cu)) (put_ids (map.keys cu) (map.keys cm)) q h) [
    | inl e ↦ inr (copies_were stamp 1 (merging.splits cb cm cu) q (omega arith) e)
    | inr e ↦ elim (puts_were (map.keys cu) (map.keys cm) q e) [
      | inl x ↦ inl (there cu u cuts.ours x)
      | inr x ↦ inl (there cm m cuts.merged x)
    ]
  ]
    where
      there : (cx x : Tree) → IsCut kept x cx → is_in q (map.keys cx) ≡ true → kept q ≡ true
      there cx x hx e = elim (row_cases (look cx) q) [
        | inl w ↦ (some_kept kept x cx hx q w.0 w.1).0
        | inr none ↦ not_both (is_in q (map.keys cx)) e (in_keys cx q ∙ ap is_some none)
      ]

  -- what a cut has inside is what the tree has
  at_inside : (x cx : Tree) → IsCut kept x cx → HasNoCopies stamp (look x) → (q : NodeId) → inside q ≡ true → look cx q ≡ look x q
  unfolding Among
  at_inside x cx hx none q h = elim (among q h) [
    | inl e ↦ at_kept kept x cx hx q e
    | inr e ↦ let gone : look x q ≡ None = ap (look x) e.2 ∙ none e.0 e.1 in none_left kept x cx hx q gone ∙ sym gone
  ]

  -- a row inside is kept
  row_kept : (x : Tree) → HasNoCopies stamp (look x) → (q : NodeId) (r : Row) → inside q ≡ true → look x q ≡ Some r → kept q ≡ true
  unfolding Among
  row_kept x none q r h is = elim (among q h) [
    | inl e ↦ e
    | inr e ↦ none_some r (look x q) (ap (look x) e.2 ∙ none e.0 e.1) is
  ]

  merged_inside : (q : NodeId) (r : Row) → look m q ≡ Some r → kept q ≡ true → inside q ≡ true
  merged_inside q r is h = put_ids_keeps (copy_ids stamp 1 (merging.splits cb cm cu)) (put_ids (map.keys cu) (map.keys cm)) q
      (put_ids_keeps (map.keys cu) (map.keys cm) q (in_keys cm q ∙ ap is_some (at_kept kept m cm cuts.merged q h ∙ is)))

  ours_inside : (q : NodeId) (r : Row) → look u q ≡ Some r → kept q ≡ true → inside q ≡ true
  ours_inside q r is h = put_ids_keeps (copy_ids stamp 1 (merging.splits cb cm cu)) (put_ids (map.keys cu) (map.keys cm)) q
      (put_ids_in (map.keys cu) (map.keys cm) q (in_keys cu q ∙ ap is_some (at_kept kept u cu cuts.ours q h ∙ is)))

  copy_inside : (q s : NodeId) → copied stamp whole_splits q ≡ Some s → inside q ≡ true
  copy_inside q s h =
      let can = can_merge cb cm cu stamp cut_meet in
      let k = copied_is stamp whole_splits (look u) q s h in
      let at = in_splits s (get_in whole_splits (q.part - 1) s k.2) in
      let w = split_is (look b) (look m) (look u) s (in_filter (is_split (look b) (look m) (look u)) (map.keys m) s (get_in whole_splits (q.part - 1) s k.2)) in
      let same : copied stamp (merging.splits cb cm cu) q ≡ Some s = ap (λ xs. copied stamp xs q) splits_same ∙ h in
      can.ours_in q (record w.ours { id = q }) (with_copy stamp (merging.splits cb cm cu) (look cu) q s same ∙ ap (option_map (λ (r : Row). record r { id = q })) (at_kept kept u cu cuts.ours s at ∙ w.in_ours))

  ids_within : (q : NodeId) → inside q ≡ true → is_in q t.ids ≡ true
  ids_within q h = elim (puts_were (copy_ids stamp 1 (merging.splits cb cm cu)) (put_ids (map.keys cu) (map.keys cm)) q h) [
    | inl e ↦ put_ids_in (copy_ids stamp 1 whole_splits) (put_ids (map.keys u) (map.keys m)) q (ap (λ xs. is_in q (copy_ids stamp 1 xs)) (sym splits_same) ∙ e)
    | inr e ↦ put_ids_keeps (copy_ids stamp 1 whole_splits) (put_ids (map.keys u) (map.keys m)) q (elim (puts_were (map.keys cu) (map.keys cm) q e) [
      | inl x ↦ put_ids_in (map.keys u) (map.keys m) q (there cu u cuts.ours x)
      | inr x ↦ put_ids_keeps (map.keys u) (map.keys m) q (there cm m cuts.merged x)
    ])
  ]
    where
      there : (cx x : Tree) → IsCut kept x cx → is_in q (map.keys cx) ≡ true → is_in q (map.keys x) ≡ true
      there cx x hx e = elim (row_cases (look cx) q) [
        | inl w ↦ in_keys x q ∙ ap is_some (some_kept kept x cx hx q w.0 w.1).1
        | inr none ↦ not_both (is_in q (map.keys cx)) e (in_keys cx q ∙ ap is_some none)
      ]

  abbrev ids_up : (x y : Tree) (ks : List NodeId) → ascend (put_ids ks (put_ids (map.keys y) (map.keys x))) ≡ true
  ids_up x y ks = ascend_puts ks (put_ids (map.keys y) (map.keys x)) (ascend_puts (map.keys y) (map.keys x) (keys_rise x))

  ours_same : (q : NodeId) → inside q ≡ true → c.ours q ≡ t.ours q
  ours_same q h =
      ap (λ xs. with_copies stamp xs (look cu) q) splits_same
      ∙ elim (copied_cases stamp whole_splits (look u) q) [
        | inl s ↦
            let at = in_splits s.0 (get_in whole_splits (q.part - 1) s.0 (copied_is stamp whole_splits (look u) q s.0 s.1).2) in
            with_copy stamp whole_splits (look cu) q s.0 s.1
            ∙ ap (option_map (λ (r : Row). record r { id = q })) (at_kept kept u cu cuts.ours s.0 at)
            ∙ sym (with_copy stamp whole_splits (look u) q s.0 s.1)
        | inr none ↦
            with_other stamp whole_splits (look cu) q none
            ∙ ap (λ o. if list_any (same_node q) whole_splits then None else o) (at_inside u cu cuts.ours meet.no_our_copies q h)
            ∙ sym (with_other stamp whole_splits (look u) q none)
      ]

  rest_same : (q : NodeId) → inside q ≡ false → look m q ≡ t.ours q
  rest_same q out =
      let none : copied stamp whole_splits q ≡ None = elim (copied_cases stamp whole_splits (look u) q) [ inl s ↦ not_both (inside q) (copy_inside q s.0 s.1) out | inr e ↦ e ] in
      elim (bool_cases (kept q)) [
        | inl at ↦
            let no_m : look m q ≡ None = elim (row_cases (look m) q) [ inl w ↦ not_both (inside q) (merged_inside q w.0 w.1 at) out | inr e ↦ e ] in
            let no_u : look u q ≡ None = elim (row_cases (look u) q) [ inl w ↦ not_both (inside q) (ours_inside q w.0 w.1 at) out | inr e ↦ e ] in
            no_m ∙ sym (with_other stamp whole_splits (look u) q none ∙ ap (λ o. if list_any (same_node q) whole_splits then None else o) no_u ∙ either (list_any (same_node q) whole_splits))
        | inr off ↦
            let not_split : is_in q whole_splits ≡ false = not_true (is_in q whole_splits) (λ h. not_both (kept q) (in_splits q h) off) in
            cuts.rest_ours q off ∙ sym (with_same stamp whole_splits (look u) q none not_split)
      ]
    where
      either : (x : Bool) → cond {A = Option Row} x None None ≡ None
      either true = refl
      either false = refl

  -- by each rule, the same rows inside may become one
  same_may : (q a : NodeId) (w r : Row) → inside q ≡ true → inside a ≡ true → t.ours q ≡ Some w → look m a ≡ Some r → c.may w r ≡ t.may w r
  same_may q a w r hq ha found host =
      let can = can_merge b m u stamp meet in
      let base_w : look cb w.id ≡ look b w.id = at_inside b cb cuts.base meet.no_base_copies w.id (ap inside (can.ours.keyed q w found) ∙ hq) in
      let base_r : look cb r.id ≡ look b r.id = at_inside b cb cuts.base meet.no_base_copies r.id (ap inside (meet.merged.keyed a r host) ∙ ha) in
      λ i. may_join w r || (nat_eq stamp.rule 2 && (is_file_kind w.kind && (is_file_kind r.kind && (not (is_some (base_w i)) && (not (is_some (base_r i)) && (not (is_some (copied stamp (splits_same i) w.id)) && (bytes_eq w.bytes r.bytes && beq w.exec r.exec)))))))

  pub cut_part : IsPart t c inside
  cut_part = record {
    ids = same_ascending c.ids (filter inside t.ids) (ids_up cm cu (copy_ids stamp 1 (merging.splits cb cm cu))) (rises_filter inside t.ids (ids_up m u (copy_ids stamp 1 whole_splits)))
        (λ q. same_bools _ _ (λ h. filter_in inside t.ids q (ids_within q h) h) (λ h. in_filter inside t.ids q h));
    base = at_inside b cb cuts.base meet.no_base_copies;
    merged = at_inside m cm cuts.merged meet.no_merged_copies;
    ours = ours_same;
    rest = rest_same;
    merged_up = λ q r h is.
        let at = row_kept m meet.no_merged_copies q r h is in
        let p = tree_parent (map.len m) (look m) meet.merged q r is in
        merged_inside r.parent p.0 p.1 (cuts.merged.up q r at is);
    ours_up = λ q r h is. elim (with_cases stamp whole_splits (look u) q r is) [
      | inl s ↦
          let at = in_splits s.0 (get_in whole_splits (q.part - 1) s.0 (copied_is stamp whole_splits (look u) q s.0 s.1).2) in
          let p = tree_parent (map.len u) (look u) meet.ours s.0 s.2 s.3 in
          subst (λ z. inside z ≡ true) (sym (ap (λ (z : Row). z.parent) s.4)) (ours_inside s.2.parent p.0 p.1 (cuts.ours.up s.0 s.2 at s.3))
      | inr s ↦
          let at = row_kept u meet.no_our_copies q r h s.2 in
          let p = tree_parent (map.len u) (look u) meet.ours q r s.2 in
          ours_inside r.parent p.0 p.1 (cuts.ours.up q r at s.2)
    ];
    may = same_may;
  }
