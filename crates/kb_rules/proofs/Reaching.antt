-- The places reach the root.
use Rattle.std.proofs.Common.{◌≡◌, ◌≢◌, ℕ, zero, suc, ◌≤◌, Bool, true, false, not, length, ◌⊎◌, inl, inr, ◌&&◌, cond, Option, Some, None, refl, sym, ap, subst, ◌∙◌, arith}
use Rattle.std.specs.Option.{option_map_or}
use Rattle.kb_name.specs.declared.ids.NodeId.{NodeId}
use Rattle.kb_ops.specs.declared.rows.Row.{Row}
use Rattle.kb_name.specs.Nodes.{root, same_node}
use Rattle.kb_ops.specs.Rows.{Look, is_dir, is_dir_row, is_dir_kind, meets}
use Rattle.kb_ops.proofs.Nodes.{node_cases}
use Rattle.kb_ops.proofs.Walks.{IsAtMost, meets_here, meets_step, meets_from, meets_by, meets_within, row_cases}
use Rattle.std.specs.Str.{bytes_eq}
use Rattle.kb_ops.proofs.Kept.{dir_at, at_dir, some_and}
use Rattle.kb_rules.specs.Three.{Three, same_place}
use Rattle.kb_rules.specs.Places.{is_moved_by, is_moved, guess, is_lost, on_ours, seat}
use Rattle.kb_rules.specs.Ready.{CanMerge}
use Rattle.kb_rules.proofs.Basics.{bool_cases, not_both, both, no_first, no_second, not_is, when, unless, same_some, listed_most}

no_dir : (look : Look) (q : NodeId) → look q ≡ None → is_dir look q ≡ false
no_dir look q e = ap (λ o. option_map_or is_dir_row o false) e

module _ (t : Three) where
  -- what merged lacks is on our side
  pub new_is_ours : (q : NodeId) → t.merged q ≡ None → on_ours t q ≡ true
  new_is_ours q e = both _ _ (ap (λ o. is_moved_by o (t.ours q) (t.base q)) e) (not_is _ (no_first _ _ (no_dir t.merged q e)))

  -- what ours lacks is on merged's side
  pub theirs_is_merged : (q : NodeId) (r : Row) → t.merged q ≡ Some r → t.ours q ≡ None → is_moved t q ≡ false
  theirs_is_merged q r m u = (λ i. is_moved_by (m i) (u i) (t.base q))

  pub seat_ours : (q : NodeId) → on_ours t q ≡ true → seat t q ≡ t.ours q
  seat_ours q h = when _ (t.ours q) (t.merged q) h

  pub seat_merged : (q : NodeId) → on_ours t q ≡ false → seat t q ≡ t.merged q
  seat_merged q h = unless _ (t.ours q) (t.merged q) h

  pub seat_cases : (q : NodeId) (r : Row) → seat t q ≡ Some r → ((on_ours t q ≡ true) × (t.ours q ≡ Some r)) ⊎ ((on_ours t q ≡ false) × (t.merged q ≡ Some r))
  seat_cases q r h = elim (bool_cases (on_ours t q)) [
    | inl e ↦ inl (e, sym (seat_ours q e) ∙ h)
    | inr e ↦ inr (e, sym (seat_merged q e) ∙ h)
  ]

  -- a row of one of the two trees has a place
  pub seat_new : (q : NodeId) (r : Row) → t.merged q ≡ None → t.ours q ≡ Some r → seat t q ≡ Some r
  seat_new q r m u = seat_ours q (new_is_ours q m) ∙ u

  pub seat_theirs : (q : NodeId) (r : Row) → t.merged q ≡ Some r → t.ours q ≡ None → seat t q ≡ Some r
  seat_theirs q r m u = seat_merged q (no_first _ _ (theirs_is_merged q r m u)) ∙ m

  pub seat_of_ours : (q : NodeId) (r : Row) → t.ours q ≡ Some r → (s : Row) × (seat t q ≡ Some s)
  seat_of_ours q r u = elim (bool_cases (on_ours t q)) [
    | inl e ↦ (r, seat_ours q e ∙ u)
    | inr e ↦ elim (row_cases t.merged q) [
      | inl w ↦ (w.0, seat_merged q e ∙ w.1)
      | inr none ↦ not_both _ (new_is_ours q none) e
    ]
  ]

  pub seat_of_merged : (q : NodeId) (r : Row) → t.merged q ≡ Some r → (s : Row) × (seat t q ≡ Some s)
  seat_of_merged q r m = elim (row_cases t.ours q) [
    | inl w ↦ seat_of_ours q w.0 w.1
    | inr none ↦ (r, seat_theirs q r m none)
  ]

module _ (n m : ℕ) (t : Three) (can : CanMerge n m t) where
  -- a Dir of ours that merged has is one there, and the other way round
  pub dir_merged : (q : NodeId) (r : Row) → t.merged q ≡ Some r → is_dir t.ours q ≡ true → is_dir t.merged q ≡ true
  dir_merged q r is h = let w = dir_at t.ours q h in at_dir t.merged q r is (ap is_dir_kind (can.kinds q r w.0 is w.1) ∙ w.2)

  pub dir_ours : (q : NodeId) (s : Row) → t.ours q ≡ Some s → is_dir t.merged q ≡ true → is_dir t.ours q ≡ true
  dir_ours q s is h = let w = dir_at t.merged q h in at_dir t.ours q s is (ap is_dir_kind (sym (can.kinds q w.0 s w.1 is)) ∙ w.2)

  pub dir_seat : (q : NodeId) (r : Row) → seat t q ≡ Some r → (is_dir t.merged q ≡ true) ⊎ (is_dir t.ours q ≡ true) → is_dir_row r ≡ true
  dir_seat q r h d = elim (seat_cases t q r h) [
    | inl s ↦ let w = dir_at t.ours q (elim d [ inl x ↦ dir_ours q r s.1 x | inr x ↦ x ]) in ap is_dir_row (same_some r w.0 (t.ours q) s.1 w.1) ∙ w.2
    | inr s ↦ let w = dir_at t.merged q (elim d [ inl x ↦ x | inr x ↦ dir_merged q r s.1 x ]) in ap is_dir_row (same_some r w.0 (t.merged q) s.1 w.1) ∙ w.2
  ]

  -- a place that the first guess brings to the root stays
  guess_holds : (q : NodeId) → meets (guess t) root (length t.ids) q ≡ true → seat t q ≡ guess t q
  guess_holds q h =
      let found : is_lost t q ≡ false = no_second _ _ (no_second _ _ (ap not h)) in
      ap (λ b. cond b (t.ours q) (t.merged q)) (same_first _ _ (not_is _ found))
    where
      same_first : (a b : Bool) → b ≡ true → (a && b) ≡ a
      same_first true b h = h
      same_first false b h = refl

  pub guess_reaches : (k : ℕ) → k ≤ length t.ids → (q : NodeId) → meets (guess t) root k q ≡ true → meets (seat t) root k q ≡ true
  guess_reaches zero le q h = h
  guess_reaches (suc k) le q h = elim (node_cases q root) [
    | inl e ↦ subst (λ x. meets (seat t) root (suc k) x ≡ true) (sym e) (meets_here (seat t) root (suc k))
    | inr off ↦
        let w = meets_from (guess t) root q k off h in
        meets_step (seat t) root q k w.0 (guess_holds q (meets_by (guess t) root q (suc k) (length t.ids) le h) ∙ w.1) (guess_reaches k (omega (arith, le)) w.0.parent w.2)
  ]

  -- a directory of merged that the first guess loses has merged's place
  lost_is_merged : (q : NodeId) → is_dir t.merged q ≡ true → meets (guess t) root (length t.ids) q ≡ false → on_ours t q ≡ false
  lost_is_merged q d lost = elim (row_cases t.ours q) [
    | inl s ↦ no_second _ _ (ap not (both _ _ d (both _ _ (dir_ours q s.0 s.1 d) (not_is _ lost))))
    | inr none ↦ let w = dir_at t.merged q d in no_first _ _ (theirs_is_merged t q w.0 w.1 none)
  ]

  -- what a walk in merged reaches, a walk by the places reaches
  pub merged_reaches : (k : ℕ) (q : NodeId) → is_dir t.merged q ≡ true → meets t.merged root k q ≡ true → (j : ℕ) × (meets (seat t) root j q ≡ true)
  merged_reaches zero q d h = (zero, h)
  merged_reaches (suc k) q d h = elim (bool_cases (meets (guess t) root (length t.ids) q)) [
    | inl e ↦ (length t.ids, guess_reaches (length t.ids) (omega arith) q e)
    | inr e ↦ elim (node_cases q root) [
      | inl is ↦ (zero, subst (λ x. meets (seat t) root zero x ≡ true) (sym is) (meets_here (seat t) root zero))
      | inr off ↦
          let w = meets_from t.merged root q k off h in
          let up = merged_reaches k w.0.parent (can.merged.parents q w.0 w.1 off) w.2 in
          (suc up.0, meets_step (seat t) root q up.0 w.0 (seat_merged t q (lost_is_merged q d e) ∙ w.1) up.1)
    ]
  ]

  pub ours_reaches : (k : ℕ) (q : NodeId) → is_dir t.ours q ≡ true → meets t.ours root k q ≡ true → (j : ℕ) × (meets (seat t) root j q ≡ true)
  ours_reaches k q d h = elim (row_cases t.merged q) [
    | inl w ↦ merged_reaches n q (dir_merged q w.0 w.1 d) (can.merged.reaches q w.0 w.1)
    | inr none ↦ new_reaches k q none h
  ]
    where
      new_reaches : (k : ℕ) (q : NodeId) → t.merged q ≡ None → meets t.ours root k q ≡ true → (j : ℕ) × (meets (seat t) root j q ≡ true)
      new_reaches zero q none h = (zero, h)
      new_reaches (suc k) q none h = elim (node_cases q root) [
        | inl is ↦ (zero, subst (λ x. meets (seat t) root zero x ≡ true) (sym is) (meets_here (seat t) root zero))
        | inr off ↦
            let w = meets_from t.ours root q k off h in
            let here : seat t q ≡ Some w.0 = seat_new t q w.0 none w.1 in
            let up : (j : ℕ) × (meets (seat t) root j w.0.parent ≡ true) = elim (row_cases t.merged w.0.parent) [
              | inl p ↦ merged_reaches n w.0.parent (dir_merged w.0.parent p.0 p.1 (can.ours.parents q w.0 w.1 off)) (can.merged.reaches w.0.parent p.0 p.1)
              | inr gone ↦ new_reaches k w.0.parent gone w.2
            ] in
            (suc up.0, meets_step (seat t) root q up.0 w.0 here up.1)
      ]

  -- the parent of a place is a Dir of the tree that gave the place
  pub parent_dir : (q : NodeId) (r : Row) → q ≢ root → seat t q ≡ Some r → (is_dir t.merged r.parent ≡ true) ⊎ (is_dir t.ours r.parent ≡ true)
  parent_dir q r off h = elim (seat_cases t q r h) [
    | inl s ↦ inr (can.ours.parents q r s.1 off)
    | inr s ↦ inl (can.merged.parents q r s.1 off)
  ]

  pub seat_most : IsAtMost (length t.ids) (seat t)
  seat_most = listed_most (length t.ids) t.ids (seat t) (omega arith) (λ q r h. elim (seat_cases t q r h) [
    | inl s ↦ can.ours_in q r s.1
    | inr s ↦ can.merged_in q r s.1
  ])

  -- the walk from each place reaches the root
  pub seat_reaches : (q : NodeId) (r : Row) → seat t q ≡ Some r → meets (seat t) root (length t.ids) q ≡ true
  seat_reaches q r h =
      let w : (j : ℕ) × (meets (seat t) root j q ≡ true) = elim (node_cases q root) [
        | inl is ↦ (zero, subst (λ x. meets (seat t) root zero x ≡ true) (sym is) (meets_here (seat t) root zero))
        | inr off ↦
            let up : (j : ℕ) × (meets (seat t) root j r.parent ≡ true) = elim (parent_dir q r off h) [
              | inl d ↦ let p = dir_at t.merged r.parent d in merged_reaches n r.parent d (can.merged.reaches r.parent p.0 p.1)
              | inr d ↦ let p = dir_at t.ours r.parent d in ours_reaches m r.parent d (can.ours.reaches r.parent p.0 p.1)
            ] in
            (suc up.0, meets_step (seat t) root q up.0 r h up.1)
      ] in
      meets_within (length t.ids) (seat t) seat_most root q w.0 w.1

  -- the root isn't moved, and is on merged's side
  pub root_unmoved : is_moved t root ≡ false
  root_unmoved =
      let a = some_and _ (t.merged root) can.merged.rooted in
      let b = some_and _ (t.ours root) can.ours.rooted in
      (λ i. is_moved_by (a.1 i) (b.1 i) (t.base root)) ∙ still a.0 b.0 (t.base root) (λ j. (a.2.1 ∙ sym b.2.1) j) (λ j. (a.2.2 ∙ sym b.2.2) j)
    where
      opposite : (x : Bool) → (x && not x) ≡ false
      opposite true = refl
      opposite false = refl

      still : (r s : Row) (o : Option Row) → r.parent ≡ s.parent → r.name ≡ s.name → is_moved_by (Some r) (Some s) o ≡ false
      still r s None p e = refl
      still r s (Some o) p e = ap (λ (b : Bool). same_place r o && not b) (sym (λ i. same_node (p i) o.parent && bytes_eq (e i) o.name)) ∙ opposite (same_place r o)

  pub root_side : on_ours t root ≡ false
  root_side = no_first _ _ root_unmoved

  pub root_row_seat : seat t root ≡ t.merged root
  root_row_seat = seat_merged t root root_side
