-- Where one side changed nothing, the result is the other side.
use Rattle.std.proofs.Common.{◌≡◌, ◌≢◌, ℕ, zero, suc, Bool, true, false, not, List, [], length, ◌⊎◌, inl, inr, ◌&&◌, cond, if◌then◌else◌, Some, None, refl, sym, ap, subst, ◌∙◌, arith, nat_eq}
use mathlib.Core.Bool.{true≢false, beq}
use borrow.Author.Tests.{eqb-true, eq-eqb}
use Rattle.std.specs.Option.{unwrap_or}
use Rattle.std.specs.Str.{bytes_eq}
use Rattle.kb_name.specs.declared.ids.NodeId.{NodeId}
use Rattle.kb_ops.specs.declared.rows.Row.{Row}
use Rattle.kb_name.specs.Names.{is_name}
use Rattle.kb_name.specs.Nodes.{root}
use Rattle.kb_ops.specs.Rows.{Look, meets, IsTree}
use Rattle.kb_ops.proofs.Nodes.{node_cases}
use Rattle.kb_ops.proofs.Walks.{IsAtMost, row_cases, meets_here, meets_step, meets_from, meets_within}
use Rattle.kb_ops.proofs.Kept.{some_and, dir_at}
use Rattle.kb_rules.specs.Three.{Three, same_place, stays_by, stays, fields_by, mixed, mixed_mtime}
use Rattle.kb_rules.specs.Places.{is_moved_by, is_moved, guess, is_lost, seat, on_ours, is_kept}
use Rattle.kb_rules.specs.Joins.{joined, standing}
use Rattle.kb_rules.specs.Names.{clashes, result}
use Rattle.kb_rules.specs.Ready.{CanMerge}
use Rattle.kb_rules.proofs.Ready.{CanName}
use Rattle.kb_rules.proofs.Basics.{bool_cases, not_true, not_both, both, first_of_both, second_of_both, no_first, no_second, not_is, not_was, when, unless, same_some, none_some, any_here, listed_most, bytes_self, bytes_same}
use Rattle.kb_rules.proofs.Reaching.{seat_merged}
use Rattle.kb_rules.proofs.Keeps.{kept_least, stays_kept, both_stay}
use Rattle.kb_rules.proofs.Joined.{joins, standing_was, passes_row}
use Rattle.kb_rules.proofs.Whole.{bool_self, bool_same, place_self, place_same, row_self, HasRow, whole}

-- the parent of a row of a tree is a row
pub tree_parent : (n : ℕ) (look : Look) → IsTree n look → (q : NodeId) (r : Row) → look q ≡ Some r → (p : Row) × (look r.parent ≡ Some p)
tree_parent n look t q r h = elim (node_cases q root) [
  | inl e ↦
      let a = some_and _ (look root) t.rooted in
      let is : r ≡ a.0 = same_some r a.0 (look root) (ap look (sym e) ∙ h) a.1 in
      (a.0, ap look (ap (λ (x : Row). x.parent) is ∙ a.2.1) ∙ a.1)
  | inr off ↦ let w = dir_at look r.parent (t.parents q r h off) in (w.0, w.1)
]

mix_bytes : (x y : List ℕ) → (if bytes_eq x y then y else x) ≡ x
mix_bytes x y = elim (bool_cases (bytes_eq x y)) [ inl e ↦ when _ y x e ∙ sym (bytes_same x y e) | inr e ↦ unless _ y x e ]

mix_exec : (x y : Bool) → (if beq x y then y else x) ≡ x
mix_exec x y = elim (bool_cases (beq x y)) [ inl e ↦ when _ y x e ∙ sym (bool_same x y e) | inr e ↦ unless _ y x e ]

mix_mtime : (m b : ℕ) → mixed_mtime m b b ≡ m
mix_mtime m b = elim (bool_cases (nat_eq m b)) [
  | inl e ↦ when _ b _ e ∙ sym (eqb-true m b e)
  | inr e ↦ unless _ b _ e ∙ when _ m _ (eq-eqb b b refl)
]

module _ (n m : ℕ) (t : Three) (ready : CanName n m t) where
  abbrev can : CanMerge n m t
  can = ready.can

  no_joins : ((a : NodeId) → is_kept t a ≡ true → t.ours a ≢ None) ⊎ ((q : NodeId) → is_kept t q ≡ true → t.merged q ≢ None) → (q : NodeId) → joined t q ≡ None
  no_joins h q = elim (joined t q) as (λ o. joined t q ≡ o → o ≡ None) [
    | Some a ↦ λ e. let j = joins n m t can q a e in elim h [ inl f ↦ absurd (f a j.host_kept j.host_new) | inr f ↦ absurd (f q j.kept j.new) ]
    | None ↦ λ e. refl
  ] refl

  -- ours is base
  module _ (same : (q : NodeId) → t.base q ≡ t.ours q) where
    not_moved : (q : NodeId) (r : Row) → t.merged q ≡ Some r → is_moved t q ≡ false
    not_moved q r m = elim (row_cases t.ours q) [
      | inl s ↦ (λ i. is_moved_by (m i) (s.1 i) ((same q ∙ s.1) i)) ∙ no_second _ _ (ap not (place_self s.0 s.0 refl refl))
      | inr none ↦ (λ i. is_moved_by (m i) (none i) (t.base q))
    ]

    on_merged : (q : NodeId) (r : Row) → t.merged q ≡ Some r → on_ours t q ≡ false
    on_merged q r h = no_first _ _ (not_moved q r h)

    at_merged : (q : NodeId) (r : Row) → t.merged q ≡ Some r → seat t q ≡ Some r
    at_merged q r h = seat_merged t q (on_merged q r h) ∙ h

    stays_merged : (q : NodeId) (r : Row) → t.merged q ≡ Some r → stays t q ≡ true
    stays_merged q r h = elim (row_cases t.ours q) [
      | inl s ↦ both_stay n m t can q r s.0 h s.1
      | inr none ↦ (λ i. stays_by (h i) (none i) ((same q ∙ none) i))
    ]

    merged_stays_only : (q : NodeId) → stays t q ≡ true → (r : Row) × (t.merged q ≡ Some r)
    merged_stays_only q h = elim (row_cases t.merged q) [
      | inl w ↦ w
      | inr none ↦ elim (row_cases t.ours q) [
        | inl s ↦ not_both _ h ((λ i. stays_by (none i) (s.1 i) ((same q ∙ s.1) i)) ∙ ap not (row_self s.0))
        | inr gone ↦ not_both _ h (λ i. stays_by (none i) (gone i) (t.base q))
      ]
    ]

    kept_merged : (q : NodeId) → is_kept t q ≡ true → (r : Row) × (t.merged q ≡ Some r)
    kept_merged = kept_least t (λ q. (r : Row) × (t.merged q ≡ Some r)) merged_stays_only
        (λ q r h w. tree_parent n t.merged can.merged q r (sym (seat_merged t q (on_merged q w.0 w.1)) ∙ h))

    has_merged : (q : NodeId) (r : Row) → t.merged q ≡ Some r → HasRow t q r
    has_merged q r h = elim (row_cases t.ours q) [
      | inl s ↦ record {
        kept = stays_kept n m t can q (stays_merged q r h);
        at = r;
        seat = at_merged q r h;
        parent = refl;
        name = refl;
        of = mixed r s.0 s.0;
        fields = (λ i. fields_by (h i) (s.1 i) ((same q ∙ s.1) i));
        id = refl;
        kind = refl;
        bytes = mix_bytes r.bytes s.0.bytes;
        exec = mix_exec r.exec s.0.exec;
        mtime = mix_mtime r.mtime s.0.mtime;
      }
      | inr none ↦ record {
        kept = stays_kept n m t can q (stays_merged q r h);
        at = r;
        seat = at_merged q r h;
        parent = refl;
        name = refl;
        of = r;
        fields = (λ i. fields_by (h i) (none i) (t.base q));
        id = refl;
        kind = refl;
        bytes = refl;
        exec = refl;
        mtime = refl;
      }
    ]

    pub ours_unchanged : (q : NodeId) → result t q ≡ t.merged q
    ours_unchanged = whole n m t ready t.merged has_merged
        (λ q none. not_true _ (λ k. let w = kept_merged q k in none_some w.0 (t.merged q) none w.1))
        (no_joins (inr (λ q k none. let w = kept_merged q k in none_some w.0 (t.merged q) none w.1)))
        (λ q. not_true _ (λ c.
        let s = passes_row _ (standing t q) (second_of_both _ _ c) in
        let w = kept_merged q (standing_was t q s.0 s.1).3 in
        not_both _ (first_of_both _ _ c) (on_merged q w.0 w.1)))

  -- merged is base
  module _ (same : (q : NodeId) → t.base q ≡ t.merged q) where
    -- at its place in ours, whichever side the row is on
    like_ours : (o : Look) → ((q : NodeId) (s : Row) → t.ours q ≡ Some s → (x : Row) × (o q ≡ Some x) × (x.parent ≡ s.parent) × (x.name ≡ s.name)) → (k : ℕ) (q : NodeId) → meets t.ours root k q ≡ true → meets o root k q ≡ true
    like_ours o like zero q h = h
    like_ours o like (suc k) q h = elim (node_cases q root) [
      | inl e ↦ subst (λ x. meets o root (suc k) x ≡ true) (sym e) (meets_here o root (suc k))
      | inr off ↦
          let w = meets_from t.ours root q k off h in
          let x = like q w.0 w.1 in
          meets_step o root q k x.0 x.1 (subst (λ z. meets o root k z ≡ true) (sym x.2) (like_ours o like k w.0.parent w.2))
    ]

    -- a row that is not moved has in merged the place that it has in ours
    moved_or_same : (q : NodeId) (s : Row) → t.ours q ≡ Some s → (is_moved t q ≡ true) ⊎ ((x : Row) × (t.merged q ≡ Some x) × (x.parent ≡ s.parent) × (x.name ≡ s.name))
    moved_or_same q s h = elim (row_cases t.merged q) [
      | inr none ↦ inl (λ i. is_moved_by (none i) (t.ours q) (t.base q))
      | inl r ↦ elim (bool_cases (same_place s r.0)) [
        | inl e ↦ let p = place_same s r.0 e in inr (r.0, r.1, sym p.0, sym p.1)
        | inr e ↦ inl ((λ i. is_moved_by (r.1 i) (h i) ((same q ∙ r.1) i)) ∙ both _ _ (place_self r.0 r.0 refl refl) (not_is _ e))
      ]
    ]

    guess_like : (q : NodeId) (s : Row) → t.ours q ≡ Some s → (x : Row) × (guess t q ≡ Some x) × (x.parent ≡ s.parent) × (x.name ≡ s.name)
    guess_like q s h = elim (bool_cases (is_moved t q)) [
      | inl e ↦ (s, when _ (t.ours q) (t.merged q) e ∙ h, refl, refl)
      | inr e ↦ elim (moved_or_same q s h) [ inl a ↦ not_both _ a e | inr x ↦ (x.0, unless _ (t.ours q) (t.merged q) e ∙ x.1, x.2, x.3) ]
    ]

    not_lost : (q : NodeId) (s : Row) → t.ours q ≡ Some s → is_lost t q ≡ false
    not_lost q s h =
        let most : IsAtMost (length t.ids) t.ours = listed_most (length t.ids) t.ids t.ours (omega arith) can.ours_in in
        no_second _ _ (no_second _ _ (ap not (like_ours (guess t) guess_like (length t.ids) q (meets_within (length t.ids) t.ours most root q m (can.ours.reaches q s h)))))

    seat_like : (q : NodeId) (s : Row) → t.ours q ≡ Some s → (x : Row) × (seat t q ≡ Some x) × (x.parent ≡ s.parent) × (x.name ≡ s.name)
    seat_like q s h =
        let g = guess_like q s h in
        (g.0, ap (λ b. cond b (t.ours q) (t.merged q)) (and_true (is_moved t q) _ (not_is _ (not_lost q s h))) ∙ g.1, g.2, g.3)
      where
        and_true : (a b : Bool) → b ≡ true → (a && b) ≡ a
        and_true true b h = h
        and_true false b h = refl

    stays_ours : (q : NodeId) (s : Row) → t.ours q ≡ Some s → stays t q ≡ true
    stays_ours q s h = elim (row_cases t.merged q) [
      | inl r ↦ both_stay n m t can q r.0 s r.1 h
      | inr none ↦ (λ i. stays_by (none i) (h i) ((same q ∙ none) i))
    ]

    ours_stays_only : (q : NodeId) → stays t q ≡ true → (s : Row) × (t.ours q ≡ Some s)
    ours_stays_only q h = elim (row_cases t.ours q) [
      | inl w ↦ w
      | inr none ↦ elim (row_cases t.merged q) [
        | inl r ↦ not_both _ h ((λ i. stays_by (r.1 i) (none i) ((same q ∙ r.1) i)) ∙ ap not (row_self r.0))
        | inr gone ↦ not_both _ h (λ i. stays_by (gone i) (none i) (t.base q))
      ]
    ]

    kept_ours : (q : NodeId) → is_kept t q ≡ true → (s : Row) × (t.ours q ≡ Some s)
    kept_ours = kept_least t (λ q. (s : Row) × (t.ours q ≡ Some s)) ours_stays_only
        (λ q r h w.
        let x = seat_like q w.0 w.1 in
        let is : r ≡ x.0 = same_some r x.0 (seat t q) h x.1 in
        let p = tree_parent m t.ours can.ours q w.0 w.1 in
        (p.0, ap t.ours (ap (λ (z : Row). z.parent) is ∙ x.2) ∙ p.1))

    has_ours : (q : NodeId) (s : Row) → t.ours q ≡ Some s → HasRow t q s
    has_ours q s h =
        let x = seat_like q s h in
        elim (row_cases t.merged q) [
          | inl r ↦ record {
            kept = stays_kept n m t can q (stays_ours q s h);
            at = x.0;
            seat = x.1;
            parent = x.2;
            name = x.3;
            of = mixed r.0 s r.0;
            fields = (λ i. fields_by (r.1 i) (h i) ((same q ∙ r.1) i));
            id = can.merged.keyed q r.0 r.1 ∙ sym (can.ours.keyed q s h);
            kind = can.kinds q r.0 s r.1 h;
            bytes = when _ s.bytes r.0.bytes (bytes_self r.0.bytes);
            exec = when _ s.exec r.0.exec (bool_self r.0.exec);
            mtime = when _ s.mtime _ (eq-eqb r.0.mtime r.0.mtime refl);
          }
          | inr none ↦ record {
            kept = stays_kept n m t can q (stays_ours q s h);
            at = x.0;
            seat = x.1;
            parent = x.2;
            name = x.3;
            of = s;
            fields = (λ i. fields_by (none i) (h i) (t.base q));
            id = refl;
            kind = refl;
            bytes = refl;
            exec = refl;
            mtime = refl;
          }
        ]

    none_joined : (q : NodeId) → joined t q ≡ None
    none_joined = no_joins (inl (λ a k none. let w = kept_ours a k in none_some w.0 (t.ours a) none w.1))

    -- a row that is left stands where it does in ours
    stands_like : (q : NodeId) (r : Row) → standing t q ≡ Some r → (s : Row) × (t.ours q ≡ Some s) × (r.parent ≡ s.parent) × (r.name ≡ s.name)
    stands_like q r h =
        let w = standing_was t q r h in
        let s = kept_ours q w.3 in
        let x = seat_like q s.0 s.1 in
        let is : w.0 ≡ x.0 = same_some w.0 x.0 (seat t q) w.1 x.1 in (
          s.0,
          s.1,
          ap (λ (z : Row). z.parent) w.2 ∙ ap (λ o. unwrap_or o w.0.parent) (none_joined w.0.parent) ∙ ap (λ (z : Row). z.parent) is ∙ x.2,
          ap (λ (z : Row). z.name) w.2 ∙ ap (λ (z : Row). z.name) is ∙ x.3,
        )

    -- so two that share a place are one, and the root shares its with none
    one_place : (p q : NodeId) (r s : Row) → standing t p ≡ Some r → standing t q ≡ Some s → r.parent ≡ s.parent → r.name ≡ s.name → p ≡ q
    one_place p q r s hp hq e f =
        let x = stands_like p r hp in
        let y = stands_like q s hq in
        let parents : x.0.parent ≡ y.0.parent = sym x.2 ∙ e ∙ y.2 in
        let names : x.0.name ≡ y.0.name = sym x.3 ∙ f ∙ y.3 in
        elim (node_cases p root) [
          | inl a ↦ elim (node_cases q root) [
            | inl b ↦ a ∙ sym b
            | inr b ↦ absurd (nameless q y.0 b y.1 (sym names ∙ root_name p x.0 a x.1))
          ]
          | inr a ↦ elim (node_cases q root) [
            | inl b ↦ absurd (nameless p x.0 a x.1 (names ∙ root_name q y.0 b y.1))
            | inr b ↦ can.ours.places p q x.0 y.0 x.1 y.1 a b parents names
          ]
        ]
      where
        root_name : (q : NodeId) (s : Row) → q ≡ root → t.ours q ≡ Some s → s.name ≡ []
        root_name q s e h =
            let a = some_and _ (t.ours root) can.ours.rooted in
            ap (λ (z : Row). z.name) (same_some s a.0 (t.ours root) (ap t.ours (sym e) ∙ h) a.1) ∙ a.2.2

        nameless : (q : NodeId) (s : Row) → q ≢ root → t.ours q ≡ Some s → s.name ≢ []
        nameless q s off h e = true≢false (sym (can.ours.named q s h off) ∙ ap is_name e)

    calm : (q : NodeId) → clashes t q ≡ false
    calm q = not_true _ (λ c.
        let s = passes_row _ (standing t q) (second_of_both _ _ c) in
        let p = any_here _ t.ids s.2 in
        let r = passes_row (same_place s.0) (standing t p.0) (second_of_both _ _ p.1) in
        let e = place_same s.0 r.0 r.2 in
        let one = one_place q p.0 s.0 r.0 s.1 r.1 e.0 e.1 in
        not_both _ (first_of_both _ _ c) (ap (on_ours t) one ∙ not_was _ (first_of_both _ _ p.1)))

    pub merged_unchanged : (q : NodeId) → result t q ≡ t.ours q
    merged_unchanged = whole n m t ready t.ours has_ours
        (λ q none. not_true _ (λ k. let w = kept_ours q k in none_some w.0 (t.ours q) none w.1))
        none_joined calm
