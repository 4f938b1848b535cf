-- No bytes are lost: a file that is new or has new bytes on one side is in the result with them.
use Rattle.std.proofs.Common.{◌≡◌, ◌≢◌, ℕ, ◌≤◌, ◌<◌, Bool, true, false, not, List, length, ◌⊎◌, inl, inr, ◌&&◌, ◌||◌, Option, Some, None, IsSome, refl, sym, ap, ◌∙◌, arith}
use mathlib.Core.Bool.{true≢false}
use Rattle.std.specs.Option.{option_map, option_and_then}
use Rattle.std.specs.Str.{bytes_eq}
use Rattle.kb_name.specs.declared.ids.NodeId.{NodeId}
use Rattle.kb_ops.specs.declared.values.Kind.TheVariants.{File}
use Rattle.kb_ops.specs.declared.rows.Row.{Row}
use Rattle.kb_ops.proofs.Walks.{row_cases}
use Rattle.kb_ops.specs.Plan.{is_file_kind}
use Rattle.kb_rules.specs.Three.{Three, same_place, same_row, same_content, is_base, stays_by, stays, fields_by, fields, mixed, same_kind, is_parted, is_split_by}
use Rattle.kb_rules.specs.Places.{seat, on_ours, is_kept}
use Rattle.kb_rules.specs.Joins.{into, joined, standing}
use Rattle.kb_rules.specs.Names.{given, given_name, result}
use Rattle.kb_rules.specs.Ready.{CanMerge}
use Rattle.kb_rules.proofs.Ready.{CanName}
use Rattle.kb_rules.specs.Laws.{HasBytes, IsNewFile, IsNameOf}
use Rattle.kb_rules.proofs.Basics.{bool_cases, not_true, not_both, both, first_of_both, second_of_both, not_is, when, unless, same_some, none_some, bytes_same}
use Rattle.kb_rules.proofs.Reaching.{seat_cases, seat_ours, seat_of_ours, seat_of_merged}
use Rattle.kb_rules.proofs.Keeps.{stays_kept, both_stay}
use Rattle.kb_rules.proofs.Joined.{Joins, joins, into_cases, host_seat, merged_stays, standing_row, standing_was}
use Rattle.kb_rules.proofs.Named.{given_at, given_id, all_given, name_cases}

-- a row with other bytes is another row
other_row : (s o : Row) → s.bytes ≢ o.bytes → same_row s o ≡ false
other_row s o ne = not_true _ (λ h.
    let content = second_of_both (same_place s o) _ (second_of_both _ _ h) in
    ne (bytes_same s.bytes o.bytes (first_of_both _ _ (second_of_both (same_kind s.kind o.kind) _ content))))

not_base : (s : Row) (o : Option Row) → IsNewFile s o → not (is_base s o) ≡ true
not_base s None h = refl
not_base s (Some o) h = not_is _ (other_row s o (h.other o refl))

within : {a b c : ℕ} → a < c → b ≤ a → b < c
within h k = omega (arith, h, k)

some_is : (o : Option Row) → IsSome o → (r : Row) × (o ≡ Some r)
some_is None h = absurd (true≢false (sym h))
some_is (Some r) h = (r, refl)

module _ (n m : ℕ) (t : Three) (ready : CanName n m t) where
  abbrev can : CanMerge n m t
  can = ready.can

  -- the result's row where a row stands
  named : (q : NodeId) (x : Row) → joined t q ≡ None → seat t q ≡ Some x → IsNameOf t.conflicted (t.merged q) (t.ours q) (given_name (given t) q x.name)
  named q x apart at = elim (name_cases t (given t) q x.name) [
    | inl g ↦
        let w = given_at t (given t) (all_given t ready.differ) q g.0 g.1 in
        let id : g.0.id ≡ q = given_id t (given t) q g.0 g.1 in
        let side : on_ours t q ≡ true = ap (on_ours t) (sym id) ∙ first_of_both _ _ w.1.clash in
        let was = standing_was t q w.1.row (ap (standing t) (sym id) ∙ w.1.found) in
        let same : w.1.row.name ≡ x.name = ap (λ (z : Row). z.name) was.2 ∙ ap (λ (z : Row). z.name) (same_some was.0 x (seat t q) was.1 at) in
        inr (x, sym (seat_ours t q side) ∙ at, w.1.k, w.1.from_one, within ready.few w.1.small, g.2 ∙ w.1.name ∙ ap (λ z. t.conflicted z w.1.k) same)
    | inr none ↦ elim (seat_cases t q x at) [
      | inl a ↦ inl (inr (x, a.1, none.1))
      | inr a ↦ inl (inl (x, a.1, none.1))
    ]
  ]

  has_bytes : (q : NodeId) (x f : Row) (bytes : List ℕ) → is_kept t q ≡ true → joined t q ≡ None → seat t q ≡ Some x → fields t q ≡ Some f → f.kind ≡ File → f.bytes ≡ bytes
      → HasBytes (result t) q bytes (IsNameOf t.conflicted (t.merged q) (t.ours q))
  has_bytes q x f bytes kept apart at fields file is = record {
    row = record f { parent = into t x.parent; name = given_name (given t) q x.name };
    found = ap (option_and_then (λ (s : Row). option_map (λ (f : Row). record f { parent = s.parent; name = given_name (given t) q s.name }) (Rattle.kb_rules.specs.Three.fields t q))) (standing_row t q x kept apart at)
        ∙ ap (option_map (λ (f : Row). record f { parent = into t x.parent; name = given_name (given t) q x.name })) fields;
    file = file;
    bytes_are = is;
    named = named q x apart at;
  }

  -- a file of merged
  pub merged_bytes : (q : NodeId) (r : Row) → t.merged q ≡ Some r → IsNewFile r (t.base q) → HasBytes (result t) q r.bytes (IsNameOf t.conflicted (t.merged q) (t.ours q))
  merged_bytes q r h new =
      let at = seat_of_merged t q r h in
      elim (row_cases t.ours q) [
        | inl s ↦
            let base = some_is (t.base q) (can.common q r s.0 h s.1) in
            let keep : (mixed r s.0 base.0).bytes ≡ r.bytes = unless _ s.0.bytes r.bytes (not_true _ (λ e. new.other base.0 base.1 (bytes_same r.bytes base.0.bytes e))) in
            has_bytes q at.0 (mixed r s.0 base.0) r.bytes (stays_kept n m t can q (both_stay n m t can q r s.0 h s.1)) (merged_stays t (length t.ids) q r h) at.1 (λ i. fields_by (h i) (s.1 i) (base.1 i)) new.file keep
        | inr none ↦
            has_bytes q at.0 r r.bytes (stays_kept n m t can q ((λ i. stays_by (h i) (none i) (t.base q)) ∙ not_base r (t.base q) new)) (merged_stays t (length t.ids) q r h) at.1 (λ i. fields_by (h i) (none i) (t.base q)) new.file refl
      ]

  -- the name of what it is joined to is its own
  host_named : (q : NodeId) (s : Row) → t.ours q ≡ Some s → (a : NodeId) (j : Joins t q a) → j.row ≡ s → (name : List ℕ) → IsNameOf t.conflicted (t.merged a) (t.ours a) name → IsNameOf t.conflicted (t.merged q) (t.ours q) name
  host_named q s h a j same name (inl (inl x)) = inl (inr (s, h, x.2 ∙ ap (λ (z : Row). z.name) (same_some x.0 j.host (t.merged a) x.1 j.host_found) ∙ j.name ∙ ap (λ (z : Row). z.name) same))
  host_named q s h a j same name (inl (inr x)) = none_some x.0 (t.ours a) j.host_new x.1
  host_named q s h a j same name (inr x) = none_some x.0 (t.ours a) j.host_new x.1

  -- a file of ours that is not split, or what it is joined to
  pub our_bytes : (q : NodeId) (s : Row) → t.ours q ≡ Some s → IsNewFile s (t.base q) → is_split_by (t.merged q) (t.ours q) (t.base q) ≡ false
      → (a : NodeId) × ((a ≡ q) ⊎ ((joined t q ≡ Some a) × Joins t q a)) × HasBytes (result t) a s.bytes (IsNameOf t.conflicted (t.merged q) (t.ours q))
  our_bytes q s h new whole =
      let at = seat_of_ours t q s h in
      elim (row_cases t.merged q) [
        | inl r ↦
            let base = some_is (t.base q) (can.common q r.0 s r.1 h) in
            let file : r.0.kind ≡ File = can.kinds q r.0 s r.1 h ∙ new.file in
            let unlike : bytes_eq s.bytes base.0.bytes ≡ false = not_true _ (λ e. new.other base.0 base.1 (bytes_same s.bytes base.0.bytes e)) in
            let keep : (mixed r.0 s base.0).bytes ≡ s.bytes = elim (bool_cases (bytes_eq r.0.bytes base.0.bytes)) [
              | inl e ↦ when _ s.bytes r.0.bytes e
              | inr e ↦ unless _ s.bytes r.0.bytes e ∙ elim (bool_cases (bytes_eq r.0.bytes s.bytes)) [
                | inl same ↦ bytes_same r.0.bytes s.bytes same
                | inr apart ↦ not_both _
                    (split_is (is_file_kind r.0.kind) (is_parted (bytes_eq r.0.bytes base.0.bytes) (bytes_eq s.bytes base.0.bytes) (bytes_eq r.0.bytes s.bytes)) _
                    (ap is_file_kind file) (both _ _ (not_is _ e) (both _ _ (not_is _ unlike) (not_is _ apart))))
                    (sym (λ i. is_split_by (r.1 i) (h i) (base.1 i)) ∙ whole)
              ]
            ] in
            (q, inl refl, has_bytes q at.0 (mixed r.0 s base.0) s.bytes (stays_kept n m t can q (both_stay n m t can q r.0 s r.1 h)) (merged_stays t (length t.ids) q r.0 r.1) at.1 (λ i. fields_by (r.1 i) (h i) (base.1 i)) file keep)
        | inr none ↦ elim (into_cases t q) [
          | inr apart ↦
              (q, inl refl, has_bytes q at.0 s s.bytes (stays_kept n m t can q ((λ i. stays_by (none i) (h i) (t.base q)) ∙ not_base s (t.base q) new)) apart.0 at.1 (λ i. fields_by (none i) (h i) (t.base q)) new.file refl)
          | inl to ↦
              let j = joins n m t can q to.0 to.1 in
              let same : j.row ≡ s = same_some j.row s (t.ours q) j.found h in
              let file = can.joined_files j.row j.host j.may (ap (λ (z : Row). z.kind) same ∙ new.file) in
              let bytes = file.1 ∙ ap (λ (z : Row). z.bytes) same in
              let has = has_bytes to.0 j.host j.host s.bytes j.host_kept (merged_stays t (length t.ids) to.0 j.host j.host_found) (host_seat n m t can q to.0 j) (λ i. fields_by (j.host_found i) (j.host_new i) (t.base to.0)) file.0 bytes in
              (to.0, inr (to.1, j), record { row = has.row; found = has.found; file = has.file; bytes_are = has.bytes_are; named = host_named q s h to.0 j same has.row.name has.named })
        ]
      ]
    where
      split_is : (a b c : Bool) → a ≡ true → b ≡ true → (a && (b || c)) ≡ true
      split_is a b c x y = both a _ x (ap (λ v. v || c) y)
