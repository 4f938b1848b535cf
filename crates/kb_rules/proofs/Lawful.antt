-- The laws of a merge of trees.
use Rattle.std.proofs.Common.{is_some, ◌⊎◌, ◌≡◌, ℕ, ◌*◌, ◌^◌, ◌<◌, Bool, true, false, not, List, [], ◌∷◌, inl, inr, ◌&&◌, ◌||◌, cond, Option, Some, None, refl, sym, ap, subst, ◌∙◌, arith, slice_get, ◌+◌, ◌-◌, nat_eq}
use borrow.Author.Tests.{eqb-true}
use Rattle.std.specs.Prelude.{filter}
use Rattle.std.specs.Option.{option_map}
use Rattle.std.specs.Str.{bytes_eq}
use Rattle.std.specs.FinMap as map
use Rattle.kb_name.specs.declared.ids.NodeId.{NodeId}
use Rattle.kb_ops.specs.declared.rows.Row.{Row}
use Rattle.kb_ops.specs.Rows.{Look, IsTree}
use Rattle.kb_ops.specs.Trees.{Tree, look, IsWellFormed}
use Rattle.kb_ops.proofs.Nodes.{node_self}
use Rattle.kb_ops.proofs.Walks.{IsAtMost, row_cases}
use Rattle.kb_ops.proofs.Looks.{map_most, same_tree}
use Rattle.kb_rules.specs.Three.{Three, same_place, is_parted, is_split_by, is_split}
use Rattle.kb_rules.specs.Names.{result}
use Rattle.kb_rules.specs.declared.stamp.Stamp.{Stamp}
use Rattle.kb_rules.specs.Merge.{copy_id, copied, with_copies, three, merge, conflicted}
use Rattle.kb_rules.specs.Ready.{is_in}
use Rattle.kb_ops.specs.declared.values.Kind.TheVariants.{File}
use Rattle.kb_rules.specs.Joins.{joined}
use Rattle.kb_rules.proofs.Joined.{Joins}
use Rattle.kb_rules.proofs.Alike.{second_rule, no_copy}
use Rattle.kb_rules.proofs.Ready.{CanName}
use Rattle.kb_rules.specs.Meet.{Meet}
use Rattle.kb_rules.specs.Laws.{IsFileOf, IsNameOf, HasBytes, KeepsOurs, KeepsMerged, Laws}
use Rattle.kb_rules.proofs.Basics.{bool_cases, not_true, not_both, both, no_second, not_is, when, unless, same_some, none_some, bytes_self}
use Rattle.kb_rules.proofs.Formed.{result_was, standing_in, result_formed}
use Rattle.kb_rules.proofs.Whole.{place_self}
use Rattle.kb_rules.proofs.Unchanged.{ours_unchanged, merged_unchanged}
use Rattle.kb_rules.proofs.Files.{merged_bytes, our_bytes}
use Rattle.kb_rules.proofs.Ids.{in_get, in_filter, look_at}
use Rattle.kb_rules.proofs.Copies.{IsNaming, splits, ours, can_name, split_in, copied_is, copied_cases, with_cases, not_copied, with_copy, with_same, copy_not_in}

-- the names of a row by other trees that have it
renamed : (c : List ℕ → ℕ → List ℕ) (m u n v : Option Row) (name : List ℕ) → ((r : Row) → m ≡ Some r → (x : Row) × (n ≡ Some x) × (r.name ≡ x.name)) → ((s : Row) → u ≡ Some s → (x : Row) × (v ≡ Some x) × (s.name ≡ x.name))
    → IsNameOf c m u name → IsNameOf c n v name
renamed c m u n v name in_m in_u h = elim h [
  | inl x ↦ elim x [
    | inl y ↦ let w = in_m y.0 y.1 in inl (inl (w.0, w.1, y.2 ∙ w.2))
    | inr y ↦ let w = in_u y.0 y.1 in inl (inr (w.0, w.1, y.2 ∙ w.2))
  ]
  | inr y ↦ let w = in_u y.0 y.1 in inr (w.0, w.1, y.2, y.3, y.4, y.5 ∙ ap (λ z. c z y.2) w.2)
]

-- what merged or ours has as base has it is not split
merged_is_base : (r s : Row) → is_split_by (Some r) (Some s) (Some r) ≡ false
merged_is_base r s = no_second _ _ ((λ i. is_parted (bytes_self r.bytes i) (bytes_eq s.bytes r.bytes) (bytes_eq r.bytes s.bytes) || is_parted (place_self r r refl refl i) (same_place s r) (same_place r s)))

ours_is_base : (r s : Row) → is_split_by (Some r) (Some s) (Some s) ≡ false
ours_is_base r s = no_second _ _ (unparted (bytes_eq r.bytes s.bytes) (bytes_eq s.bytes s.bytes) (bytes_eq r.bytes s.bytes) (bytes_self s.bytes) (same_place r s) (same_place s s) (same_place r s) (place_self s s refl refl))
  where
    unparted : (a b c : Bool) → b ≡ true → (d e f : Bool) → e ≡ true → (is_parted a b c || is_parted d e f) ≡ false
    unparted a b c h d e f k = (λ i. (not a && (not (h i) && not c)) || (not d && (not (k i) && not f))) ∙ flat (not a) (not d)
      where
        flat : (x y : Bool) → ((x && false) || (y && false)) ≡ false
        flat true true = refl
        flat true false = refl
        flat false true = refl
        flat false false = refl

filter_none : (p : NodeId → Bool) (ids : List NodeId) → ((q : NodeId) → p q ≡ false) → filter p ids ≡ []
filter_none p [] h = refl
filter_none p (q ∷ ids) h = unless _ (q ∷ filter p ids) (filter p ids) (h q) ∙ filter_none p ids h

no_copies : (stamp : Stamp) (u : Look) (q : NodeId) → with_copies stamp [] u q ≡ u q
no_copies stamp u q = elim (copied_cases stamp [] u q) [
  | inl s ↦ none_some s.0 None refl (copied_is stamp [] u q s.0 s.1).2
  | inr none ↦ with_same stamp [] u q none refl
]

module _ (b m u : Tree) (stamp : Stamp) (meet : Meet b m u stamp) (naming : IsNaming (conflicted stamp)) (few : 4 * (map.len m + map.len u) < 2 ^ 63) where
  abbrev t : Three
  t = three b m u stamp

  abbrev ready : CanName (map.len m) (map.len u) t
  ready = can_name b m u stamp meet naming few

  pub look-merge : (q : NodeId) → look (merge b m u stamp) q ≡ result t q
  look-merge q = look_at (result t) t.ids q ∙ within (result t q) refl
    where
      within : (o : Option Row) → result t q ≡ o → cond (is_in q t.ids) (result t q) None ≡ result t q
      within (Some w) h = let s = result_was (map.len m) (map.len u) t ready q w h in when _ (result t q) None (standing_in (map.len m) (map.len u) t ready q s.0 s.1)
      within None h = same (is_in q t.ids) (result t q) h
        where
          same : (c : Bool) (o : Option Row) → o ≡ None → cond c o None ≡ o
          same true o e = refl
          same false o e = sym e

  merge_formed : IsWellFormed (merge b m u stamp)
  merge_formed =
      let tree = merge b m u stamp in
      let same : look tree ≡ result t = λ i q. look-merge q i in
      subst (IsTree (map.len tree)) (sym same) (result_formed (map.len m) (map.len u) t ready (map.len tree) (subst (IsAtMost (map.len tree)) same (map_most (map.len tree) tree refl)))

  there : (q : NodeId) (bytes : List ℕ) (name other : List ℕ → Type 0) → ((n : List ℕ) → name n → other n) → HasBytes (result t) q bytes name → HasBytes (look (merge b m u stamp)) q bytes other
  there q bytes name other weaker h = record { row = h.row; found = look-merge q ∙ h.found; file = h.file; bytes_are = h.bytes_are; named = weaker h.row.name h.named }

  -- what is in merged and in ours with copies is in ours
  in_ours : (q : NodeId) (r s : Row) → look m q ≡ Some r → ours b m u stamp meet q ≡ Some s → (x : Row) × (look u q ≡ Some x) × (s.name ≡ x.name)
  in_ours q r s hm h = elim (with_cases stamp (splits b m u stamp meet) (look u) q s h) [
    | inl c ↦ none_some r (look m q) (copy_not_in b m u stamp meet m meet.no_merged_copies q c.0 c.1) hm
    | inr o ↦ (s, o.2, refl)
  ]

  keeps_merged : KeepsMerged b m u stamp
  keeps_merged f r h new = there f r.bytes _ _ (λ n x. renamed (conflicted stamp) (look m f) (ours b m u stamp meet f) (look m f) (look u f) n (λ z e. (z, e, refl)) (λ s e. in_ours f r s h e) x) (merged_bytes (map.len m) (map.len u) t ready f r h new)

  -- a file that is not split stays under its id
  unsplit : (f : NodeId) (s : Row) → look u f ≡ Some s → is_split (look b) (look m) (look u) f ≡ false → ours b m u stamp meet f ≡ look u f
  unsplit f s h whole = with_same stamp (splits b m u stamp meet) (look u) f (not_copied b m u stamp meet u meet.no_our_copies f s h)
      (not_true _ (λ e. not_both _ (in_filter (is_split (look b) (look m) (look u)) (map.keys m) f e) whole))

  -- the copy of a split file
  copy_at : (f : NodeId) → is_split (look b) (look m) (look u) f ≡ true → (q : NodeId) × (copied stamp (splits b m u stamp meet) q ≡ Some f)
  copy_at f h =
      let at = in_get (splits b m u stamp meet) f (split_in b m u stamp meet f h) in
      let back : (at.0 + 1) - 1 ≡ at.0 = omega arith in
      let positive : nat_eq (at.0 + 1) 0 ≡ false = not_true _ (λ e. let z : at.0 + 1 ≡ 0 = eqb-true (at.0 + 1) 0 e in omega (arith, z)) in
      (copy_id stamp (at.0 + 1), when _ _ None (both _ _ (node_self (copy_id stamp (at.0 + 1))) (not_is _ positive)) ∙ ap (slice_get (splits b m u stamp meet)) back ∙ at.1)

  -- what a file of ours with copies is joined to
  abbrev Place : NodeId → NodeId → Type 0
  Place q a = (a ≡ q) ⊎ ((joined t q ≡ Some a) × Joins t q a)

  by_second : (q a : NodeId) (s : Row) → ours b m u stamp meet q ≡ Some s → s.kind ≡ File → Joins t q a → stamp.rule ≡ 2
  by_second q a s at file j =
      eqb-true stamp.rule 2 (second_rule stamp.rule (look b) (λ x. is_some (copied stamp (splits b m u stamp meet) x)) j.row j.host j.may (ap (λ (z : Row). z.kind) (same_some j.row s (ours b m u stamp meet q) j.found at) ∙ file)).0

  keeps_ours : KeepsOurs b m u stamp
  keeps_ours f s h new = elim (bool_cases (is_split (look b) (look m) (look u) f)) [
    | inr e ↦ (
        let same = unsplit f s h e in
        let to = our_bytes (map.len m) (map.len u) t ready f s (same ∙ h) new (ap (λ o. is_split_by (look m f) o (look b f)) same ∙ e) in
        let place : Place f to.0 → IsFileOf b m u stamp f to.0 = λ p. elim p [ inl at ↦ inl (inl at) | inr j ↦ inr (by_second f to.0 s (same ∙ h) new.file j.1, j.0) ] in (
          to.0,
          place to.1,
          there to.0 s.bytes _ _ (λ n x. renamed (conflicted stamp) (look m f) (ours b m u stamp meet f) (look m f) (look u f) n (λ z e. (z, e, refl)) (λ z k. (z, sym same ∙ k, refl)) x) to.2,
        ))
    | inl e ↦ (
        let c = copy_at f e in
        let at : ours b m u stamp meet c.0 ≡ Some (record s { id = c.0 }) = with_copy stamp (splits b m u stamp meet) (look u) c.0 f c.1 ∙ ap (option_map (λ (r : Row). record r { id = c.0 })) h in
        let none_b = copy_not_in b m u stamp meet b meet.no_base_copies c.0 f c.1 in
        let none_m = copy_not_in b m u stamp meet m meet.no_merged_copies c.0 f c.1 in
        let to = our_bytes (map.len m) (map.len u) t ready c.0 (record s { id = c.0 }) at (record { file = new.file; other = λ o k. none_some o (look b c.0) none_b k })
        (ap (λ o. is_split_by o (ours b m u stamp meet c.0) (look b c.0)) none_m) in
        let not_joined : Joins t c.0 to.0 → ⊥ = λ j. (
        let row = same_some j.row (record s { id = c.0 }) (ours b m u stamp meet c.0) j.found at in
        no_copy stamp.rule (look b) (λ x. is_some (copied stamp (splits b m u stamp meet) x)) j.row j.host j.may (ap (λ (z : Row). z.kind) row ∙ new.file)
        (ap (λ (z : Row). is_some (copied stamp (splits b m u stamp meet) z.id)) row ∙ ap is_some c.1)) in
        let place : Place c.0 to.0 → IsFileOf b m u stamp f to.0 = λ p. elim p [ inl is ↦ inl (inr (ap (copied stamp (splits b m u stamp meet)) is ∙ c.1)) | inr j ↦ absurd (not_joined j.1) ] in (
          to.0,
          place to.1,
          there to.0 s.bytes _ _
              (λ n x. renamed (conflicted stamp) (look m c.0) (ours b m u stamp meet c.0) (look m f) (look u f) n (λ z k. none_some z (look m c.0) none_m k) (λ z k. (s, h, sym (ap (λ (y : Row). y.name) (same_some (record s { id = c.0 }) z (ours b m u stamp meet c.0) at k)))) x)
              to.2,
        ))
  ]

  all_ours : splits b m u stamp meet ≡ [] → (q : NodeId) → ours b m u stamp meet q ≡ look u q
  all_ours none q = ap (λ xs. with_copies stamp xs (look u) q) none ∙ no_copies stamp (look u) q

  merged_same : m ≡ b → merge b m u stamp ≡ u
  merged_same e =
      let none : splits b m u stamp meet ≡ [] = filter_none _ (map.keys m) (λ q. elim (row_cases (look m) q) [
        | inr gone ↦ (λ i. is_split_by (gone i) (look u q) (look b q))
        | inl r ↦ elim (row_cases (look u) q) [
          | inr gone ↦ (λ i. is_split_by (r.1 i) (gone i) (look b q))
          | inl s ↦ (λ i. is_split_by (r.1 i) (s.1 i) ((ap (λ z. look z q) (sym e) ∙ r.1) i)) ∙ merged_is_base r.0 s.0
        ]
      ]) in
      same_tree _ _ (λ q. look-merge q ∙ merged_unchanged (map.len m) (map.len u) t ready (λ q. ap (λ z. look z q) (sym e)) q ∙ all_ours none q)

  ours_same : u ≡ b → merge b m u stamp ≡ m
  ours_same e =
      let none : splits b m u stamp meet ≡ [] = filter_none _ (map.keys m) (λ q. elim (row_cases (look m) q) [
        | inr gone ↦ (λ i. is_split_by (gone i) (look u q) (look b q))
        | inl r ↦ elim (row_cases (look u) q) [
          | inr gone ↦ (λ i. is_split_by (r.1 i) (gone i) (look b q))
          | inl s ↦ (λ i. is_split_by (r.1 i) (s.1 i) ((ap (λ z. look z q) (sym e) ∙ s.1) i)) ∙ ours_is_base r.0 s.0
        ]
      ]) in
      same_tree _ _ (λ q. look-merge q ∙ ours_unchanged (map.len m) (map.len u) t ready (λ q. ap (λ z. look z q) (sym e) ∙ sym (all_ours none q)) q)

  pub lawful : Laws b m u stamp
  lawful = record { merged_unchanged = merged_same; ours_unchanged = ours_same; keeps_ours = keeps_ours; keeps_merged = keeps_merged; formed = merge_formed }
