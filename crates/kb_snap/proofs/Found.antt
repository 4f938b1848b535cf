-- The pointer of each row of a tree that is held, found from the root down.
use Rattle.std.proofs.Common.{◌≡◌, ℕ, zero, suc, true, List, [], ◌∷◌, Option, Some, None, refl, ap, sym, subst, ◌∙◌, inl, inr}
use Rattle.std.specs.Prelude.{◌⊎◌}
use Rattle.std.specs.FinMap.{len}
use Rattle.kb_name.specs.declared.ids.NodeId.{NodeId}
use Rattle.kb_name.specs.Nodes.{root}
use Rattle.kb_ops.specs.declared.values.Kind.{Kind}
use Rattle.kb_ops.specs.declared.values.Kind.TheVariants.{Dir, File, Link}
use Rattle.kb_ops.specs.declared.rows.Row.{Row}
use Rattle.kb_ops.specs.Rows.{Look, meets, is_dir_kind}
use Rattle.kb_ops.specs.Trees.{Tree, look, IsWellFormed}
use Rattle.kb_ops.proofs.Kept.{dir_at}
use Rattle.kb_ops.proofs.Nodes.{node_is, node_cases}
use Rattle.kb_ops.proofs.Walks.{meets_from, meets_here, meets_step, row_cases}
use Rattle.kb_blocks.specs.declared.pointer.Ptr.{Ptr}
use Rattle.kb_files.specs.Files.{Vault}
use Rattle.kb_files.proofs.ReadParts.{IsSingle}
use Rattle.kb_dirs.specs.declared.entries.Entry.{Entry}
use Rattle.kb_dirs.specs.Dirs.{HoldsDir}
use Rattle.kb_dirs.proofs.Once.{one_dir}
use Rattle.kb_snap.specs.Holds.{IsOneOf, IsChild, AreChildren, Holds, HoldsKind, HoldsEach}
use Rattle.kb_snap.specs.Holds.Holds.{leaf, dir}
use Rattle.kb_snap.specs.Laws.{IsUnder, IsClear, StaysUnder}
use Rattle.kb_snap.proofs.HeldRows.{some_is, dir_kind, same_named, as_file, as_dir, row_there}

-- ---- the pointers on the way down

data IsAt (vault : Vault) (l : Look) (p : Ptr) : NodeId → Ptr → Type 0 where
  top : (q : NodeId) (x : Ptr) → q ≡ root → x ≡ p → IsAt vault l p q x
  step : (q : NodeId) (x : Ptr) (k : NodeId) (y : Ptr) (es : List Entry) (e : Entry) → IsAt vault l p k y → HoldsDir vault y es → IsOneOf e es → IsChild l k e → e.id ≡ q → e.ptr ≡ x → IsAt vault l p q x

one_at : (vault : Vault) → IsSingle vault → (l : Look) (p : Ptr) (q k : NodeId) (x y : Ptr) → q ≡ k → IsAt vault l p q x → IsAt vault l p k y → x ≡ y
one_at vault one l p q k x y same (top _ _ e f) (top _ _ g h) = f ∙ sym h
one_at vault one l p q k x y same (top _ _ e f) (step _ _ j z es d a held among c g h) = absurd (c.not_root (g ∙ sym same ∙ e))
one_at vault one l p q k x y same (step _ _ j z es d a held among c g h) (top _ _ e f) = absurd (c.not_root (g ∙ same ∙ e))
one_at vault one l p q k x y same (step _ _ j z es d a held among c g h) (step _ _ j' z' es' d' a' held' among' c' g' h') =
    let id : d.id ≡ d'.id = g ∙ same ∙ sym g' in
    let row : c.row ≡ c'.row = some_is c.row c'.row (sym c.there ∙ ap l id ∙ c'.there) in
    let up : j ≡ j' = sym c.below ∙ ap (λ (r : Row). r.parent) row ∙ c'.below in
    let ptr : z ≡ z' = one_at vault one l p j j' z z' up a a' in
    let all : es' ≡ es = one_dir vault one z es' es (subst (λ v. HoldsDir vault v es') (sym ptr) held') held in
    let entry : d ≡ d' = same_named es held.0.ordered d d' among (subst (λ xs. IsOneOf d' xs) all among') (c.fields.name ∙ ap (λ (r : Row). r.name) row ∙ sym c'.fields.name) in
    sym h ∙ ap (λ (e : Entry). e.ptr) entry ∙ h'

module _ (vault : Vault) (one : IsSingle vault) (t : Tree) (w : IsWellFormed t) (p : Ptr) (held : Holds vault (look t) root p) where
  Spot : NodeId → Type 0
  Spot q = (x : Ptr) × (IsAt vault (look t) p q x × Holds vault (look t) q x)

  at_top : (q : NodeId) → q ≡ root → Spot q
  unfolding Spot
  at_top q e = (p, (top q p e refl, subst (λ k. Holds vault (look t) k p) (sym e) held))

  found : (n : ℕ) (q : NodeId) (r : Row) → look t q ≡ Some r → meets (look t) root n q ≡ true → Spot q
  unfolding Spot
  found zero q r is m = at_top q (node_is q root m)
  found (suc n) q r is m = elim (node_cases q root) [
    | inl e ↦ at_top q e
    | inr off ↦
        let s = meets_from (look t) root q n off m in
        let own : s.0 ≡ r = some_is s.0 r (sym s.1 ∙ is) in
        let above = dir_at (look t) r.parent (w.parents q r is off) in
        let up = found n r.parent above.0 above.1 (ap (λ (y : Row). meets (look t) root n y.parent) (sym own) ∙ s.2) in
        let d = as_dir vault (look t) r.parent up.0 up.1.1 above.0 above.1 (dir_kind above.0.kind above.2) in
        let e = d.children.all q r is off refl in
        (e.0.ptr, (step q e.0.ptr r.parent up.0 d.es e.0 up.1.0 d.held e.1.0 (d.children.each e.0 e.1.0) e.1.1 refl, subst (λ k. Holds vault (look t) k e.0.ptr) e.1.1 (d.below e.0 e.1.0)))
  ]

  Seen : NodeId → Type 0
  Seen q = ((r : Row) × (look t q ≡ Some r)) ⊎ (look t q ≡ None)

  pick : (q : NodeId) → Seen q → Option Ptr
  unfolding Spot Seen
  pick q (inl s) = Some (found (len t) q s.0 s.1 (w.reaches q s.0 s.1)).0
  pick q (inr s) = None

  picked : (q : NodeId) (r : Row) → look t q ≡ Some r → (s : Seen q) → (x : Ptr) × ((pick q s ≡ Some x) × (IsAt vault (look t) p q x × Holds vault (look t) q x))
  unfolding Spot Seen pick
  picked q r is (inl s) = let f = found (len t) q s.0 s.1 (w.reaches q s.0 s.1) in (f.0, (refl, f.1))
  picked q r is (inr s) = let bad : None ≡ Some r = sym s ∙ is in cc

  at : NodeId → Option Ptr
  unfolding Seen
  at q = pick q (row_cases (look t) q)

  here : (q : NodeId) (r : Row) → look t q ≡ Some r → (x : Ptr) × ((at q ≡ Some x) × (IsAt vault (look t) p q x × Holds vault (look t) q x))
  unfolding Seen at
  here q r is = picked q r is (row_cases (look t) q)

  -- the pointer of a row that is reached by another way is the same
  at_is : (q : NodeId) (x : Ptr) (r : Row) → look t q ≡ Some r → IsAt vault (look t) p q x → at q ≡ Some x
  at_is q x r is a = let h = here q r is in h.1.0 ∙ ap (λ (y : Ptr). Some y) (one_at vault one (look t) p q q h.0 x refl h.1.1.0 a)

  by_kind : (k : Kind) (q : NodeId) (r : Row) (x : Ptr) → look t q ≡ Some r → r.kind ≡ k → IsAt vault (look t) p q x → Holds vault (look t) q x → HoldsKind vault (look t) at k r x
  by_kind Dir q r x is e a h =
      let d = as_dir vault (look t) q x h r is e in
      let id : r.id ≡ q = w.keyed q r is in (
        d.es,
        (
          d.held,
          (
            subst (λ k. AreChildren (look t) k d.es) (sym id) d.children,
            λ f among.
                let c = d.children.each f among in
                at_is f.id f.ptr c.row c.there (step f.id f.ptr q x d.es f a d.held among c refl refl),
          ),
        ),
      )
  by_kind File q r x is e a h = as_file vault (look t) q x h r is (ap is_dir_kind e)
  by_kind Link q r x is e a h = as_file vault (look t) q x h r is (ap is_dir_kind e)

  pub rows_of_held : (at : NodeId → Option Ptr) × HoldsEach vault (look t) p at
  rows_of_held = (
    at,
    record {
      top = first;
      each = λ q r is. let h = here q r is in (h.0, (h.1.0, by_kind r.kind q r h.0 is refl h.1.1.0 h.1.1.1));
    },
  )
    where
      first : at root ≡ Some p
      first = elim (row_cases (look t) root) [
        | inl s ↦ at_is root p s.0 s.1 (top root p refl refl)
        | inr never ↦ let r = row_there vault (look t) root p held in let bad : None ≡ Some r.0 = sym never ∙ r.1 in cc
      ]

-- ---- rows that stay

under_more : (l : Look) (q e : NodeId) (m : ℕ) → meets l q m e ≡ true → (n : ℕ) (k : NodeId) → meets l e n k ≡ true → IsUnder l q k
under_more l q e m up zero k h = (m, subst (λ x. meets l q m x ≡ true) (sym (node_is k e h)) up)
under_more l q e m up (suc n) k h = elim (node_cases k e) [
  | inl same ↦ (m, subst (λ x. meets l q m x ≡ true) (sym same) up)
  | inr off ↦
      let s = meets_from l e k n off h in
      let u = under_more l q e m up n s.0.parent s.2 in
      (suc u.0, meets_step l q k u.0 s.0 s.1 u.1)
]

under_child : (l : Look) (q : NodeId) (e : Entry) (c : IsChild l q e) → meets l q 1 e.id ≡ true
under_child l q e c = meets_step l q e.id 0 c.row c.there (subst (λ k. meets l q 0 k ≡ true) (sym c.below) (meets_here l q 0))

stays_below : (old new : Look) (q : NodeId) (e : Entry) → IsChild old q e → StaysUnder old new q → StaysUnder old new e.id
stays_below old new q e c s = record {
  rows = λ k u. s.rows k (under_more old q e.id 1 (under_child old q e c) u.0 k u.1);
  no_more = λ k r is off u. s.no_more k r is off (under_more old q e.id 1 (under_child old q e c) u.0 r.parent u.1);
}

pub stay_held : (vault : Vault) (old new : Look) (q : NodeId) (p : Ptr) → StaysUnder old new q → Holds vault old q p → Holds vault new q p
stay_held vault old new q p s (leaf r is kind file) = leaf r (s.rows q (0, meets_here old q 0) ∙ is) kind file
stay_held vault old new q p s (dir r is kind es held children below) =
    dir r (s.rows q (0, meets_here old q 0) ∙ is) kind es held
    (record {
      each = λ e among.
          let c = children.each e among in
          record { row = c.row; there = s.rows e.id (1, under_child old q e c) ∙ c.there; not_root = c.not_root; below = c.below; fields = c.fields };
      all = λ k x there off up. children.all k x (s.no_more k x there off (0, subst (λ j. meets old q 0 j ≡ true) (sym up) (meets_here old q 0))) off up;
    })
    (λ e among. stay_held vault old new e.id e.ptr (stays_below old new q e (children.each e among) s) (below e among))

-- ---- pointers that are left after a change

among_cases : (k : NodeId) (ks : List NodeId) → IsOneOf k ks ⊎ (IsOneOf k ks → ⊥)
among_cases k [] = inr (λ h. h)
among_cases k (j ∷ ks) = elim (node_cases k j) [
  | inl same ↦ inl (inl same)
  | inr other ↦ elim (among_cases k ks) [
    | inl there ↦ inl (inr there)
    | inr none ↦ inr (λ h. elim h [ inl e ↦ other e | inr x ↦ none x ])
  ]
]

pub clear_stays : (old new : Look) (changed : List NodeId) → ((k : NodeId) → (IsOneOf k changed → ⊥) → new k ≡ old k) → (q : NodeId) → ((k : NodeId) → IsOneOf k changed → IsClear old new q k) → StaysUnder old new q
clear_stays old new changed same q clear = record {
  rows = λ k u. elim (among_cases k changed) [ inl c ↦ absurd ((clear k c).before u) | inr c ↦ same k c ];
  no_more = λ k r is off u. elim (among_cases k changed) [ inl c ↦ absurd ((clear k c).after r is u) | inr c ↦ sym (same k c) ∙ is ];
}
