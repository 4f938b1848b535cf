-- A pointer holds one tree with a given root.
use Rattle.std.proofs.Common.{◌≡◌, ◌≢◌, ℕ, zero, suc, true, false, [], length, Some, refl, ap, sym, subst, ◌∙◌, inl, inr}
use Rattle.std.specs.FinMap.{len}
use Rattle.kb_name.specs.declared.ids.NodeId.{NodeId}
use Rattle.kb_name.specs.Nodes.{root}
use Rattle.kb_ops.specs.declared.values.Kind.TheVariants.{Dir, File}
use Rattle.kb_ops.specs.declared.rows.Row.{Row}
use Rattle.kb_ops.specs.Rows.{Look, meets, is_dir_row, is_dir_kind}
use Rattle.kb_ops.specs.Trees.{Tree, look, IsWellFormed}
use Rattle.kb_ops.proofs.Kept.{dir_at, some_and}
use Rattle.kb_ops.proofs.Looks.{same_tree}
use Rattle.kb_ops.proofs.Nodes.{node_is, node_cases}
use Rattle.kb_ops.proofs.Walks.{meets_from, row_cases}
use Rattle.kb_blocks.specs.declared.pointer.Ptr.{Ptr}
use Rattle.kb_files.specs.Files.{Vault}
use Rattle.kb_files.proofs.ReadParts.{IsSingle}
use Rattle.kb_dirs.proofs.Once.{one_dir}
use Rattle.kb_snap.specs.Holds.{IsOneOf, IsEntryOf, Holds, HoldsTree}
use Rattle.kb_snap.proofs.HeldRows.{some_is, kind_cases, dir_kind, as_file, as_dir, file_same, same_row, entry_row}

-- the bytes of a row of one entry, in two trees that its pointer holds
bytes_same : (vault : Vault) → IsSingle vault → (l m : Look) (q : NodeId) (p : Ptr) (r s : Row) → l q ≡ Some r → m q ≡ Some s → r.kind ≡ s.kind → length r.bytes ≡ length s.bytes
    → (r.kind ≡ Dir → r.bytes ≡ []) → (s.kind ≡ Dir → s.bytes ≡ []) → Holds vault l q p → Holds vault m q p → r.bytes ≡ s.bytes
bytes_same vault one l m q p r s a b kind size x y h i = elim (kind_cases r.kind) [
  | inl on_dir ↦ x on_dir ∙ sym (y (sym kind ∙ on_dir))
  | inr off_dir ↦ file_same vault one p r.bytes s.bytes size (as_file vault l q p h r a off_dir) (as_file vault m q p i s b (subst (λ k. is_dir_kind k ≡ false) kind off_dir))
]

-- the roots of well formed trees are alike but for their mtime
root_same : (s t : Tree) → IsWellFormed s → IsWellFormed t → (m : ℕ) → ((r : Row) → look s root ≡ Some r → r.mtime ≡ m) → ((r : Row) → look t root ≡ Some r → r.mtime ≡ m) → look s root ≡ look t root
root_same s t ws wt m ms mt =
    let a = some_and _ (look s root) ws.rooted in
    let b = some_and _ (look t root) wt.rooted in
    let pa = ws.plain root a.0 a.1 in
    let pb = wt.plain root b.0 b.1 in
    a.1 ∙ ap (λ (r : Row). Some r) (same_row a.0 b.0 (ws.keyed root a.0 a.1 ∙ sym (wt.keyed root b.0 b.1)) (a.2.1 ∙ sym b.2.1) (a.2.2 ∙ sym b.2.2) (a.2.0 ∙ sym b.2.0)
    (pa.no_bytes a.2.0 ∙ sym (pb.no_bytes b.2.0)) (pa.no_exec (λ e. let k : Dir ≡ File = sym a.2.0 ∙ e in cc) ∙ sym (pb.no_exec (λ e. let k : Dir ≡ File = sym b.2.0 ∙ e in cc))) (ms a.0 a.1 ∙ sym (mt b.0 b.1)))
    ∙ sym b.1

module _ (vault : Vault) (one : IsSingle vault) (p : Ptr) (s t : Tree) (ws : IsWellFormed s) (wt : IsWellFormed t) (tops : look s root ≡ look t root) (hs : Holds vault (look s) root p) (ht : Holds vault (look t) root p) where
  Agrees : NodeId → Row → Type 0
  Agrees q r = (look t q ≡ Some r) × ((x : Ptr) × (Holds vault (look s) q x × Holds vault (look t) q x))

  at_root : (q : NodeId) (r : Row) → look s q ≡ Some r → q ≡ root → Agrees q r
  unfolding Agrees
  at_root q r is top = (ap (look t) top ∙ sym tops ∙ ap (look s) (sym top) ∙ is, (p, (subst (λ k. Holds vault (look s) k p) (sym top) hs, subst (λ k. Holds vault (look t) k p) (sym top) ht)))

  below_same : (q : NodeId) (r : Row) → look s q ≡ Some r → q ≢ root → (pr : Row) → look s r.parent ≡ Some pr → is_dir_row pr ≡ true → Agrees r.parent pr → Agrees q r
  unfolding Agrees
  below_same q r is off pr above isdir agrees =
      let x = agrees.1.0 in
      let d = dir_kind pr.kind isdir in
      let a = as_dir vault (look s) r.parent x agrees.1.1.0 pr above d in
      let b = as_dir vault (look t) r.parent x agrees.1.1.1 pr agrees.0 d in
      let es : b.es ≡ a.es = one_dir vault one x b.es a.es b.held a.held in
      let found = a.children.all q r is off refl in
      let e = found.0 in
      let there : IsOneOf e b.es = subst (IsOneOf e) (sym es) found.1.0 in
      let mine = a.children.each e found.1.0 in
      let theirs = b.children.each e there in
      let own : mine.row ≡ r = some_is mine.row r (sym mine.there ∙ ap (look s) found.1.1 ∙ is) in
      let fields : IsEntryOf e r = subst (IsEntryOf e) own mine.fields in
      let here : look t q ≡ Some theirs.row = ap (look t) (sym found.1.1) ∙ theirs.there in
      let held_s = subst (λ k. Holds vault (look s) k e.ptr) found.1.1 (a.below e found.1.0) in
      let held_t = subst (λ k. Holds vault (look t) k e.ptr) found.1.1 (b.below e there) in
      let bytes : theirs.row.bytes ≡ r.bytes = bytes_same vault one (look t) (look s) q e.ptr theirs.row r here is (sym theirs.fields.kind ∙ fields.kind) (sym theirs.fields.size ∙ fields.size)
      (wt.plain q theirs.row here).no_bytes (ws.plain q r is).no_bytes held_t held_s in
      (here ∙ ap (λ (y : Row). Some y) (entry_row e theirs.row r theirs.fields fields theirs.below bytes), (e.ptr, (held_s, held_t)))

  within_same : (n : ℕ) (q : NodeId) (r : Row) → look s q ≡ Some r → meets (look s) root n q ≡ true → Agrees q r
  within_same zero q r is h = at_root q r is (node_is q root h)
  within_same (suc n) q r is h = elim (node_cases q root) [
    | inl top ↦ at_root q r is top
    | inr off ↦
        let step = meets_from (look s) root q n off h in
        let own : step.0 ≡ r = some_is step.0 r (sym step.1 ∙ is) in
        let near : meets (look s) root n r.parent ≡ true = ap (λ (w : Row). meets (look s) root n w.parent) (sym own) ∙ step.2 in
        let above = dir_at (look s) r.parent (ws.parents q r is off) in
        below_same q r is off above.0 above.1 above.2 (within_same n r.parent above.0 above.1 near)
  ]

  pub all_same : (q : NodeId) (r : Row) → look s q ≡ Some r → look t q ≡ Some r
  unfolding Agrees
  all_same q r is = (within_same (len s) q r is (ws.reaches q r is)).0

pub tree_same : (vault : Vault) → IsSingle vault → (p : Ptr) (m : ℕ) (s t : Tree) → HoldsTree vault p m s → HoldsTree vault p m t → s ≡ t
tree_same vault one p m s t x y =
    let tops = root_same s t x.formed y.formed m x.timed y.timed in
    same_tree s t (λ q. elim (row_cases (look s) q) [
      | inl here ↦ here.1 ∙ sym (all_same vault one p s t x.formed y.formed tops x.held y.held q here.0 here.1)
      | inr none ↦ elim (row_cases (look t) q) [
        | inl there ↦ all_same vault one p t s y.formed x.formed (sym tops) y.held x.held q there.0 there.1 ∙ sym there.1
        | inr neither ↦ none ∙ sym neither
      ]
    ])
