-- Which pointers a write leaves, and what is known of the file that it wrote.
use Rattle.std.proofs.Common.{◌≡◌, ◌≢◌, ◌⊎◌, ℕ, zero, suc, true, false, Bool, cond, Option, Some, None, IsSome, is_some, inl, inr, refl, sym, ap, subst, ◌∙◌}
use Rattle.std.specs.Option.{option_map_or}
use Rattle.std.specs.FinMap.{get, insert, len}
use Rattle.kb_name.specs.declared.ids.NodeId.{NodeId}
use Rattle.kb_ops.specs.declared.rows.Row.{Row}
use Rattle.kb_ops.specs.declared.rows.Op.{Op}
use Rattle.kb_ops.specs.declared.rows.Change.{Change}
use Rattle.kb_ops.specs.declared.rows.Change.TheVariants.{Create, Remove, Rename, Sync, Exec, Touch}
use Rattle.kb_ops.specs.Rows.{meets}
use Rattle.kb_ops.specs.Trees.{Tree, look, edit, patched, apply, apply_change, Fits, FitsChange}
use Rattle.kb_ops.specs.Plan.{is_below}
use Rattle.kb_ops.proofs.Nodes.{node_cases}
use Rattle.kb_ops.proofs.Walks.{meets_here, meets_step, meets_from, row_cases, never_meets}
use Rattle.kb_ops.proofs.Looks.{look-insert, map_most}
use Rattle.kb_ops.proofs.TreeKept.{there, file_at}
use Rattle.kb_blocks.specs.declared.pointer.Ptr.{Ptr}
use Rattle.kb_snap.specs.Pointers.{Kept}
use Rattle.kb_device.specs.Left.{left_from, left_of, AllButAbove, PointsAll, KeepsBeside}
use Rattle.kb_device.specs.Patching.{WasAt, HasSize, FindsOld}
use Rattle.kb_device.specs.Inside.{PointsBeside, HasDone}
use Rattle.kb_device.specs.declared.patching.OldFile.{OldFile}

-- ---- walks over an edited tree

-- each row stays, under the parent that it had
abbrev ParentsStay : Tree → Tree → Type 0
ParentsStay t u = (q : NodeId) (r : Row) → look t q ≡ Some r → (s : Row) × (look u q ≡ Some s) × (s.parent ≡ r.parent)

walk_stays : (t u : Tree) → ParentsStay t u → (goal : NodeId) (n : ℕ) (q : NodeId) → meets (look t) goal n q ≡ true → meets (look u) goal n q ≡ true
walk_stays t u stay goal zero q h = h
walk_stays t u stay goal (suc n) q h = elim (node_cases q goal) [
  | inl e ↦ subst (λ x. meets (look u) goal (suc n) x ≡ true) (sym e) (meets_here (look u) goal (suc n))
  | inr off ↦
      let w = meets_from (look t) goal q n off h in
      let s = stay q w.0 w.1 in
      meets_step (look u) goal q n s.0 s.1 (subst (λ x. meets (look u) goal n x ≡ true) (sym s.2) (walk_stays t u stay goal n w.0.parent w.2))
]

edited_to : (t : Tree) (node : NodeId) (f : Row → Row) (r : Row) → look t node ≡ Some r → edit t node f ≡ insert t node (f r)
edited_to t node f r is = ap (λ (o : Option Row). option_map_or (λ x. insert t node (f x)) o t) is

edit_stays : (t : Tree) (node : NodeId) (f : Row → Row) (was : Row) → look t node ≡ Some was → (f was).parent ≡ was.parent → ParentsStay t (edit t node f)
edit_stays t node f was is parent q r h = subst (λ (u : Tree). (s : Row) × (look u q ≡ Some s) × (s.parent ≡ r.parent)) (sym (edited_to t node f was is)) (elim (node_cases q node) [
  | inl e ↦
      let same : was ≡ r = (let x : Some was ≡ Some r = sym is ∙ sym (ap (look t) e) ∙ h in cc) in
      (f was, ap (look (insert t node (f was))) e ∙ (look-insert t node (f was)).here, parent ∙ ap (λ (x : Row). x.parent) same)
  | inr off ↦ (r, (look-insert t node (f was)).others q off ∙ h, refl)
])

not_both : (b : Bool) → b ≡ false → b ≡ true → ⊥
not_both b e h = let bad : false ≡ true = sym e ∙ h in cc

-- a row that isn't above the node in the edited tree wasn't above it
beside_before : (t u : Tree) → ParentsStay t u → (q node : NodeId) → is_below u q node ≡ false → is_below t q node ≡ false
beside_before t u stay q node off = elim (is_below t q node) as (λ b. is_below t q node ≡ b → b ≡ false) [
  | true ↦ λ e. absurd (not_both (meets (look u) q (len t) node) (never_meets (len u) (look u) (map_most (len u) u refl) q node off (len t)) (walk_stays t u stay q (len t) node e))
  | false ↦ λ e. refl
] refl

-- ---- the pointers

pub leaves_beside : (t : Tree) (id : NodeId) (moment : ℕ) (change : Change) (kept left : Kept) → FitsChange id moment change t → ((q : NodeId) → get left q ≡ left_of t change q (get kept q)) → KeepsBeside (apply_change id moment change t) change kept left
leaves_beside t id moment (Create parent name kind bytes) kept left fits leaves = tt
leaves_beside t id moment (Remove node) kept left fits leaves = tt
leaves_beside t id moment (Rename node parent name replaced) kept left fits leaves = tt
leaves_beside t id moment (Exec node on) kept left fits leaves = tt
leaves_beside t id moment (Touch node mtime) kept left fits leaves = tt
leaves_beside t id moment (Sync node offset bytes size) kept left fits leaves = λ q off.
    let f : Row → Row = λ r. record r { bytes = patched r.bytes offset bytes size; mtime = moment } in
    let file = file_at t node fits.0 in
    let stay : ParentsStay t (edit t node f) = edit_stays t node f file.0 file.1 refl in
    let before : is_below t q node ≡ false = beside_before t (edit t node f) stay q node off in
    leaves q ∙ ap (λ b. cond b None (get kept q)) before

pub beside_twice : (t : Tree) (change : Change) (kept left new : Kept) → KeepsBeside t change kept left → KeepsBeside t change left new → KeepsBeside t change kept new
beside_twice t (Create parent name kind bytes) kept left new one two = tt
beside_twice t (Remove node) kept left new one two = tt
beside_twice t (Rename node parent name replaced) kept left new one two = tt
beside_twice t (Sync node offset bytes size) kept left new one two = λ q off. two q off ∙ one q off
beside_twice t (Exec node on) kept left new one two = tt
beside_twice t (Touch node mtime) kept left new one two = tt

-- a row beside the walk whose pointer is missing had none before
beside_all : (t : Tree) (node : NodeId) (kept left : Kept) → ((q : NodeId) → is_below t q node ≡ false → get left q ≡ get kept q) → ((q : NodeId) (r : Row) → look t q ≡ Some r → get kept q ≡ None → is_below t q node ≡ true) → AllButAbove t node left
beside_all t node kept left beside all q r there none = elim (is_below t q node) as (λ b. is_below t q node ≡ b → b ≡ true) [
  | true ↦ λ e. refl
  | false ↦ λ e. sym e ∙ all q r there (sym (beside q e) ∙ none)
] refl

some_at : (o : Option Row) (r : Row) → o ≡ Some r → is_some o ≡ true
some_at o r e = ap is_some e

-- in the table before the write each row of the table after it was there
were_there : (t : Tree) (node : NodeId) (f : Row → Row) (was : Row) → look t node ≡ Some was → (q : NodeId) (r : Row) → look (edit t node f) q ≡ Some r → is_some (look t q) ≡ true
were_there t node f was is q r h = elim (node_cases q node) [
  | inl e ↦ some_at (look t q) was (ap (look t) e ∙ is)
  | inr off ↦ some_at (look t q) r (sym ((look-insert t node (f was)).others q off) ∙ subst (λ (u : Tree). look u q ≡ Some r) (edited_to t node f was is) h)
]

no_pointer : (o : Option Ptr) (p : Option Row) → is_some o ≡ is_some p → o ≡ None → is_some p ≡ true → ⊥
no_pointer o p same none some = let bad : false ≡ true = sym (ap is_some none) ∙ same ∙ some in cc

pub done_beside : (op : Op) (ahead ahead' : ℕ) (base base' : Tree) (kept left : Kept) (written written' : Option OldFile) → HasDone op ahead ahead' base base' kept left written written' → (ahead ≡ 0 → PointsAll base kept)
    → (ahead ≡ 1 → PointsBeside base op.change kept written) → PointsBeside base' op.change left written'
done_beside op ahead ahead' base base' kept left written written' d all was = by op.change d.does d.beside d.finds was where
  by : (change : Change)
      → ((ahead ≡ 1) × (base' ≡ base) × ((q : NodeId) (p : Ptr) → get left q ≡ Some p → get kept q ≡ Some p) × (written' ≡ written))
      ⊎ ((ahead ≡ 0) × FitsChange (record { device = op.device; seq = op.seq; part = 0 }) op.moment change base × (base' ≡ apply_change (record { device = op.device; seq = op.seq; part = 0 }) op.moment change base) × ((q : NodeId) (p : Ptr) → get left q ≡ Some p → left_of base change q (get kept q) ≡ Some p) × ((old : OldFile) → written' ≡ Some old → WasAt base kept change old))
      → KeepsBeside base' change kept left → (ahead ≡ 0 → FindsOld base kept change written') → (ahead ≡ 1 → PointsBeside base change kept written) → PointsBeside base' change left written'
  by (Create parent name kind bytes) does beside finds before = tt
  by (Remove node) does beside finds before = tt
  by (Rename node parent name replaced) does beside finds before = tt
  by (Exec node on) does beside finds before = tt
  by (Touch node mtime) does beside finds before = tt
  by (Sync node offset bytes size) (inl (one, same, stay, still)) beside finds before =
      let old = before one in (
        beside_all base' node kept left beside (subst (λ (t : Tree). AllButAbove t node kept) (sym same) old.0),
        subst (λ (o : Option OldFile). IsSome o) (sym still) old.1,
      )
  by (Sync node offset bytes size) (inr (none, fits, does, leaves, at)) beside finds before =
      let f : Row → Row = λ r. record r { bytes = patched r.bytes offset bytes size; mtime = op.moment } in
      let file = file_at base node fits.0 in
      let pointed : is_some (get kept node) ≡ true = all none node ∙ some_at (look base node) file.0 file.1 in (
        beside_all base' node kept left beside (λ q r there empty. absurd (no_pointer (get kept q) (look base q) (all none q) empty (were_there base node f file.0 file.1 q r (subst (λ (t : Tree). look t q ≡ Some r) does there)))),
        finds none (some_at (look base node) file.0 file.1) pointed,
      )

-- ---- the size of the old file

size_at : (t : Tree) (kept : Kept) (change : Change) (old : OldFile) → WasAt t kept change old → HasSize t change old
size_at t kept (Create parent name kind bytes) old at = tt
size_at t kept (Remove node) old at = tt
size_at t kept (Rename node parent name replaced) old at = tt
size_at t kept (Sync node offset bytes size) old at = (at.row, (at.there, at.sized))
size_at t kept (Exec node on) old at = tt
size_at t kept (Touch node mtime) old at = tt

pub done_sized : (op : Op) (known : Tree) (ahead ahead' : ℕ) (base base' : Tree) (kept left : Kept) (written written' : Option OldFile) → HasDone op ahead ahead' base base' kept left written written' → (ahead ≡ 0 → base ≡ known)
    → ((was : OldFile) → ahead ≡ 1 → written ≡ Some was → HasSize known op.change was) → (old : OldFile) → written' ≡ Some old → HasSize known op.change old
done_sized op known ahead ahead' base base' kept left written written' d same was old is = elim d.does [
  | inl (one, stay, of_kept, still) ↦ was old one (sym still ∙ is)
  | inr (none, fits, does, leaves, at) ↦ subst (λ (t : Tree). HasSize t op.change old) (same none) (size_at base kept op.change old (at old is))
]
