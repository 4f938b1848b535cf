-- Row by row and by recursion down the tree.
use Rattle.std.proofs.Common.{◌≡◌, ◌≢◌, ℕ, zero, suc, ◌+◌, ◌<◌, false, Option, Some, ap, sym, subst, ◌∙◌, arith, inl, inr}
use mathlib.Core.Bool.{true≢false}
use Rattle.std.specs.FinMap.{len}
use Rattle.kb_name.specs.declared.ids.NodeId.{NodeId}
use Rattle.kb_name.specs.Nodes.{root}
use Rattle.kb_ops.specs.declared.values.Kind.{Kind}
use Rattle.kb_ops.specs.declared.values.Kind.TheVariants.{Dir, File, Link}
use Rattle.kb_ops.specs.declared.rows.Row.{Row}
use Rattle.kb_ops.specs.Rows.{Look, meets, is_dir_kind}
use Rattle.kb_ops.specs.Trees.{Tree, look, IsWellFormed}
use Rattle.kb_ops.proofs.Nodes.{node_other}
use Rattle.kb_ops.proofs.Walks.{meets_next}
use Rattle.kb_blocks.specs.declared.pointer.Ptr.{Ptr}
use Rattle.kb_files.specs.Files.{Vault, HoldsFile}
use Rattle.kb_snap.specs.Holds.{AreChildren, Holds, HoldsKind}
use Rattle.kb_snap.specs.Holds.Holds.{leaf, dir}
use Rattle.kb_snap.proofs.HeldRows.{some_is, kind_cases}

-- the root is further than so many steps
abbrev IsFar : Look → ℕ → NodeId → Type 0
IsFar l d q = (m : ℕ) → m < d → meets l root m q ≡ false

further : (l : Look) (d : ℕ) (q k : NodeId) (r : Row) → l k ≡ Some r → k ≢ root → r.parent ≡ q → IsFar l d q → IsFar l (suc d) k
further l d q k r is off up far zero lt = node_other k root off
further l d q k r is off up far (suc m) lt = meets_next l root k m r off is ∙ ap (meets l root m) up ∙ far m (omega (arith, lt))

pub file_held : (vault : Vault) (l : Look) (at : NodeId → Option Ptr) (k : Kind) (r : Row) (p : Ptr) → is_dir_kind k ≡ false → HoldsKind vault l at k r p → HoldsFile vault p r.bytes
file_held vault l at Dir r p off_dir h = absurd (true≢false off_dir)
file_held vault l at File r p off_dir h = h
file_held vault l at Link r p off_dir h = h

module _ (vault : Vault) (t : Tree) (w : IsWellFormed t) (at : NodeId → Option Ptr) (each : (q : NodeId) (r : Row) → look t q ≡ Some r → (x : Ptr) × ((at q ≡ Some x) × HoldsKind vault (look t) at r.kind r x)) where
  down : (n d : ℕ) → n + d ≡ suc (len t) → (q : NodeId) → IsFar (look t) d q → (r : Row) (p : Ptr) → look t q ≡ Some r → at q ≡ Some p → Holds vault (look t) q p
  down zero d e q far r p is has = absurd (true≢false (sym (w.reaches q r is) ∙ far (len t) (omega (arith, e))))
  down (suc n) d e q far r p is has =
      let h = each q r is in
      let here = subst (HoldsKind vault (look t) at r.kind r) (some_is h.0 p (sym h.1.0 ∙ has)) h.1.1 in
      elim (kind_cases r.kind) [
        | inl on_dir ↦
            let x = subst (λ k. HoldsKind vault (look t) at k r p) on_dir here in
            let children = subst (λ k. AreChildren (look t) k x.0) (w.keyed q r is) x.1.1.0 in
            let more : n + suc d ≡ suc (len t) = omega (arith, e) in
            dir r is on_dir x.0 x.1.0 children (λ f among.
            let c = children.each f among in
            down n (suc d) more f.id (further (look t) d q f.id c.row c.there c.not_root c.below far) c.row f.ptr c.there (x.1.1.1 f among))
        | inr off_dir ↦ leaf r is off_dir (file_held vault (look t) at r.kind r p off_dir here)
      ]

  -- a row's pointer holds all below it
  pub each_holds : (q : NodeId) (r : Row) (p : Ptr) → look t q ≡ Some r → at q ≡ Some p → Holds vault (look t) q p
  each_holds q r p is has = let e : suc (len t) + 0 ≡ suc (len t) = omega arith in down (suc (len t)) 0 e q (λ m lt. absurd (omega (arith, lt))) r p is has
