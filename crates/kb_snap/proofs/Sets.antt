-- A pointer more that holds a row's bytes.
use Rattle.std.proofs.Common.{◌≡◌, List, ℕ, Some, false, ap, sym, subst, ◌∙◌, inl, inr}
use Rattle.std.specs.FinMap.{get, insert}
use Rattle.kb_name.specs.declared.ids.NodeId.{NodeId}
use Rattle.kb_ops.specs.declared.rows.Row.{Row}
use Rattle.kb_ops.specs.Rows.{Look, is_dir_kind}
use Rattle.kb_ops.proofs.Nodes.{node_cases}
use Rattle.kb_blocks.specs.declared.pointer.Ptr.{Ptr}
use Rattle.kb_files.specs.Files.{Vault, HoldsFile}
use Rattle.kb_files.specs.Opens.{Blocks, Keys, Opens}
use Rattle.kb_files.proofs.Kept.{IsWithin}
use Rattle.kb_snap.specs.Holds.{Holds}
use Rattle.kb_snap.specs.Holds.Holds.{leaf, dir}
use Rattle.kb_snap.specs.Pointers.{Kept, AllHold}
use Rattle.kb_snap.proofs.HeldRows.{no_dir, some_is}
use Rattle.kb_snap.proofs.Kept.{row_within}
use Rattle.kb_snap.proofs.Sealing.{set_here, set_other}

-- a row that is no Dir is held by its bytes
pub bytes_of : (vault : Vault) (look : Look) (q : NodeId) (p : Ptr) (r : Row) → look q ≡ Some r → is_dir_kind r.kind ≡ false → Holds vault look q p → HoldsFile vault p r.bytes
bytes_of vault look q p r is kind (leaf s at k file) = subst (λ (x : Row). HoldsFile vault p x.bytes) (some_is s r (sym at ∙ is)) file
bytes_of vault look q p r is kind (dir s at k es held children below) = absurd (no_dir r.kind (ap (λ (x : Row). x.kind) (sym (some_is s r (sym at ∙ is))) ∙ k) kind)

-- blocks and keys that stay open the same
pub opens_more : (sealed : List ℕ → List ℕ → List ℕ) (hashed : List ℕ → List ℕ) (few more : Blocks) (ring keys : Keys) → ((id bytes : List ℕ) → few id ≡ Some bytes → more id ≡ Some bytes) → ((g : ℕ) (key : List ℕ) → ring g ≡ Some key → keys g ≡ Some key)
    → IsWithin (Opens sealed hashed few ring) (Opens sealed hashed more keys)
opens_more sealed hashed few more ring keys stays known p text x = record { key = x.key; known = known p.generation x.key x.known; stored = stays p.id _ x.stored; hash = x.hash }

pub set_holds : (old new : Vault) → IsWithin old new → (look : Look) (left : Kept) (q : NodeId) (p : Ptr) (r : Row) → AllHold old look left → look q ≡ Some r → is_dir_kind r.kind ≡ false → HoldsFile new p r.bytes → AllHold new look (insert left q p)
set_holds old new within look left q p r all is kind file k x at = elim (node_cases k q) as (λ _. Holds new look k x) [
  | inl same ↦
      let here : x ≡ p = some_is x p (sym at ∙ ap (get (insert left q p)) same ∙ set_here left q p) in
      subst (λ (n : NodeId). Holds new look n x) (sym same) (leaf r is kind (subst (λ (y : Ptr). HoldsFile new y r.bytes) (sym here) file))
  | inr other ↦ row_within old new within look k x (all k x (sym (set_other left q p k other) ∙ at))
]
