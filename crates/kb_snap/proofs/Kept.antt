-- More blocks keep what a pointer holds.
use Rattle.kb_name.specs.declared.ids.NodeId.{NodeId}
use Rattle.kb_ops.specs.Rows.{Look}
use Rattle.kb_blocks.specs.declared.pointer.Ptr.{Ptr}
use Rattle.kb_files.specs.Files.{Vault, HoldsFile, level_of}
use Rattle.kb_files.proofs.Kept.{IsWithin, holds_kept}
use Rattle.std.specs.Prelude.{length}
use Rattle.kb_snap.specs.Holds.{Holds}
use Rattle.kb_snap.specs.Holds.Holds.{leaf, dir}

module _ (few more : Vault) (within : IsWithin few more) where
  pub file_within : IsWithin (HoldsFile few) (HoldsFile more)
  file_within p bytes h = record { small = h.small; held = holds_kept few more within (level_of (length bytes)) p bytes h.held }

  pub row_within : (l : Look) (q : NodeId) (p : Ptr) → Holds few l q p → Holds more l q p
  row_within l q p (leaf r is kind file) = leaf r is kind (file_within p r.bytes file)
  row_within l q p (dir r is kind es held children below) = dir r is kind es (held.0, within p _ held.1) children (λ e at. row_within l e.id e.ptr (below e at))
