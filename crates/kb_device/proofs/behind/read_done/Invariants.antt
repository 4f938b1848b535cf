use Rattle.std.proofs.Common.{◌≡◌, ℕ, ◌+◌, ◌≤◌, List, length, map, drop}
use Rattle.std.specs.Prelude.{reverse}
use Rattle.kb_folder.specs.Chains.{Back, Names, generation_in}
use Rattle.kb_folder.specs.Held.{held}
use Rattle.kb_folder.specs.Lands.{FolderStands}
use Rattle.kb_device.specs.Stands.{RingStands}
use Rattle.kb_device.proofs.MergedOps.{AreRead}
use Rattle.kb_device.proofs.behind.read_done.Given as goal

abbrev pub invariant-revisions : goal.invariant-revisions
invariant-revisions g l = (seed : List ℕ) (names : Names) (known : ℕ) (c : Back) → FolderStands g.S.Sealer.sealed g.S.Sealer.signed g.H.BlockHash.hashed seed names (held l.folder) c → RingStands seed (generation_in c) l.ring → known ≤ length c
    → map (λ b. b.items) l.lent ≡ drop known (reverse (held l.folder).revisions) → AreRead l.done.ops.items l.done.plain (drop (known + l.bytes-index) (reverse c)) (drop known (reverse c))
