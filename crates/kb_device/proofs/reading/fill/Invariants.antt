use Rattle.std.proofs.Common.{◌≡◌, ℕ, ◌+◌, ◌-◌, ◌≤◌, List, length, map, drop}
use Rattle.std.specs.Prelude.{reverse}
use Rattle.kb_folder.specs.Chains.{Back, Names}
use Rattle.kb_folder.specs.Held.{held}
use Rattle.kb_folder.specs.Lands.{FolderStands}
use Rattle.kb_folder.specs.Reading.{places_behind}
use Rattle.kb_device.specs.Filling.{IsServed, HasKeysOf}
use Rattle.kb_device.proofs.reading.fill.Given as goal

abbrev pub invariant-revisions : goal.invariant-revisions
invariant-revisions g l = (seed : List ℕ) (names : Names) (known : ℕ) (c : Back) → IsServed seed (held l.folder) l.d l.secret l.most → FolderStands g.S.Sealer.sealed g.S.Sealer.signed g.H.BlockHash.hashed seed names (held l.folder) c → known ≤ length c
    → map (λ b. b.items) l.lent ≡ drop known (reverse (held l.folder).revisions) → HasKeysOf seed l.d l.most (places_behind known (drop (length c - (known + l.bytes-index)) c)) l.initial.ring l.ring
