use Rattle.std.proofs.Common.{◌≡◌, ℕ, ◌-◌, List, length, map, drop}
use Rattle.std.specs.Prelude.{reverse}
use Rattle.kb_folder.specs.Chains.{Back, Names, role_in}
use Rattle.kb_folder.specs.Held.{held}
use Rattle.kb_folder.specs.Lands.{FolderStands}
use Rattle.kb_device.proofs.past.read_role.Given as goal

abbrev pub invariant-revisions : goal.invariant-revisions
invariant-revisions g l = (seed : List ℕ) (names : Names) (c : Back) → FolderStands g.S.Sealer.sealed g.S.Sealer.signed g.H.BlockHash.hashed seed names (held l.folder) c
    → map (λ b. b.items) l.lent ≡ reverse (held l.folder).revisions → l.role ≡ role_in (drop (length c - l.i) c) l.d
