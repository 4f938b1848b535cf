use Rattle.std.proofs.Common.{◌≡◌, ℕ, ◌+◌, ◌≤◌, List, length, map, drop, Option}
use Rattle.std.specs.Prelude.{reverse}
use Rattle.kb_folder.specs.Chains.{Back, Names}
use Rattle.kb_folder.specs.Held.{held}
use Rattle.kb_folder.specs.Lands.{FolderStands}
use Rattle.kb_device.specs.declared.past.Own.{Own}
use Rattle.kb_device.specs.Past.{IsFirstOwn}
use Rattle.kb_device.proofs.past.find_own.Given as goal

abbrev pub invariant-revisions : goal.invariant-revisions
invariant-revisions g l = (seed : List ℕ) (names : Names) (known : ℕ) (c : Back) → FolderStands g.S.Sealer.sealed g.S.Sealer.signed g.H.BlockHash.hashed seed names (held l.folder) c → known ≤ length c
    → map (λ b. b.items) l.lent ≡ drop known (reverse (held l.folder).revisions) → (own : Option Own) → IsFirstOwn l.d (known + l.bytes-index) (drop (known + l.bytes-index) (reverse c)) own → IsFirstOwn l.d known (drop known (reverse c)) own
