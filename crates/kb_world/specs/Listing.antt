-- What the lines of a chain are read from.
use Rattle.std.specs.Prelude.{◌≡◌, ℕ, ◌+◌, ◌≤◌, List, length, Option, Some, None, slice_get}
use Rattle.kb_edge.specs.declared.disk.Disk.{Ghosts}
use Rattle.kb_seal.specs.declared.sealer.Sealer.{Ghosts as Seals}
use Rattle.kb_blocks.specs.declared.hashing.BlockHash.{Ghosts as Hashes}
use Rattle.kb_keys.specs.declared.policy.Action.{Action}
use Rattle.kb_keys.specs.declared.policy.Action.TheVariants as action
use Rattle.kb_chain.specs.declared.bundles.BundlePart.{BundlePart}
use Rattle.kb_chain.specs.declared.revisions.Revision.{Revision}
use Rattle.kb_chain.specs.declared.revisions.RevisionKind.{RevisionKind}
use Rattle.kb_chain.specs.declared.revisions.RevisionKind.TheVariants as kind
use Rattle.kb_chain.specs.Revisions.{revision_text, IsRevision}
use Rattle.kb_lines.specs.declared.lines.Did.{Did}
use Rattle.kb_lines.specs.declared.lines.Did.TheVariants as did
use Rattle.kb_snap.specs.Chains as plain
use Rattle.kb_snap.specs.Chains.{Chain}
use Rattle.kb_snap.specs.Members.{IsNamed}
use Rattle.kb_folder.specs.Chains.{Names}
use Rattle.kb_world.specs.declared.declared.Declared.{Declared}

module _ {D S H : Type 0} {disks : Ghosts D} {sealers : Seals S} {hashes : Hashes H} where
  -- the devices have these names
  abbrev pub AreNamed : Names → List (Declared D S H disks sealers hashes) → Type 0
  AreNamed names devices = (i : ℕ) (x : Declared D S H disks sealers hashes) → slice_get devices i ≡ Some x → x.name ≡ names (i + 1)

-- one of so many devices
abbrev pub IsWithin : ℕ → ℕ → Type 0
IsWithin n d = (1 ≤ d) × (d ≤ n)

-- who is spoken of is one of them
abbrev pub IsSpokenOf : ℕ → RevisionKind → Option BundlePart → Type 0
IsSpokenOf n kind.Rekey (Some p) = IsWithin n p.device
IsSpokenOf n kind.Rekey None = ⊥
IsSpokenOf n k bundle = Unit {0}

-- and so is its writer
abbrev pub HasNames : ℕ → Revision → Type 0
HasNames n r = IsWithin n r.writer × IsSpokenOf n r.kind r.bundle

-- what a change of members is shown as
abbrev pub rekey_did : List ℕ → List ℕ → Action → Did
rekey_did by who action.Found = did.GrantWriter by who
rekey_did by who action.GrantWriter = did.GrantWriter by who
rekey_did by who action.GrantReader = did.GrantReader by who
rekey_did by who action.Revoke = did.Revoke by who

abbrev pub bundle_did : Names → ℕ → Option BundlePart → Did
bundle_did names by None = did.Found (names by)
bundle_did names by (Some p) = rekey_did (names by) (names p.device) p.action

abbrev pub kind_did : Names → Revision → RevisionKind → Did
kind_did names r kind.Found = did.Found (names r.writer)
kind_did names r kind.Step = did.Step (names r.writer) r.last
kind_did names r kind.Steps = did.Step (names r.writer) r.last
kind_did names r kind.Merge = did.Merge (names r.writer) r.first r.last
kind_did names r kind.Join = did.Merge (names r.writer) r.first r.last
kind_did names r kind.Rekey = bundle_did names r.writer r.bundle

-- what a revision is shown as
abbrev pub revision_did : Names → Revision → Did
revision_did names r = kind_did names r r.kind

-- the bytes spell a revision with such names
pub record IsSpelled (n : ℕ) (bytes : List ℕ) : Type 0 where
  pub revision : Revision
  pub is : IsRevision revision
  pub spelled : bytes ≡ revision_text revision
  pub named : HasNames n revision

-- who wrote the revisions, and whose role they change, is one of so many devices
abbrev pub AreDeclaredBy : ℕ → Chain → Type 0
AreDeclaredBy n c = (i : ℕ) (x : plain.Revision) → slice_get c i ≡ Some x → IsWithin n x.writer × IsNamed n x.deed
