-- What the audit's facts are worth.
use Rattle.std.specs.Prelude.{◌≡◌, ◌⊎◌, ℕ, ◌≤◌, true, List, ◌∷◌, length, Result, Ok, Err}
use Rattle.kb_keys.specs.declared.halves.Half.{Half}
use Rattle.kb_name.specs.Names.{is_device_name}
use Rattle.kb_ops.specs.Trees.{Tree}
use Rattle.kb_blocks.specs.declared.pointer.Ptr.{Ptr}
use Rattle.kb_files.specs.Opens.{Blocks, Keys, Opens, Reads}
use Rattle.kb_files.specs.declared.loading.LoadFault.{LoadFault}
use Rattle.kb_files.specs.declared.loading.LoadFault.TheVariants as load
use Rattle.kb_snap.specs.Holds.{HoldsTree}
use Rattle.kb_folder.specs.Chains.{Plain, Back, Names, Follows}
use Rattle.kb_folder.specs.Stands.{Revisions, Stands, IsWritten}
use Rattle.kb_folder.specs.Reading.{IsChain}
use Rattle.kb_audit.specs.declared.faults.AuditFault.{AuditFault}
use Rattle.kb_audit.specs.declared.faults.AuditFault.TheVariants.{Memory}
use Rattle.kb_audit.specs.Facts.{IsGood, told_by}
use Rattle.kb_audit.specs.Audits.{IsWhole, Audits}

-- the registered devices are declared under names
abbrev pub AreNamed : Names → ℕ → Type 0
AreNamed names registered = (d : ℕ) → 1 ≤ d → d ≤ registered → is_device_name (names d) ≡ true

module _ (sealed signed : List ℕ → List ℕ → List ℕ) (hashed : List ℕ → List ℕ) where
  -- Behind revisions that stand for a chain the facts hold of a revision's bytes where these stand for one revision more,
  abbrev pub StandingIsGood : Type 0
  StandingIsGood = (seed : List ℕ) (names : Names) (registered : ℕ) (blocks : Blocks) (bs : Revisions) (c : Back) (b : List ℕ) (x : Plain) → registered ≤ 32 → Stands sealed signed hashed seed names registered blocks (b ∷ bs) (x ∷ c) → IsGood sealed signed hashed seed names registered blocks bs c b

  -- and only there.
  abbrev pub GoodIsStanding : Type 0
  GoodIsStanding = (seed : List ℕ) (names : Names) (registered : ℕ) (blocks : Blocks) (bs : Revisions) (c : Back) (b : List ℕ) → AreNamed names registered → Stands sealed signed hashed seed names registered blocks bs c
      → (g : IsGood sealed signed hashed seed names registered blocks bs c b) → Stands sealed signed hashed seed names registered blocks (b ∷ bs) (told_by sealed signed hashed seed names registered blocks bs c b g ∷ c)

  -- An audit of revisions that stand for a chain, with its halves, says so, but for want of memory.
  abbrev pub WholeIsTold : Type 0
  WholeIsTold = (seed : List ℕ) (names : Names) (registered : ℕ) (blocks : Blocks) (all : List (List ℕ)) (halves : List Half) (result : Result ℕ AuditFault) → registered ≤ 32 → IsWhole sealed signed hashed seed names registered blocks all halves
      → Audits sealed signed hashed seed names registered blocks all halves result → (result ≡ Ok (length all)) ⊎ (result ≡ Err Memory)

-- Loading is exact: what tells of a tree by the clause of a loading tells of the one that the pointer holds, wherever it holds one, but for want of memory.
abbrev pub LoadsWhatIsHeld : (List ℕ → List ℕ → List ℕ) → (List ℕ → List ℕ) → Type 0
LoadsWhatIsHeld sealed hashed = (blocks : Blocks) (keys : Keys) (p : Ptr) (mtime : ℕ) (r : Result Tree LoadFault) → Reads blocks (λ t. t) (HoldsTree (Opens sealed hashed blocks keys) p mtime) r → (t : Tree) → HoldsTree (Opens sealed hashed blocks keys) p mtime t
    → (r ≡ Err load.Memory) ⊎ (r ≡ Ok t)
