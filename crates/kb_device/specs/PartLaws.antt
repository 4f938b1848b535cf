-- What holds of a device's part and of its journals.
use Rattle.std.specs.Prelude.{◌≡◌, ℕ, ◌≤◌, false, List, [], ◌∷◌, ◌++◌, drop, All, Contains, Some}
use Rattle.kb_ops.specs.declared.rows.Op.{Op}
use Rattle.kb_ops.specs.Grammar.{IsProper}
use Rattle.kb_snap.specs.Chains.{Revision, Chain, ops_by, ops_of, own_count}
use Rattle.kb_journal.specs.State.{State as Disk, use_of, done, last_seq as last_of}
use Rattle.kb_journal.specs.declared.entries.Entry.TheVariants as entry
use Rattle.kb_snap.specs.Lawful.{IsLawful}
use Rattle.kb_device.specs.Journals.{Journal, plain, last_seq, queued, taken, branched, returned}
use Rattle.kb_device.specs.Parts.{Part, last_acknowledged}
use Rattle.kb_device.specs.Meets.{Meets, held, PartMeets, Acknowledges}
use Rattle.kb_device.specs.Owned.{Owns, IsOwned}
use Rattle.kb_device.specs.Foreign.{IsForeign}

-- what a device knows of its chain survives a revision without its operations
abbrev pub OthersKeep : Type 0
OthersKeep = (d : ℕ) (c : Chain) (x : Revision) (p : Part) → ops_by d x ≡ [] → PartMeets d c p → PartMeets d (c ++ x ∷ []) p

-- of the revisions beyond the known one at most one is the device's, and it holds all operations of the device in the
-- chain with seqs above the base of the journal
pub record HasOneBeyond (d : ℕ) (c : Chain) (j : Journal) : Type 0 where
  pub one : own_count d (drop j.known c) ≤ 1
  pub ops : ops_of d (drop j.known c) ≡ drop j.base (ops_of d c)

-- the operations of each journal that an opening may find can be spelled, and with them it fits an area of the disk
pub record IsSpelled (area : ℕ) (j : Journal) : Type 0 where
  pub proper : All IsProper j.queue
  pub fits : use_of j.queue ≤ area

-- what the shelf keeps goes no further than what was acknowledged
abbrev pub KeptIsOld : Type 0
KeptIsOld = (d : ℕ) (c : Chain) (p : Part) (kept : Journal) → IsLawful c → PartMeets d c p → Acknowledges d c p → p.shelved ≡ Some kept → last_seq kept ≤ last_acknowledged p

-- and where it goes as far, the state that a restore makes of it meets the chain as one that an opening may find, and holds
-- all that was acknowledged and nothing else, once each and in order in the chain and then in the journal
pub record ReturnMeets (d : ℕ) (c : Chain) (p : Part) (kept : Journal) : Type 0 where
  pub meets : Meets d c (returned d c kept)
  pub held : held d c (returned d c kept) ≡ p.acknowledged
  pub owns : Owns (ops_of d c) p.acknowledged (returned d c kept)

abbrev pub KeptReturns : Type 0
KeptReturns = (d : ℕ) (c : Chain) (p : Part) (kept : Journal) → IsLawful c → PartMeets d c p → Acknowledges d c p → p.shelved ≡ Some kept → last_acknowledged p ≤ last_seq kept → ReturnMeets d c p kept

-- each acknowledged operation stands once and in order in the chain and then in each journal that an opening may find
abbrev pub PartIsOwned : Type 0
PartIsOwned = (d : ℕ) (c : Chain) (p : Part) → IsLawful c → PartMeets d c p → Acknowledges d c p → IsOwned d c p

-- no journal that an opening may find is foreign
abbrev pub FindsNoneForeign : Type 0
FindsNoneForeign = (d : ℕ) (c : Chain) (p : Part) (j : Journal) → IsLawful c → PartMeets d c p → Contains p.may j → IsForeign d c j → ⊥

-- beyond the known revision of each at most one revision is the device's
abbrev pub FindsOneBeyond : Type 0
FindsOneBeyond = (d : ℕ) (c : Chain) (p : Part) (j : Journal) → PartMeets d c p → Contains p.may j → HasOneBeyond d c j

-- its operations can be spelled, and with them it fits an area of the disk
abbrev pub FindsSpelled : Type 0
FindsSpelled = (d : ℕ) (c : Chain) (p : Part) (j : Journal) → PartMeets d c p → Contains p.may j → IsSpelled p.area j

-- what a journal's payloads do is what the plain machine does to a journal without its hash
pub record JournalLaws (s : Disk) : Type 0 where
  pub op : (op : Op) → plain (done s (entry.Op op)) ≡ queued op (plain s)
  pub landed : (number : ℕ) (hash : List ℕ) → s.mark ≡ false → plain (done s (entry.Landed number hash)) ≡ taken number 1 (plain s)
  pub branched : plain (done s entry.Branched) ≡ branched (plain s)
  pub merged : (number : ℕ) (hash : List ℕ) (count : ℕ) → plain (done s (entry.Merged number hash count)) ≡ taken number count (plain s)
  pub head : (number : ℕ) (hash : List ℕ) → s.queue ≡ [] → plain (done s (entry.Head number hash (last_of s) s.mark)) ≡ record (plain s) { known = number }

abbrev pub JournalsArePlain : Type 0
JournalsArePlain = (s : Disk) → JournalLaws s
