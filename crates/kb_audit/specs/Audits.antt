-- What an audit answers.
use Rattle.std.specs.Prelude.{◌≡◌, ◌≢◌, ℕ, ◌+◌, List, [], ◌∷◌, ◌++◌, length, reverse, slice_index, Result, Ok, Err}
use Rattle.kb_keys.specs.declared.halves.Half.{Half}
use Rattle.kb_files.specs.Opens.{Blocks}
use Rattle.kb_chain.specs.declared.revisions.Revision.{Revision}
use Rattle.kb_chain.specs.declared.states.ChainState.{ChainState}
use Rattle.kb_folder.specs.Chains.{Back, Names, ops_of}
use Rattle.kb_folder.specs.Stands.{Revisions, Stands, HalvesStand, PolicyStands, head_of}
use Rattle.kb_audit.specs.declared.faults.AuditWhy.{AuditWhy}
use Rattle.kb_audit.specs.declared.faults.AuditWhy.TheVariants.{Form, Number, Previous, Writer, Signature, Seq, Fit, Private, Operation, Blocks as BadBlocks, Halves}
use Rattle.kb_audit.specs.declared.faults.AuditFault.{AuditFault}
use Rattle.kb_audit.specs.declared.faults.AuditFault.TheVariants.{At, Memory}
use Rattle.kb_audit.specs.Facts.{HasForm, HasWriter, HasSeq, HasFit, HasPrivate, HasOperation, HasSignature, HasBlocks, plain_of}

module _ (sealed signed : List ℕ → List ℕ → List ℕ) (hashed : List ℕ → List ℕ) (seed : List ℕ) (names : Names) (registered : ℕ) (blocks : Blocks) where
  -- all facts hold that need no private part
  pub record IsOpen (bs : Revisions) (c : Back) (r : Revision) : Type 0 where
    pub number : r.number ≡ length c + 1
    pub previous : r.previous ≡ head_of bs
    pub writer : HasWriter registered c r.writer
    pub signature : HasSignature sealed signed hashed seed names registered blocks r
    pub seq : HasSeq c r r.kind
    pub fit : HasFit sealed seed names registered c r

  -- the facts before this one hold of the revision, and this one doesn't
  abbrev pub Lacks : AuditWhy → Revisions → Back → Revision → Type 0
  Lacks Form bs c r = ⊥
  Lacks Number bs c r = r.number ≢ length c + 1
  Lacks Previous bs c r = (r.number ≡ length c + 1) × (r.previous ≢ head_of bs)
  Lacks Writer bs c r = (r.number ≡ length c + 1) × (r.previous ≡ head_of bs) × ¬ HasWriter registered c r.writer
  Lacks Signature bs c r = (r.number ≡ length c + 1) × (r.previous ≡ head_of bs) × HasWriter registered c r.writer × ¬ HasSignature sealed signed hashed seed names registered blocks r
  Lacks Seq bs c r = (r.number ≡ length c + 1) × (r.previous ≡ head_of bs) × HasWriter registered c r.writer × HasSignature sealed signed hashed seed names registered blocks r × ¬ HasSeq c r r.kind
  Lacks Fit bs c r = (r.number ≡ length c + 1) × (r.previous ≡ head_of bs) × HasWriter registered c r.writer × HasSignature sealed signed hashed seed names registered blocks r × HasSeq c r r.kind × ¬ HasFit sealed seed names registered c r
  Lacks Private bs c r = IsOpen bs c r × ¬ HasPrivate sealed seed r
  Lacks Operation bs c r = IsOpen bs c r × (h : HasPrivate sealed seed r) × ¬ HasOperation c (plain_of names r h.part) (plain_of names r h.part).deed
  Lacks BadBlocks bs c r = IsOpen bs c r × (h : HasPrivate sealed seed r) × HasOperation c (plain_of names r h.part) (plain_of names r h.part).deed × ¬ HasBlocks sealed signed hashed seed names registered blocks c r h.part
  Lacks Halves bs c r = ⊥

  -- This is the first reason against the bytes behind those that stand for the chain.
  abbrev pub IsBad : AuditWhy → Revisions → Back → List ℕ → Type 0
  IsBad Form bs c b = ¬ HasForm b
  IsBad Number bs c b = (f : HasForm b) × Lacks Number bs c f.revision
  IsBad Previous bs c b = (f : HasForm b) × Lacks Previous bs c f.revision
  IsBad Writer bs c b = (f : HasForm b) × Lacks Writer bs c f.revision
  IsBad Signature bs c b = (f : HasForm b) × Lacks Signature bs c f.revision
  IsBad Seq bs c b = (f : HasForm b) × Lacks Seq bs c f.revision
  IsBad Fit bs c b = (f : HasForm b) × Lacks Fit bs c f.revision
  IsBad Private bs c b = (f : HasForm b) × Lacks Private bs c f.revision
  IsBad Operation bs c b = (f : HasForm b) × Lacks Operation bs c f.revision
  IsBad BadBlocks bs c b = (f : HasForm b) × Lacks BadBlocks bs c f.revision
  IsBad Halves bs c b = ⊥

  -- The revisions before the one of this number stand for a chain, and this is the first reason against its bytes.
  pub record IsBadAt (all : List (List ℕ)) (number : ℕ) (why : AuditWhy) : Type 0 where
    pub front : List (List ℕ)
    pub bytes : List ℕ
    pub rest : List (List ℕ)
    pub split : all ≡ front ++ bytes ∷ rest
    pub place : number ≡ length front + 1
    pub chain : Back
    pub stands : Stands sealed signed hashed seed names registered blocks (reverse front) chain
    pub bad : IsBad why (reverse front) chain bytes

  -- all stand for a chain, and the halves don't
  pub record HasBadHalves (all : List (List ℕ)) (halves : List Half) (number : ℕ) : Type 0 where
    pub place : number ≡ length all
    pub chain : Back
    pub stands : Stands sealed signed hashed seed names registered blocks (reverse all) chain
    pub bad : ¬ HalvesStand seed chain halves

  -- all stand for a chain, and the halves with them
  pub record IsWhole (all : List (List ℕ)) (halves : List Half) : Type 0 where
    pub chain : Back
    pub stands : Stands sealed signed hashed seed names registered blocks (reverse all) chain
    pub halves_stand : HalvesStand seed chain halves

  abbrev pub TellsAt : List (List ℕ) → List Half → ℕ → AuditWhy → Type 0
  TellsAt all halves number Form = IsBadAt all number Form
  TellsAt all halves number Number = IsBadAt all number Number
  TellsAt all halves number Previous = IsBadAt all number Previous
  TellsAt all halves number Writer = IsBadAt all number Writer
  TellsAt all halves number Signature = IsBadAt all number Signature
  TellsAt all halves number Seq = IsBadAt all number Seq
  TellsAt all halves number Fit = IsBadAt all number Fit
  TellsAt all halves number Private = IsBadAt all number Private
  TellsAt all halves number Operation = IsBadAt all number Operation
  TellsAt all halves number BadBlocks = IsBadAt all number BadBlocks
  TellsAt all halves number Halves = HasBadHalves all halves number

  -- whole, or the first bad revision with the first reason
  abbrev pub Audits : List (List ℕ) → List Half → Result ℕ AuditFault → Type 0
  Audits all halves (Ok n) = (n ≡ length all) × IsWhole all halves
  Audits all halves (Err (At number why)) = TellsAt all halves number why
  Audits all halves (Err Memory) = Unit {0}

-- what is known of revisions that stand for the chain
pub record Knows (registered : ℕ) (bs : Revisions) (c : Back) (s : ChainState) : Type 0 where
  pub length_is : s.length ≡ length c
  pub head : s.head ≡ head_of bs
  pub policy : PolicyStands c s.policy
  pub last : (d : ℕ) → slice_index s.last d ≡ length (ops_of d c)
  pub registered_is : s.registered ≡ registered
