-- What a declared device's turns do.
use Rattle.std.specs.Prelude.{◌≡◌, ◌⊎◌, ℕ, ◌+◌, Bool, true, false, List, Option, Result, Ok, Err}
use Rattle.kb_edge.specs.declared.disk.Disk.{Ghosts}
use Rattle.kb_seal.specs.declared.sealer.Sealer.{Ghosts as Seals}
use Rattle.kb_blocks.specs.declared.hashing.BlockHash.{Ghosts as Hashes}
use Rattle.kb_ops.specs.declared.requests.Request.{Request}
use Rattle.kb_chain.specs.declared.states.PutRefusal.{PutRefusal}
use Rattle.kb_chain.specs.declared.states.PutRefusal.TheVariants as why
use Rattle.kb_snap.specs.Answers.{PutFault}
use Rattle.kb_snap.specs.Chains.{Chain}
use Rattle.kb_device.specs.Parts.{CallStep, PickStep, NoteStep, PullStep, OpenStep, Lowered, armed, powered}
use Rattle.kb_world.specs.Statements.{Reply, ByCall, ByPick, ByLand, ByNote, ByPull, ByOpen, LandFault}
use Rattle.kb_world.specs.Statements as statements
use Rattle.kb_world.specs.Machine.{Member, Does, PicksFlight, PicksNone, PutsAsk, LosesAsk, PutsNone, NotesAnswer, NotesNone, landed, went}
use Rattle.kb_snap.specs.Lawful.{IsLawful}
use Rattle.kb_world.specs.Good.{MemberMeets}
use Rattle.kb_folder.specs.Chains.{Names}
use Rattle.kb_folder.specs.Puts.{Held}
use Rattle.kb_folder.specs.Goes.{HasChain, Grows, Means}
use Rattle.kb_device.specs.Noting.{told}
use Rattle.kb_device.specs.declared.called.Called.{Called}
use Rattle.kb_device.specs.declared.called.CallFault.{CallFault}
use Rattle.kb_device.specs.declared.called.CallFault.TheVariants as call
use Rattle.kb_device.specs.declared.called.Status.{Status}
use Rattle.kb_device.specs.declared.answers.PickFault.{PickFault}
use Rattle.kb_device.specs.declared.answers.PickFault.TheVariants as pick
use Rattle.kb_device.specs.declared.answers.PullFault.{PullFault}
use Rattle.kb_device.specs.declared.answers.PullFault.TheVariants as pull
use Rattle.kb_device.specs.declared.answers.OpenFault.{OpenFault}
use Rattle.kb_device.specs.declared.answers.OpenFault.TheVariants as opening
use Rattle.kb_device.specs.declared.answers.Noted.{Noted}
use Rattle.kb_device.specs.declared.answers.NoteFault.{NoteFault}
use Rattle.kb_device.specs.declared.answers.NoteFault.TheVariants as note
use Rattle.kb_device.specs.declared.called.Closed.{Closed}
use Rattle.kb_world.specs.Told.{told_call, told_pick, told_pull, told_open}
use Rattle.kb_world.specs.Standing.{DeclaredStands}
use Rattle.kb_world.specs.declared.declared.Declared.{Declared}
use Rattle.kb_world.specs.declared.replies.LandFault as code
use Rattle.kb_world.specs.declared.replies.LandFault.TheVariants as land

module _ {D S H : Type 0} {disks : Ghosts D} {sealers : Seals S} {hashes : Hashes H} where
  -- Whatever member the device stands for at a folder, it goes on to one that it stands for then.
  abbrev pub Turned : Held → Declared D S H disks sealers hashes → Declared D S H disks sealers hashes → (ℕ → Chain → Member → Member → Type 0) → Type 0
  Turned f old new P = (seed : List ℕ) (names : Names) (d : ℕ) (c : Chain) (m : Member) → IsLawful c → MemberMeets d c m → HasChain sealers.sealed sealers.signed hashes.hashed seed names f c → DeclaredStands seed names d f c old m → (n : Member) × P d c m n × DeclaredStands seed names d f c new n

-- a file call; want of memory changes nothing
abbrev pub CallTurns : Request → ℕ → Result Called CallFault → ℕ → Chain → Member → Member → Type 0
CallTurns request moment (Err call.Memory) d c m n = n ≡ m
CallTurns request moment answer d c m n = Does (CallStep d m.part request moment) ByCall (ByCall (told_call answer)) m n

-- a pick
abbrev pub PickTurns : Result (ℕ × ℕ) PickFault → ℕ → Chain → Member → Member → Type 0
PickTurns (Err pick.Memory) d c m n = n ≡ m
PickTurns (Ok picked) d c m n = PicksFlight d (ByPick (told_pick (Ok picked))) m n
PickTurns answer d c m n = PicksNone d (ByPick (told_pick answer)) m n

-- a note
abbrev pub NoteTurns : Result Noted NoteFault → ℕ → Chain → Member → Member → Type 0
NoteTurns answer d c m n = NotesAnswer (ByNote (told answer)) m n ⊎ NotesNone (ByNote (told answer)) m n

-- why there is nothing to note, by the device's status
abbrev pub IsNoteless : Result Status Closed → NoteFault → Type 0
IsNoteless (Ok status) note.NoFlight = Unit {0}
IsNoteless (Err closed) note.Closed = Unit {0}
IsNoteless status fault = ⊥

-- a pull; that the folder is bad never comes
abbrev pub PullTurns : Result ℕ PullFault → ℕ → Chain → Member → Member → Type 0
PullTurns (Err pull.Memory) d c m n = n ≡ m
PullTurns (Err (pull.BadFolder number)) d c m n = ⊥
PullTurns answer d c m n = Does (PullStep d c m.part) ByPull (ByPull (told_pull answer)) m n

-- an opening; want of memory takes at most one step of the disk
abbrev pub OpenTurns : Result Status OpenFault → ℕ → Chain → Member → Member → Type 0
OpenTurns (Err opening.Memory) d c m n = Lowered m.part n.part × (n ≡ record m { part = n.part })
OpenTurns answer d c m n = Does (OpenStep d c m.part) ByOpen (ByOpen (told_open answer)) m n

-- ---- a put

-- the answer of the machine's put
abbrev pub IsLanding : Result ℕ code.LandFault → Result ℕ LandFault → Type 0
IsLanding (Ok n) answer = answer ≡ Ok n
IsLanding (Err land.NoFlight) answer = answer ≡ Err statements.NoFlight
IsLanding (Err land.LinkFault) answer = (lost : Option (Result ℕ PutFault)) × (answer ≡ Err (statements.LinkFault lost))
IsLanding (Err (land.ByFolder refusal)) answer = (put : Result ℕ PutFault) × Means (Err refusal) put × (answer ≡ landed put)

-- memory did not run out
abbrev pub IsLand : Result ℕ code.LandFault → Type 0
IsLand (Err (land.ByFolder why.Memory)) = ⊥
IsLand answer = Unit {0}

-- What is done to the folder and to the device that lands there; want of memory changes nothing.
abbrev pub LandSteps : Result ℕ code.LandFault → ℕ → Chain → Member → Member → Chain → Type 0
LandSteps (Err (land.ByFolder why.Memory)) d c m n c' = (n ≡ m) × (c' ≡ c)
LandSteps answer d c m n c' = (told : Result ℕ LandFault) × IsLanding answer told × ((PutsAsk c (ByLand told) m n c' ⊎ LosesAsk c (ByLand told) m n c') ⊎ ((c' ≡ c) × PutsNone (ByLand told) m n))

module _ {D S H : Type 0} {disks : Ghosts D} {sealers : Seals S} {hashes : Hashes H} where
  abbrev pub LandTurns : Held → Held → Declared D S H disks sealers hashes → Declared D S H disks sealers hashes → Result ℕ code.LandFault → Type 0
  LandTurns f f' old new answer = (seed : List ℕ) (names : Names) (d : ℕ) (c : Chain) (m : Member) → IsLawful c → MemberMeets d c m → HasChain sealers.sealed sealers.signed hashes.hashed seed names f c → DeclaredStands seed names d f c old m
      → (n : Member) × (c' : Chain) × LandSteps answer d c m n c' × HasChain sealers.sealed sealers.signed hashes.hashed seed names f' c' × Grows f f' × DeclaredStands seed names d f' c' new n
