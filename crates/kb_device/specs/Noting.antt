-- What a note of a put's answer does to a session.
use Rattle.std.specs.Prelude.{◌≡◌, ◌⊎◌, ℕ, Bool, true, false, List, length, Some, None, Result, Ok, Err}
use Rattle.std.specs.FinMap.{get}
use Rattle.kb_edge.specs.Disk.{MayLeave, FallsBy}
use Rattle.kb_ops.specs.Trees.{look}
use Rattle.kb_log.specs.Steps.{RanOut}
use Rattle.kb_files.specs.Opens.{Blocks, Opens}
use Rattle.kb_ranges.specs.Patches.{StaysIn}
use Rattle.kb_snap.specs.Pointers.{AllHold}
use Rattle.kb_device.specs.Caches.{known_in, HasAll}
use Rattle.kb_device.specs.Patching.{OnceAllAdded}
use Rattle.kb_journal.specs.State.{State, HasState, done}
use Rattle.kb_journal.specs.declared.entries.Entry.TheVariants as entry
use Rattle.kb_chain.specs.declared.states.FolderRequest.{FolderRequest}
use Rattle.kb_chain.specs.declared.states.PutRefusal.{PutRefusal}
use Rattle.kb_chain.specs.declared.states.PutRefusal.TheVariants as why
use Rattle.kb_snap.specs.Chains.{Chain}
use Rattle.kb_snap.specs.Answers.{PutFault}
use Rattle.kb_device.specs.Answers as says
use Rattle.kb_device.specs.Parts.{Part, NoteStep}
use Rattle.kb_device.specs.Meets.{PartMeets, PutMeets}
use Rattle.kb_folder.specs.Chains.{Names}
use Rattle.kb_folder.specs.Stands.{keys_to}
use Rattle.kb_folder.specs.Goes.{HasChain, Means}
use Rattle.kb_folder.specs.Puts.{Held}
use Rattle.kb_device.specs.Remembering.{hash_at}
use Rattle.kb_device.specs.Inside.{Aloft, Inside}
use Rattle.kb_device.specs.Stands.{Platter, Member, DeviceStands}
use Rattle.kb_device.specs.declared.answers.PutAnswer.{PutAnswer}
use Rattle.kb_device.specs.declared.answers.Noted.{Noted}
use Rattle.kb_device.specs.declared.answers.Noted.TheVariants as noted
use Rattle.kb_device.specs.declared.answers.NoteFault.{NoteFault}
use Rattle.kb_device.specs.declared.answers.NoteFault.TheVariants as fault

-- ---- the disk

-- the disk has the state after, whatever a power cut leaves
pub record Writes (after : State) (old new : Platter) : Type 0 where
  pub images : (image : List ℕ) → MayLeave new.content new.dirty image → HasState after image
  pub size : length new.content ≡ length old.content
  pub left : FallsBy 4 old.left new.left

-- the disk stopped, and has the state before or the state after
pub record Stops (before after : State) (old new : Platter) : Type 0 where
  pub images : (image : List ℕ) → MayLeave new.content new.dirty image → HasState before image ⊎ HasState after image
  pub size : length new.content ≡ length old.content
  pub ran_out : RanOut 4 old.left new.left

-- ---- the session

-- the journal once the flight landed in a revision with this hash, and once another revision came first
abbrev pub landed : State → Aloft → List ℕ → State
landed j a hash = done j (entry.Landed a.flight.number hash)

abbrev pub parted : State → State
parted j = done j entry.Branched

-- the first operation leaves the queue, the base table has it, and the flight's pointers are kept
abbrev pub with_landed : Inside → Aloft → List ℕ → Inside
with_landed s a hash = record s { journal = landed s.journal a hash; ahead = 0; kept = a.kept; written = None; aloft = None }

module _ (old : Inside) (was : Platter) (answer : PutAnswer) (new : Inside) (now : Platter) where
  -- the flight landed, and is noted
  pub record Lands (n : ℕ) : Type 0 where
    pub aloft : Aloft
    pub flies : old.aloft ≡ Some aloft
    pub number : ℕ
    pub put : answer.number ≡ Ok number
    pub n_is : n ≡ aloft.flight.number
    pub session : new ≡ with_landed old aloft answer.hash
    pub disk : Writes (landed old.journal aloft answer.hash) was now

  -- the flight came late, and the mark is set
  pub record Parts (at : ℕ) : Type 0 where
    pub aloft : Aloft
    pub flies : old.aloft ≡ Some aloft
    pub len : ℕ
    pub head : List ℕ
    pub put : answer.number ≡ Err (why.Stale len head)
    pub at_is : at ≡ old.journal.known
    pub session : new ≡ record old { journal = parted old.journal; aloft = None }
    pub disk : Writes (parted old.journal) was now

  -- the put was refused otherwise, and nothing is written
  pub record Keeps : Type 0 where
    pub aloft : Aloft
    pub flies : old.aloft ≡ Some aloft
    pub refusal : PutRefusal
    pub put : answer.number ≡ Err refusal
    pub other : (len : ℕ) (head : List ℕ) → refusal ≡ why.Stale len head → ⊥
    pub session : new ≡ record old { aloft = None }
    pub disk : now ≡ was

  -- the disk stopped as the landing was noted
  pub record BreaksLanding : Type 0 where
    pub aloft : Aloft
    pub flies : old.aloft ≡ Some aloft
    pub number : ℕ
    pub put : answer.number ≡ Ok number
    pub disk : Stops old.journal (landed old.journal aloft answer.hash) was now

  -- or as the mark was set
  pub record BreaksParting : Type 0 where
    pub aloft : Aloft
    pub flies : old.aloft ≡ Some aloft
    pub len : ℕ
    pub head : List ℕ
    pub put : answer.number ≡ Err (why.Stale len head)
    pub disk : Stops old.journal (parted old.journal) was now

  -- what a note does that gives this answer
  abbrev pub NoteDoes : Result Noted NoteFault → Type 0
  NoteDoes (Ok (noted.Landed n)) = Lands n
  NoteDoes (Ok (noted.Branched at)) = Parts at
  NoteDoes (Ok noted.Kept) = Keeps
  NoteDoes (Err fault.Closed) = ⊥
  NoteDoes (Err fault.NoFlight) = (new ≡ old) × (now ≡ was) × (old.aloft ≡ None)
  NoteDoes (Err fault.Stopped) = BreaksLanding ⊎ BreaksParting

-- ---- a flight and its request

-- Once the request's blocks, which the cache has, are added to some that the cache and the folder have, the flight's pointers hold rows of the base table.
pub record IsRequestOf (sealed : List ℕ → List ℕ → List ℕ) (hashed : List ℕ → List ℕ) (seed : List ℕ) (f : Held) (request : FolderRequest) (s : Inside) (a : Aloft) : Type 0 where
  pub few : Blocks
  pub within : StaysIn few (known_in s.cache (get f.blocks))
  pub cached : HasAll hashed s.cache request.blocks
  pub holds : OnceAllAdded hashed sealed few (keys_to seed s.generation) request.blocks (λ vault. AllHold vault (look s.base) a.kept)

-- The folder took the flight as a revision with this hash: its pointers hold rows of the base table there.
pub record HasLanded (sealed : List ℕ → List ℕ → List ℕ) (hashed : List ℕ → List ℕ) (seed : List ℕ) (f : Held) (s : Inside) (a : Aloft) (hash : List ℕ) : Type 0 where
  pub hash_is : hash ≡ hash_at f.revisions a.flight.number
  pub held : AllHold (Opens sealed hashed (known_in s.cache (get f.blocks)) (keys_to seed s.generation)) (look s.base) a.kept

-- the device's flight has this request
abbrev pub Sent : (List ℕ → List ℕ → List ℕ) → (List ℕ → List ℕ) → List ℕ → Held → FolderRequest → Member → Type 0
Sent sealed hashed seed f request v = (s : Inside) (a : Aloft) → v.inside ≡ Some s → s.aloft ≡ Some a → IsRequestOf sealed hashed seed f request s a

-- the answer is that of the device's flight: where the put was taken, the folder has it
abbrev pub AnswerStands : (List ℕ → List ℕ → List ℕ) → (List ℕ → List ℕ) → List ℕ → Held → Member → PutAnswer → Type 0
AnswerStands sealed hashed seed f v answer = (s : Inside) (a : Aloft) (n : ℕ) → v.inside ≡ Some s → s.aloft ≡ Some a → answer.number ≡ Ok n → HasLanded sealed hashed seed f s a answer.hash

-- this holds of the note, unless the disk stopped
abbrev pub UnlessStopped : Result Noted NoteFault → Type 0 → Type 0
UnlessStopped (Ok x) P = P
UnlessStopped (Err fault.Stopped) P = Unit {0}
UnlessStopped (Err e) P = P

-- ---- the machine's note

-- the machine's answer
abbrev pub told : Result Noted NoteFault → Result says.Noted says.NoteFault
told (Ok (noted.Landed n)) = Ok (says.Landed n)
told (Ok (noted.Branched at)) = Ok (says.Noted.Branched at)
told (Ok noted.Kept) = Ok says.Kept
told (Err fault.Closed) = Err says.NoteFault.Closed
told (Err fault.NoFlight) = Err says.NoteFault.NoFlight
told (Err fault.Stopped) = Err says.NoteFault.Stopped

-- the device after it, whose session has ended where the disk stopped
abbrev pub member_after : Member → Inside → Platter → Result Noted NoteFault → Member
member_after v s disk (Ok x) = record v { disk = disk; inside = Some s }
member_after v s disk (Err fault.Stopped) = record v { disk = disk; inside = None }
member_after v s disk (Err e) = record v { disk = disk; inside = Some s }

-- A note, for the answer to the put of the kept flight: as the machine's, where the folder has what landed.
abbrev pub NoteGoes : (List ℕ → List ℕ → List ℕ) → (List ℕ → List ℕ → List ℕ) → (List ℕ → List ℕ) → List ℕ → Names → ℕ → Member → Member → PutAnswer → Result Noted NoteFault → Type 0
NoteGoes sealed signed hashed seed names d old new answer result = (f : Held) (c : Chain) (p : Part) (put : Result ℕ PutFault) → PartMeets d c p → PutMeets d c p put → HasChain sealed signed hashed seed names f c
    → DeviceStands sealed signed hashed seed names d f c old p → Means answer.number put → AnswerStands sealed hashed seed f old answer
    → (q : Part) × NoteStep p put (told result) q × DeviceStands sealed signed hashed seed names d f c new q

-- the disk stopped in the note
abbrev pub is_stopped : Result Noted NoteFault → Bool
is_stopped (Err fault.Stopped) = true
is_stopped r = false
