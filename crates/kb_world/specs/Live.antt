-- A block of the plain machine: each device and the folder have a history of what was done at them, and all of it was parts
-- of the machine.
use Rattle.std.specs.Prelude.{◌≡◌, ◌⊎◌, ℕ, ◌+◌, ◌-◌, ◌≤◌, Bool, true, false, ◌==◌, ◌<◌, List, [], ◌∷◌, ◌++◌, length, map, All, Option, Some, None, Result, Ok, Err, slice_get}
use Rattle.std.specs.List.{filter}
use Rattle.kb_ops.specs.declared.requests.Request.{Request}
use Rattle.kb_ops.specs.declared.requests.Show.{Show}
use Rattle.kb_ops.specs.declared.requests.Shown.{Shown}
use Rattle.kb_snap.specs.Answers.{PutFault}
use Rattle.kb_snap.specs.Chains.{Chain}
use Rattle.kb_snap.specs.Puts.{Ask, PutStep}
use Rattle.kb_device.specs.Answers.{Called, CallFault, LookFault, Status, TellFault, PickFault, Noted, NoteFault}
use Rattle.kb_device.specs.Parts.{Part, Flight, CallStep, LookStep, TellStep, PickStep, NoteStep}
use Rattle.kb_device.specs.Owned.{IsOwned}
use Rattle.kb_device.specs.Waits.{Nothing}
use Rattle.kb_world.specs.Statements.{Act, Statement, Reply, See, On, ByCall, ByLook, ByStatus, ByPick, ByLand, ByNote}
use Rattle.kb_world.specs.Statements as statements
use Rattle.kb_world.specs.Machine.{Member, State, new_state, ActStep, Steps, went, landed}
use Rattle.kb_world.specs.Good.{IsGood}
use Rattle.kb_world.specs.RunLaws.{IsDevice}

-- ---- histories

-- what a device was asked for in a block, with its answer; of a pick that was not refused also the request that it made
pub data Event : Type 0 where
  Calls : Request → Result Called CallFault → Event
  Looks : Show → Result Shown LookFault → Event
  Tells : Result Status TellFault → Event
  Picks : Result (Flight × Ask) PickFault → Event
  Notes : Result ℕ PutFault → Result Noted NoteFault → Event

-- a put at the folder, of a flusher of the device with this number
pub record Put : Type 0 where
  pub device : ℕ
  pub ask : Ask
  pub answer : Result ℕ PutFault

-- the event may lead the device with this number and what the member has from a part to a part, at this moment
abbrev pub EventStep : ℕ → ℕ → Member → Part → Event → Part → Type 0
EventStep moment d m p (Calls request answer) q = CallStep d p request moment answer q
EventStep moment d m p (Looks show answer) q = (q ≡ p) × LookStep p show answer
EventStep moment d m p (Tells answer) q = (q ≡ p) × TellStep p answer
EventStep moment d m p (Picks answer) q = PickStep m.batch d m.name p answer q
EventStep moment d m p (Notes put answer) q = NoteStep p put answer q

-- these events may, one after another
abbrev pub Replays : ℕ → ℕ → Member → Part → List Event → Part → Type 0
Replays moment d m p [] q = q ≡ p
Replays moment d m p (e ∷ es) q = (r : Part) × EventStep moment d m p e r × Replays moment d m r es q

-- these puts may lead the folder from a chain to a chain
abbrev pub PutsReplay : Chain → List Put → Chain → Type 0
PutsReplay c [] c' = c' ≡ c
PutsReplay c (f ∷ fs) c' = (mid : Chain) × PutStep c f.ask f.answer mid × PutsReplay mid fs c'

-- ---- what histories say of one another

-- the puts of the device's flushers
abbrev pub puts_of : ℕ → List Put → List Put
puts_of d fs = filter (λ (f : Put). f.device == d) fs

-- A device's history, and the puts of its flushers: each put is of the request of a pick that was not refused, in the order
-- of the picks, and each note is of the answer to the put before, if there is one. The last pick may have no put, and the
-- last put no note, as where want of memory ended their worker.
abbrev pub Told : Option (Result ℕ PutFault) → List Event → List Put → Type 0
Told put [] fs = fs ≡ []
Told put (Calls request answer ∷ es) fs = Told put es fs
Told put (Looks show answer ∷ es) fs = Told put es fs
Told put (Tells answer ∷ es) fs = Told put es fs
Told put (Picks (Err fault) ∷ es) fs = Told put es fs
Told put (Picks (Ok picked) ∷ es) [] = Told None es []
Told put (Picks (Ok picked) ∷ es) (f ∷ fs) = (f.ask ≡ picked.1) × Told (Some f.answer) es fs
Told put (Notes answer noted ∷ es) fs = (put ≡ Some answer) × Told None es fs

-- Over a link that loses nothing, the device with this number went on to this part by these events, beside these puts.
pub record DeviceRan (moment d : ℕ) (m : Member) (events : List Event) (puts : List Put) (part : Part) : Type 0 where
  pub carried : m.link ≡ None
  pub replays : Replays moment d m m.part events part
  pub told : Told None events (puts_of d puts)

-- These are the histories of a block that was run from a state, by the numbers of the devices, with the parts that it leaves
-- and the folder's chain.
pub record BlockRan (s : State) (events : ℕ → List Event) (puts : List Put) (parts : ℕ → Part) (c : Chain) : Type 0 where
  pub devices : (i : ℕ) (m : Member) → slice_get s.members i ≡ Some m → DeviceRan s.moment (i + 1) m (events (i + 1)) puts (parts (i + 1))
  pub declared : All (λ f. (1 ≤ f.device) × (f.device ≤ length s.members)) puts
  pub folder : PutsReplay s.chain puts c

-- ---- what a block leaves

abbrev pub went_all : ℕ → (ℕ → Part) → List Member → List Member
went_all d parts [] = []
went_all d parts (m ∷ members) = went m (parts d) ∷ went_all (d + 1) parts members

-- The parts are handed back. A request that was made in the block and not noted there is dropped, and so is what waited
-- before where its device is closed.
abbrev pub after_block : State → (ℕ → Part) → Chain → State
after_block s parts c = record s { chain = c; members = went_all 1 parts s.members }

-- ---- parts of the machine

-- parts are done one after another, with these replies
abbrev pub Acts : State → List (Act × Reply) → State → Type 0
Acts s [] t = t ≡ s
Acts s (x ∷ xs) t = (mid : State) × ActStep s x.0 x.1 mid × Acts mid xs t

-- the part that an event is
abbrev pub event_act : ℕ → Event → Act
event_act d (Calls request answer) = On d (statements.Call request)
event_act d (Looks show answer) = See d (statements.Look show)
event_act d (Tells answer) = See d statements.Tell
event_act d (Picks answer) = On d statements.Pick
event_act d (Notes put answer) = On d statements.Note

abbrev pub event_reply : Event → Reply
event_reply (Calls request answer) = ByCall answer
event_reply (Looks show answer) = ByLook answer
event_reply (Tells answer) = ByStatus answer
event_reply (Picks (Ok picked)) = ByPick (Ok (picked.0.first, picked.0.first + picked.0.count - 1, picked.0.number))
event_reply (Picks (Err fault)) = ByPick (Err fault)
event_reply (Notes put answer) = ByNote answer

-- the part that a put is
abbrev pub put_act : Put → Act × Reply
put_act f = (On f.device statements.Land, ByLand (landed f.answer))

abbrev pub event_part : ℕ → Event → Act × Reply
event_part d e = (event_act d e, event_reply e)

-- it is what this device was asked for in a block
abbrev pub is_of : ℕ → Act → Bool
is_of d (On e statements.Land) = false
is_of d (On e turn) = e == d
is_of d (See e view) = e == d
is_of d act = false

-- it is a put
abbrev pub is_landing : Act → Bool
is_landing (On e statements.Land) = true
is_landing act = false

abbrev pub events_in : ℕ → List (Act × Reply) → List (Act × Reply)
events_in d xs = filter (λ (x : Act × Reply). is_of d x.0) xs

abbrev pub puts_in : List (Act × Reply) → List (Act × Reply)
puts_in xs = filter (λ (x : Act × Reply). is_landing x.0) xs

-- it is a put, or an event of one of so many devices
abbrev pub IsOne : ℕ → Act × Reply → Type 0
IsOne count x = (is_landing x.0 ≡ true) ⊎ ((i : ℕ) × (i < count) × (is_of (i + 1) x.0 ≡ true))

-- Of these parts, those of each device are its history, in order, the puts are the folder's, and there are no others.
pub record AreHistories (count : ℕ) (events : ℕ → List Event) (puts : List Put) (xs : List (Act × Reply)) : Type 0 where
  pub devices : (i : ℕ) → i < count → events_in (i + 1) xs ≡ map (event_part (i + 1)) (events (i + 1))
  pub folder : puts_in xs ≡ map put_act puts
  pub only : All (IsOne count) xs

-- a state whose devices are those of another, but that what waits may have been dropped
pub record Drops (u t : State) : Type 0 where
  pub state : t ≡ record u { members = t.members }
  pub count : length t.members ≡ length u.members
  pub members : (i : ℕ) (m : Member) → slice_get u.members i ≡ Some m → (slice_get t.members i ≡ Some m) ⊎ (slice_get t.members i ≡ Some (record m { waiting = Nothing }))

-- ---- runs with blocks

-- what was done of a script: a statement with its replies, or a block with its histories and what it left
pub data Did : Type 0 where
  DidStatement : Statement → List Reply → Did
  DidBlock : (ℕ → List Event) → List Put → (ℕ → Part) → Chain → Did

-- all of this was done
abbrev pub LiveRun : State → List Did → State → Type 0
LiveRun s [] t = t ≡ s
LiveRun s (DidStatement statement replies ∷ more) t = (mid : State) × Steps s statement replies mid × LiveRun mid more t
LiveRun s (DidBlock events puts parts c ∷ more) t = BlockRan s events puts parts c × LiveRun (after_block s parts c) more t

-- ---- laws

-- parts of the machine keep what holds of its states
abbrev pub ActsKeep : Type 0
ActsKeep = (s t : State) (xs : List (Act × Reply)) → IsGood s → Acts s xs t → IsGood t

-- The histories of a block are those of parts of the machine, one after another. What the block leaves is what these lead to, where
-- what waits may be dropped.
abbrev pub BlocksAreActs : Type 0
BlocksAreActs = (s : State) (events : ℕ → List Event) (puts : List Put) (parts : ℕ → Part) (c : Chain) → IsGood s → BlockRan s events puts parts c
    → (xs : List (Act × Reply)) × (u : State) × Acts s xs u × AreHistories (length s.members) events puts xs × Drops u (after_block s parts c)

-- a block keeps what holds of the machine's states
abbrev pub BlocksKeep : Type 0
BlocksKeep = (s : State) (events : ℕ → List Event) (puts : List Put) (parts : ℕ → Part) (c : Chain) → IsGood s → BlockRan s events puts parts c → IsGood (after_block s parts c)

-- so each device's acknowledged operations stand once and in order in the chain and then in its journal
abbrev pub BlocksOwn : Type 0
BlocksOwn = (s : State) (events : ℕ → List Event) (puts : List Put) (parts : ℕ → Part) (c : Chain) (d : ℕ) (m : Member) → IsGood s → BlockRan s events puts parts c
    → IsDevice (after_block s parts c) d m → IsOwned d c m.part

-- every run with blocks comes to a state in which the chain is lawful and each device meets it
abbrev pub LiveRunsAreGood : Type 0
LiveRunsAreGood = (did : List Did) (t : State) → LiveRun new_state did t → IsGood t
