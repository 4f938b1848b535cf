-- What an opening of a device does, whatever its disk, and the machine's opening.
use Rattle.std.specs.Prelude.{◌≡◌, ◌⊎◌, ℕ, true, false, List, length, Option, Some, None, IsSome, Result, Ok, Err}
use Rattle.kb_edge.specs.Disk.{MayLeave, FallsBy}
use Rattle.kb_log.specs.Steps.{RanOut}
use Rattle.kb_ops.specs.Trees.{Tree}
use Rattle.kb_keys.specs.Secrets.{device_secret}
use Rattle.kb_keys.specs.declared.policy.Role.{Role}
use Rattle.kb_journal.specs.State.{State, HasState, IsNoJournal}
use Rattle.kb_snap.specs.Chains.{Chain}
use Rattle.kb_device.specs.Answers as says
use Rattle.kb_snap.specs.Lawful.{IsLawful}
use Rattle.kb_device.specs.Parts.{Part, Lowered}
use Rattle.kb_device.specs.Meets.{PartMeets}
use Rattle.kb_device.specs.CallForms as forms
use Rattle.kb_folder.specs.Chains.{Names}
use Rattle.kb_folder.specs.Puts.{Held}
use Rattle.kb_folder.specs.Held.{is_member}
use Rattle.kb_folder.specs.Goes.{HasChain, IsFor, Grows}
use Rattle.kb_device.specs.declared.called.Status.{Status}
use Rattle.kb_device.specs.declared.answers.OpenFault.{OpenFault}
use Rattle.kb_device.specs.declared.answers.OpenFault.TheVariants as fault
use Rattle.kb_device.specs.declared.opening.Taking.{Taking}
use Rattle.kb_device.specs.Inside.{Inside, IsRunning}
use Rattle.kb_device.specs.Stands.{Platter, Member, DeviceStands}
use Rattle.kb_device.specs.Heads.{Read}
use Rattle.kb_device.specs.Opening.{IsApart, CanStart, StartStands, taken_by, caught_by}
use Rattle.kb_device.specs.Telling.{told_status, status_in}

-- ---- the notes

-- the session of a journal that was in this state, once this is taken over and this revision is known
abbrev pub started : State → Option Taking → Read → Tree → Option Role → Inside
started s taking r shown role = record { journal = caught_by (taken_by s taking) r; base = r.tree; ahead = 0; shown = shown; kept = r.kept; cache = r.cache; written = None; ring = r.ring; generation = r.generation; role = role; aloft = None; plan = None }

-- the disk has the state that the opening goes on with, after so many steps at most
pub record Resumes (steps : ℕ) (after : State) (old new : Platter) : Type 0 where
  pub images : (image : List ℕ) → MayLeave new.content new.dirty image → HasState after image
  pub size : length new.content ≡ length old.content
  pub left : FallsBy steps old.left new.left

-- the disk stopped at a note, and has the state that was found, that with what is taken over, or the one that the opening goes on with
pub record StopsResuming (steps : ℕ) (found taken after : State) (old new : Platter) : Type 0 where
  pub images : (image : List ℕ) → MayLeave new.content new.dirty image → HasState found image ⊎ (HasState taken image ⊎ HasState after image)
  pub size : length new.content ≡ length old.content
  pub ran_out : RanOut steps old.left new.left

-- ---- an opening, whatever the disk

-- nothing was written, and a power cut leaves nothing that it could not have left before
pub record IsUnwritten (old new : Platter) : Type 0 where
  pub content : new.content ≡ old.content
  pub images : (image : List ℕ) → MayLeave new.content new.dirty image → MayLeave old.content old.dirty image
  pub left : FallsBy 1 old.left new.left

-- the disk stopped as the journal was opened
pub record StopsFinding (old new : Platter) : Type 0 where
  pub content : new.content ≡ old.content
  pub images : (image : List ℕ) → MayLeave new.content new.dirty image → MayLeave old.content old.dirty image
  pub ran_out : RanOut 2 old.left new.left

module _ (sealed signed : List ℕ → List ℕ → List ℕ) (hashed : List ℕ → List ℕ) (f : Held) (d : ℕ) (secret : List ℕ) where
  -- where the folder has a chain, and the device has its secret, this is so
  abbrev pub InFolder : (List ℕ → Chain → Type 0) → Type 0
  InFolder P = (seed : List ℕ) (names : Names) (c : Chain) → HasChain sealed signed hashed seed names f c → secret ≡ device_secret seed d → P seed c

  module _ (was now : Platter) where
    -- the disk has a state of which this is so
    pub record Finds (P : State → Type 0) : Type 0 where
      pub found : State
      pub has : HasState found was.content
      pub so : P found

    -- what was found on the disk is taken over and caught up with the folder's chain, where it isn't apart from it
    pub record Goes (found : State) (disk : (taken after : State) → Type 0) : Type 0 where
      pub taking : Option Taking
      pub read : Read
      pub shown : Tree
      pub role : Option Role
      pub can : CanStart found.known found.queue taking read shown
      pub stands : InFolder (λ seed c. StartStands sealed hashed seed f d c found taking read role)
      pub disk_is : disk (taken_by found taking) (caught_by (taken_by found taking) read)

    -- the session begins
    pub record Begins (s : Inside) : Type 0 where
      pub found : State
      pub has : HasState found was.content
      pub goes : Goes found (λ taken after. Resumes 9 after was now)
      pub session : s ≡ started found goes.taking goes.read goes.shown goes.role
      pub running : IsRunning s

    -- Why it doesn't. The journal is foreign exactly where it is apart from the folder's chain, and a folder that has a chain is never bad.
    abbrev pub OpenFails : OpenFault → Type 0
    OpenFails fault.AlreadyOpen = ⊥
    OpenFails fault.NotMember = (now ≡ was) × (is_member f d ≡ false)
    OpenFails fault.Stopped = (is_member f d ≡ true) × (StopsFinding was now ⊎ Finds (λ s. Goes s (λ taken after. StopsResuming 9 s taken after was now)))
    OpenFails fault.BadDisk = (is_member f d ≡ true) × IsUnwritten was now × IsNoJournal was.content
    OpenFails (fault.Foreign known) = (is_member f d ≡ true) × IsUnwritten was now × Finds (λ s. (known ≡ s.known) × InFolder (λ seed c. IsApart f d c s))
    OpenFails (fault.BadFolder number) = (is_member f d ≡ true) × IsUnwritten was now × Finds (λ s. InFolder (λ seed c. ⊥))
    OpenFails fault.Memory = (is_member f d ≡ true) × IsUnwritten was now

-- an open session with this status
pub record Told (status : Status) (new : Member) (s : Inside) : Type 0 where
  pub inside_is : new.inside ≡ Some s
  pub status_is : told_status status ≡ status_in s

-- What an opening does that gives this answer, whatever the device's disk. An open device is left as it is; after each other refusal it is closed.
module _ (sealed signed : List ℕ → List ℕ → List ℕ) (hashed : List ℕ → List ℕ) (f : Held) (old new : Member) where
  abbrev pub OpenDoes : Result Status OpenFault → Type 0
  OpenDoes (Ok status) = (old.inside ≡ None) × (is_member f old.number ≡ true) × ((s : Inside) × Told status new s × Begins sealed signed hashed f old.number old.secret old.disk new.disk s)
  OpenDoes (Err fault.AlreadyOpen) = IsSome old.inside × (new ≡ old)
  OpenDoes (Err why) = (old.inside ≡ None) × (new.inside ≡ None) × OpenFails sealed signed hashed f old.number old.secret old.disk new.disk why

-- ---- the machine's opening

module _ (sealed signed : List ℕ → List ℕ → List ℕ) (hashed : List ℕ → List ℕ) (seed : List ℕ) (names : Names) (f : Held) (old new : Member) where
  -- it never comes where the folder has a chain and the device is at a part that meets it
  abbrev pub Never : Type 0
  Never = (c : Chain) (p : Part) → IsLawful c → PartMeets old.number c p → HasChain sealed signed hashed seed names f c → DeviceStands sealed signed hashed seed names old.number f c old p → ⊥

  -- the machine's opening with this answer
  abbrev pub OpenGoes : Result says.Status says.OpenFault → Type 0
  OpenGoes answer = forms.OpenGoes Grows (DeviceStands sealed signed hashed seed names) (HasChain sealed signed hashed seed names) (IsFor sealed signed hashed seed names) old.number f old new answer

  -- What an opening that gives this answer is in the machine. Want of memory takes at most one step of the disk.
  abbrev pub OpenAnswers : Result Status OpenFault → Type 0
  OpenAnswers (Ok status) = OpenGoes (Ok (told_status status))
  OpenAnswers (Err fault.AlreadyOpen) = OpenGoes (Err says.AlreadyOpen)
  OpenAnswers (Err fault.NotMember) = OpenGoes (Err says.OpenFault.NotMember)
  OpenAnswers (Err fault.Stopped) = OpenGoes (Err says.OpenFault.Stopped)
  OpenAnswers (Err fault.BadDisk) = Never
  OpenAnswers (Err (fault.Foreign known)) = Never
  OpenAnswers (Err (fault.BadFolder number)) = Never
  OpenAnswers (Err fault.Memory) = (c : Chain) (p : Part) → DeviceStands sealed signed hashed seed names old.number f c old p → (q : Part) × Lowered p q × DeviceStands sealed signed hashed seed names old.number f c new q
