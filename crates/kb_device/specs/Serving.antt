-- How the calls that a device's user makes go on as the machine's.
use Rattle.std.specs.Prelude.{◌≡◌, ℕ, ◌≤◌, replicate, List, Option, None, Some, Result, Ok, Err}
use Rattle.kb_edge.specs.Disk.{MayLeave}
use Rattle.kb_log.specs.Steps.{IsClean}
use Rattle.kb_ops.specs.declared.requests.Request.{Request}
use Rattle.kb_keys.specs.Secrets.{device_secret}
use Rattle.kb_chain.specs.declared.states.FolderRequest.{FolderRequest}
use Rattle.kb_device.specs.Answers as says
use Rattle.kb_device.specs.CallForms as forms
use Rattle.kb_folder.specs.Chains.{Names}
use Rattle.kb_folder.specs.Puts.{Held}
use Rattle.kb_folder.specs.Goes.{HasChain, IsFor, Grows}
use Rattle.kb_device.specs.Inside.{Inside}
use Rattle.kb_device.specs.Stands.{Platter, Member, DeviceStands}
use Rattle.kb_device.specs.Forms.{DeviceStays}
use Rattle.kb_device.specs.Noting.{Sent, AnswerStands}
use Rattle.kb_device.specs.declared.answers.PutAnswer.{PutAnswer}
use Rattle.kb_device.specs.declared.called.Called.{Called}
use Rattle.kb_device.specs.declared.called.Called.TheVariants as called
use Rattle.kb_device.specs.declared.called.CallFault.{CallFault}
use Rattle.kb_device.specs.declared.called.CallFault.TheVariants as fault

-- the device after a call, whose session has ended where the disk stopped
abbrev pub member_after : Member → Inside → Platter → Result Called CallFault → Member
member_after v s disk (Err fault.Stopped) = record v { disk = disk; inside = None }
member_after v s disk r = record v { disk = disk; inside = Some s }

module _ (sealed signed : List ℕ → List ℕ → List ℕ) (hashed : List ℕ → List ℕ) (seed : List ℕ) (names : Names) where
  -- a file call
  abbrev pub CallGoes : ℕ → Member → Member → Request → ℕ → Result says.Called says.CallFault → Type 0
  CallGoes = forms.CallGoes Grows (DeviceStands sealed signed hashed seed names) (HasChain sealed signed hashed seed names) (IsFor sealed signed hashed seed names)

  -- What a file call that gives this answer is in the machine. Want of memory changes nothing.
  abbrev pub CallAnswers : Member → Member → Request → ℕ → Result Called CallFault → Type 0
  CallAnswers old new request moment (Ok (called.Done seq)) = CallGoes old.number old new request moment (Ok (says.Done seq))
  CallAnswers old new request moment (Ok called.Same) = CallGoes old.number old new request moment (Ok says.Same)
  CallAnswers old new request moment (Err fault.Closed) = CallGoes old.number old new request moment (Err says.CallFault.Closed)
  CallAnswers old new request moment (Err fault.ReadOnly) = CallGoes old.number old new request moment (Err says.ReadOnly)
  CallAnswers old new request moment (Err (fault.ByPlan why)) = CallGoes old.number old new request moment (Err (says.ByPlan why))
  CallAnswers old new request moment (Err fault.Spent) = CallGoes old.number old new request moment (Err (says.ByQueue says.Spent))
  CallAnswers old new request moment (Err fault.QueueFull) = CallGoes old.number old new request moment (Err (says.ByQueue says.QueueFull))
  CallAnswers old new request moment (Err (fault.Full need room)) = CallGoes old.number old new request moment (Err (says.ByQueue (says.Full need room)))
  CallAnswers old new request moment (Err fault.Memory) = DeviceStays sealed signed hashed seed names old.number old new
  CallAnswers old new request moment (Err fault.Stopped) = CallGoes old.number old new request moment (Err says.CallFault.Stopped)

-- A flight that is out stays so: its request is the one that was sent, and an answer to its put stays one.
pub record WaitsOn (sealed : List ℕ → List ℕ → List ℕ) (hashed : List ℕ → List ℕ) (seed : List ℕ) (old new : Member) : Type 0 where
  pub sent : (f : Held) (request : FolderRequest) → Sent sealed hashed seed f request old → Sent sealed hashed seed f request new
  pub answer : (f : Held) (answer : PutAnswer) → AnswerStands sealed hashed seed f old answer → AnswerStands sealed hashed seed f new answer

-- ---- fuse and power

-- the disk was armed
pub record IsArmed (steps : ℕ) (old new : Platter) : Type 0 where
  pub content : new.content ≡ old.content
  pub dirty : (place : ℕ) → new.dirty place ≡ old.dirty place
  pub left : new.left ≡ Some steps

-- the disk's power was cut
pub record IsCut (old new : Platter) : Type 0 where
  pub image : MayLeave old.content old.dirty new.content
  pub clean : IsClean new.dirty
  pub left : new.left ≡ None

-- this was done to what is there, where there is something
abbrev pub Changes : {D : Type 0} → (D → D → Type 0) → Option D → Option D → Type 0
Changes R (Some old) (Some new) = R old new
Changes R None None = Unit {0}
Changes R (Some old) None = ⊥
Changes R None (Some new) = ⊥

-- A new device with this number has its own name and secret, and a disk of so many zeros that never stops; the folder has
-- registered the number.
pub record IsNew (seed : List ℕ) (names : Names) (f : Held) (v : Member) (size : ℕ) : Type 0 where
  pub named : v.name ≡ names v.number
  pub own : v.secret ≡ device_secret seed v.number
  pub registered : (1 ≤ v.number) × (v.number ≤ f.state.registered)
  pub low : 4096 ≤ size
  pub zeros : v.disk.content ≡ replicate size 0
  pub clean : IsClean v.disk.dirty
  pub lasts : v.disk.left ≡ None
