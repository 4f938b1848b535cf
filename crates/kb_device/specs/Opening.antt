-- What an opening finds and goes on with, in the folder's chain.
use Rattle.std.specs.Prelude.{◌≡◌, ◌≢◌, ◌⊎◌, ℕ, ◌+◌, ◌-◌, ◌<◌, ◌≤◌, ◌&&◌, nat_eq, nat_le, if◌then◌else◌, Bool, List, [], ◌∷◌, drop, length, Option, Some, None, Result, Ok, Err}
use Rattle.kb_ops.specs.declared.rows.Op.{Op}
use Rattle.kb_ops.specs.Trees.{Tree, fold_ops, FitAll}
use Rattle.kb_keys.specs.declared.policy.Role.{Role}
use Rattle.kb_journal.specs.State.{State, done}
use Rattle.kb_journal.specs.declared.entries.Entry.TheVariants as entry
use Rattle.kb_snap.specs.Chains.{Chain}
use Rattle.kb_snap.specs.Members.{roles_at}
use Rattle.kb_device.specs.Journals.{plain, taken_over, resumed}
use Rattle.kb_snap.specs.Lawful.{AreOf}
use Rattle.kb_device.specs.Disks.{hash_at}
use Rattle.kb_device.specs.Foreign.{QueueMeets, IsForeign}
use Rattle.kb_folder.specs.Puts.{Held}
use Rattle.kb_device.specs.declared.past.Own.{Own}
use Rattle.kb_device.specs.declared.opening.Taking.{Taking}
use Rattle.kb_device.specs.declared.opening.StartFault.{StartFault}
use Rattle.kb_device.specs.declared.opening.StartFault.TheVariants.{Foreign, BadFolder, Memory}
use Rattle.kb_device.specs.declared.reading.ReadFault.{ReadFault}
use Rattle.kb_device.specs.declared.reading.ReadFault.TheVariants as read
use Rattle.kb_device.specs.Stands.{hashes_of}
use Rattle.kb_device.specs.Heads.{Read, ReadStands}
use Rattle.kb_device.specs.Pulling.{headed, IsReadable}

-- The journal isn't the device's or doesn't meet the chain, or its hash isn't that of its known revision.
abbrev pub IsApart : Held → ℕ → Chain → State → Type 0
IsApart f d c s = IsForeign d c (plain s) ⊎ (s.hash ≢ hash_at (hashes_of f.revisions) s.known)

-- The chain and a queue meet, where the device's last seq in the chain is this, the queue goes on behind the base and ends with
-- the end: nothing of the device stands beyond, and the queue follows; or what does is the queue's first, and is the device's last.
abbrev pub meets : Option Own → ℕ → ℕ → ℕ → Bool
meets None last base end = nat_eq last base
meets (Some own) last base end = nat_eq own.first (base + 1) && (nat_eq own.last last && nat_le last end)

-- the journal once a revision with first operations of the queue is taken over
abbrev pub taken_by : State → Option Taking → State
taken_by s None = s
taken_by s (Some t) = done s (entry.Merged t.number t.hash t.count)

-- the taking of the device's first own revision, with this hash
abbrev pub taking_of : Option Own → List ℕ → Option Taking
taking_of None hash = None
taking_of (Some own) hash = Some (record { number = own.number; hash = hash; count = own.last + 1 - own.first })

-- it can be noted
abbrev pub CanTake : State → Option Taking → Type 0
CanTake s None = Unit {0}
CanTake s (Some t) = (s.known < t.number) × (0 < t.count) × (t.count ≤ length s.queue)

-- What was taken over of a journal is the machine's, with its hash.
pub record Takes (f : Held) (d : ℕ) (c : Chain) (s : State) (taking : Option Taking) : Type 0 where
  pub same : plain (taken_by s taking) ≡ taken_over d c (plain s)
  pub within : (taken_by s taking).known ≤ length c
  pub hash : (taken_by s taking).hash ≡ hash_at (hashes_of f.revisions) (taken_by s taking).known

-- and once a later revision is known, where it isn't yet
abbrev pub caught_by : State → Read → State
caught_by t r = if nat_le r.number t.known then t else headed t r

-- a revision of its own, beyond the known one and of so many, or none
abbrev pub IsSound : ℕ → ℕ → Option Own → Type 0
IsSound known len None = Unit {0}
IsSound known len (Some own) = (known < own.number) × (own.number ≤ len) × (own.first ≤ own.last)

abbrev pub fault_of : ReadFault → ℕ → StartFault
fault_of read.BadFolder number = BadFolder number
fault_of read.Memory number = Memory

-- This holds of what was found, or this is so where it is foreign. That the folder is bad never comes, and want of memory is free.
abbrev pub IfStarted : {X : Type 0} → Result X StartFault → (X → Type 0) → Type 0 → Type 0
IfStarted (Ok x) P Q = P x
IfStarted (Err Foreign) P Q = Q
IfStarted (Err (BadFolder number)) P Q = ⊥
IfStarted (Err Memory) P Q = Unit {0}

-- a taking of this revision, where the revisions have these hashes
abbrev pub IsTakingOf : List (List ℕ) → ℕ → Option Own → Option Taking → Type 0
IsTakingOf hashes base None None = Unit {0}
IsTakingOf hashes base (Some own) (Some t) = (t.number ≡ own.number) × (t.count ≡ own.last - base) × (t.hash ≡ hash_at hashes own.number)
IsTakingOf hashes base own taking = ⊥

-- how many of the queue are taken over, and what is known then
abbrev pub count_of : Option Taking → ℕ
count_of None = 0
count_of (Some t) = t.count

abbrev pub number_of : ℕ → Option Taking → ℕ
number_of known None = known
number_of known (Some t) = t.number

-- What is taken over can be noted, and is one of so many revisions.
pub record MayTake (known len : ℕ) (queue : List Op) (taking : Option Taking) : Type 0 where
  pub within : number_of known taking ≤ len
  pub count : count_of taking ≤ length queue
  pub later : (t : Taking) → taking ≡ Some t → (known < t.number) × (0 < t.count)

-- nothing of the journal is foreign but maybe what is left of its queue
pub record Meets (f : Held) (d : ℕ) (c : Chain) (s : State) : Type 0 where
  pub within : s.known ≤ length c
  pub hash : s.hash ≡ hash_at (hashes_of f.revisions) s.known
  pub started : 0 < length s.queue → 0 < s.known
  pub own : AreOf d s.queue
  pub queue : QueueMeets d c (plain s)

-- What an opening goes on with, whatever the folder: what is taken over can be noted; the revision that is known then can be
-- kept, and is a later one only where nothing waits; what is left of the queue fits its tree, and is done in the shown one.
pub record CanStart (known : ℕ) (queue : List Op) (taking : Option Taking) (r : Read) (shown : Tree) : Type 0 where
  pub can : (known < number_of known taking) ⊎ (taking ≡ None)
  pub some : (taking ≡ None) ⊎ (0 < count_of taking)
  pub count : count_of taking ≤ length queue
  pub later : number_of known taking ≤ r.number
  pub flushed : number_of known taking < r.number → drop (count_of taking) queue ≡ []
  pub readable : IsReadable r
  pub fit : FitAll (drop (count_of taking) queue) r.tree
  pub shown_is : shown ≡ fold_ops (drop (count_of taking) queue) r.tree

-- And in the folder's chain, where the journal is in this state: it isn't apart; what is taken over is the machine's; the
-- revision that is known then stands, and it is the one that the machine goes on with.
pub record StartStands (sealed : List ℕ → List ℕ → List ℕ) (hashed : List ℕ → List ℕ) (seed : List ℕ) (f : Held) (d : ℕ) (c : Chain) (s : State) (taking : Option Taking) (r : Read) (role : Option Role) : Type 0 where
  pub ours : ¬ IsApart f d c s
  pub takes : Takes f d c s taking
  pub resumes : plain (caught_by (taken_by s taking) r) ≡ resumed d c (plain s)
  pub number : r.number ≡ (resumed d c (plain s)).known
  pub stands : ReadStands sealed hashed seed f c r
  pub role_is : role ≡ roles_at c r.number d

-- it is one of so many, and its last operation is behind the base
abbrev pub IsTakeable : ℕ → ℕ → Option Own → Type 0
IsTakeable len base None = Unit {0}
IsTakeable len base (Some own) = (1 ≤ own.number) × (own.number ≤ len) × (base ≤ own.last)

-- why a journal is foreign whatever stands beyond its known revision
abbrev pub IsStrange : ℕ → List (List ℕ) → ℕ → List ℕ → List Op → Type 0
IsStrange d hashes known hash queue = (length hashes < known) ⊎ ((hash ≢ hash_at hashes known) ⊎ (((known ≡ 0) × (0 < length queue)) ⊎ ¬ AreOf d queue))

-- the number of the revision that an opening goes on with: the last of so many, where nothing waits
abbrev pub target_of : ℕ → List Op → ℕ → ℕ
target_of known [] len = len
target_of known (op ∷ ops) len = known
