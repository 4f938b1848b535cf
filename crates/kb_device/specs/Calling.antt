-- What a file call does to a session.
use Rattle.std.specs.Prelude.{◌≡◌, ℕ, ◌+◌, Bool, true, false, length, None, Result, Ok, Err}
use Rattle.kb_ops.specs.declared.rows.Op.{Op}
use Rattle.kb_ops.specs.declared.requests.PlanFault.{PlanFault}
use Rattle.kb_ops.specs.declared.requests.Planned.{Planned}
use Rattle.kb_ops.specs.declared.requests.Planned.TheVariants as planned
use Rattle.kb_ops.specs.declared.requests.Request.{Request}
use Rattle.kb_ops.specs.Trees.{apply}
use Rattle.kb_ops.specs.Plan.{plan_of}
use Rattle.kb_log.specs.LogList.{area_size}
use Rattle.kb_journal.specs.State.{State, last_seq, done}
use Rattle.kb_journal.specs.Adding.{AddRefuses}
use Rattle.kb_journal.specs.declared.entries.Entry.TheVariants as entry
use Rattle.kb_journal.specs.declared.faults.AddFault.{AddFault}
use Rattle.kb_journal.specs.declared.faults.AddFault.TheVariants as add
use Rattle.kb_device.specs.Answers.{QueueFault}
use Rattle.kb_device.specs.Answers as says
use Rattle.kb_device.specs.Journals.{plain}
use Rattle.kb_keys.specs.Members.{is_writer}
use Rattle.kb_device.specs.Parts.{Takes, QueueRefuses}
use Rattle.kb_device.specs.Inside.{Inside}
use Rattle.kb_device.specs.Stands.{Platter}
use Rattle.kb_device.specs.Noting.{Writes, Stops}
use Rattle.kb_device.specs.declared.called.Called.{Called}
use Rattle.kb_device.specs.declared.called.Called.TheVariants as called
use Rattle.kb_device.specs.declared.called.CallFault.{CallFault}
use Rattle.kb_device.specs.declared.called.CallFault.TheVariants as fault

-- the journal with one more operation
abbrev pub queued : State → Op → State
queued j op = done j (entry.Op op)

-- the session with it: the table that is shown has it, and what was fetched is no plan any more
abbrev pub with_queued : Inside → Op → Inside
with_queued s op = record s { journal = queued s.journal op; shown = apply op s.shown; plan = None }

-- the bytes of an area of the journal
abbrev pub area_of : Platter → ℕ
area_of disk = area_size (length disk.content)

-- what the request comes to
abbrev pub plan_in : ℕ → Inside → Request → ℕ → Result Planned PlanFault
plan_in d s request moment = plan_of s.shown request d (last_seq s.journal + 1) moment

-- it is this plan; memory may lack
abbrev pub IsPlan : Result Planned PlanFault → Result Planned CallFault → Type 0
IsPlan plan (Ok made) = plan ≡ Ok made
IsPlan plan (Err (fault.ByPlan why)) = plan ≡ Err why
IsPlan plan (Err fault.Memory) = Unit {0}
IsPlan plan (Err fault) = ⊥

-- the refusal of the journal, or want of memory, with nothing changed
abbrev pub OpRefuses : State → ℕ → Op → Type 0 → AddFault → Type 0
OpRefuses journal area op Unchanged add.Memory = Unchanged
OpRefuses journal area op Unchanged fault = AddRefuses journal area op Unchanged fault

abbrev pub refusal_of_add : AddFault → CallFault
refusal_of_add add.Spent = fault.Spent
refusal_of_add add.QueueFull = fault.QueueFull
refusal_of_add (add.Full need room) = fault.Full need room
refusal_of_add add.Memory = fault.Memory
refusal_of_add add.Stopped = fault.Stopped

-- nothing changed
pub record Stays (s : Inside) (was : Platter) (t : Inside) (now : Platter) : Type 0 where
  pub session : t ≡ s
  pub disk : now ≡ was

-- ---- one operation

module _ (s : Inside) (was : Platter) (op : Op) (t : Inside) (now : Platter) where
  -- the operation stands behind the queue
  pub record Adds (seq : ℕ) : Type 0 where
    pub takes : Takes (plain s.journal) (area_of was) op
    pub seq_is : seq ≡ last_seq s.journal + 1
    pub session : t ≡ with_queued s op
    pub disk : Writes (queued s.journal op) was now

  -- the disk stopped
  pub record Breaks : Type 0 where
    pub takes : Takes (plain s.journal) (area_of was) op
    pub disk : Stops s.journal (queued s.journal op) was now

  -- the journal doesn't take it
  pub record Rejects (why : QueueFault) : Type 0 where
    pub refuses : QueueRefuses (plain s.journal) (area_of was) op why
    pub stays : Stays s was t now

  -- what is done to queue an operation, with this answer
  abbrev pub AddDoes : Result Called CallFault → Type 0
  AddDoes (Ok (called.Done seq)) = Adds seq
  AddDoes (Err fault.Spent) = Rejects says.Spent
  AddDoes (Err fault.QueueFull) = Rejects says.QueueFull
  AddDoes (Err (fault.Full need room)) = Rejects (says.Full need room)
  AddDoes (Err fault.Memory) = Stays s was t now
  AddDoes (Err fault.Stopped) = Breaks
  AddDoes r = ⊥

-- ---- a file call

module _ (d : ℕ) (s : Inside) (was : Platter) (request : Request) (moment : ℕ) (t : Inside) (now : Platter) where
  -- the device may write, its request comes to an operation, and this was done to queue it
  pub record Makes (r : Result Called CallFault) : Type 0 where
    pub op : Op
    pub writes : is_writer s.role ≡ true
    pub plan : plan_in d s request moment ≡ Ok (planned.Made op)
    pub adds : AddDoes s was op t now r

  -- it may write, and its request comes to no operation
  pub record Makes_none (plan : Result Planned PlanFault) : Type 0 where
    pub writes : is_writer s.role ≡ true
    pub plan_is : plan_in d s request moment ≡ plan
    pub stays : Stays s was t now

  -- what a call does that gives this answer
  abbrev pub CallDoes : Result Called CallFault → Type 0
  CallDoes (Ok called.Same) = Makes_none (Ok planned.Same)
  CallDoes (Err fault.Closed) = ⊥
  CallDoes (Err fault.ReadOnly) = Stays s was t now × (is_writer s.role ≡ false)
  CallDoes (Err (fault.ByPlan why)) = Makes_none (Err why)
  CallDoes (Err fault.Memory) = Stays s was t now
  CallDoes r = Makes r

-- this holds of the call, unless the disk stopped
abbrev pub UnlessStopped : Result Called CallFault → Type 0 → Type 0
UnlessStopped (Ok x) P = P
UnlessStopped (Err fault.Stopped) P = Unit {0}
UnlessStopped (Err e) P = P

-- the disk stopped in the call
abbrev pub is_stopped : Result Called CallFault → Bool
is_stopped (Err fault.Stopped) = true
is_stopped r = false
