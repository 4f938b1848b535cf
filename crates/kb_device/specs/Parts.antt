-- The plain machine of one device: what it is asked, what it answers, and how its part goes on.
use Rattle.std.specs.Prelude.{◌≡◌, ℕ, ◌+◌, ◌^◌, ◌-◌, ◌<◌, ◌≤◌, List, [], ◌∷◌, ◌++◌, length, map, take, min, Bool, true, false, Contains, ◌==◌, if◌then◌else◌, Option, None, Some, IsSome, IsSomeAnd, Result, Ok, Err}
use Rattle.std.specs.Option.{option_map_or, is_some}
use Rattle.kb_edge.specs.Disk.{FallsBy}
use Rattle.kb_name.specs.Names.{is_device_name}
use Rattle.kb_name.specs.Moments.{last_second}
use Rattle.kb_ops.specs.declared.rows.Op.{Op}
use Rattle.kb_ops.specs.declared.requests.PlanFault.{PlanFault}
use Rattle.kb_ops.specs.declared.requests.Planned.{Planned}
use Rattle.kb_ops.specs.declared.requests.Planned.TheVariants as planned
use Rattle.kb_ops.specs.declared.requests.Request.{Request}
use Rattle.kb_ops.specs.declared.requests.Show.{Show}
use Rattle.kb_ops.specs.declared.requests.Shown.{Shown}
use Rattle.kb_ops.specs.Trees.{Tree, start, fold_ops}
use Rattle.kb_ops.specs.Plan.{plan_of}
use Rattle.kb_apply.specs.declared.shows.ShowFault.{ShowFault}
use Rattle.kb_apply.specs.Shows.{shown_of}
use Rattle.kb_log.specs.LogList.{area_size}
use Rattle.kb_journal.specs.State.{use_of}
use Rattle.kb_keys.specs.declared.policy.Role.{Role}
use Rattle.kb_rules.specs.declared.report.Report.{Report}
use Rattle.kb_rules.specs.Merge.{report}
use Rattle.kb_snap.specs.Chains.{seq_of_last, Chain, Stepped, Merged, tree_at, moment_of_last, stamp_of}
use Rattle.kb_snap.specs.Members.{roles_of, roles_at, IsStranger}
use Rattle.kb_keys.specs.Members.{is_writer}
use Rattle.kb_snap.specs.Puts.{Ask, PutStep, LostPut}
use Rattle.kb_snap.specs.Lawful.{IsRule}
use Rattle.kb_device.specs.Journals.{Journal, blank, last_seq, queued, taken, branched, taken_over, resumed, returned}
use Rattle.kb_device.specs.Answers.{QueueFault, CallFault, Called, LookFault, TellFault, Status, PickFault, Noted, NoteFault, PullFault, FetchFault, SettleFault, OpenFault, BackupFault, RestoreFault}
use Rattle.kb_snap.specs.Answers.{PutFault}
use Rattle.kb_device.specs.Answers as answers
use Rattle.kb_snap.specs.Answers as folder_says

-- What is in flight: the first operations of the queue, from this seq on and so many, as the revision of this number.
pub record Flight : Type 0 where
  pub first : ℕ
  pub count : ℕ
  pub number : ℕ

-- A device: the journals that an opening may find; whether a session is open, with its flight and its plan, which is
-- the length of the chain that it is to merge into; the tree and the device's own role at the known revision, so that
-- its calls need no chain; the bytes of an area of its journal; how many steps of its disk succeed for sure, where that
-- is set; the operations that were acknowledged, and the one whose call was stopped since the last opening; and the
-- journal that the folder's shelf keeps of it.
pub record Part : Type 0 where
  pub may : List Journal
  pub is_open : Bool
  pub flight : Option Flight
  pub plan : Option ℕ
  pub base : Tree
  pub role : Option Role
  pub area : ℕ
  pub left : Option ℕ
  pub acknowledged : List Op
  pub stopped : Option Op
  pub shelved : Option Journal

-- a device with a new disk of this size
abbrev pub new_part : ℕ → Part
new_part size = record { may = blank ∷ []; is_open = false; flight = None; plan = None; base = start; role = None; area = area_size size; left = None; acknowledged = []; stopped = None; shelved = None }

-- a session is open on this journal
pub record IsOpenAt (p : Part) (j : Journal) : Type 0 where
  pub session : p.is_open ≡ true
  pub journal_is : p.may ≡ j ∷ []

-- the session ended
abbrev pub closed : Part → Part
closed p = record p { is_open = false; flight = None; plan = None }

-- the disk stopped, which ends the session
abbrev pub ended : Part → Part
ended p = record (closed p) { left = Some 0 }

-- a disk may stop in a call that writes one record
abbrev pub IsLow : Part → Type 0
IsLow p = IsSomeAnd p.left (λ n. n < 4)

-- the tree that the device's user sees
abbrev pub tree_shown : Part → Journal → Tree
tree_shown p j = fold_ops j.queue p.base

-- ---- file calls

-- what the request comes to
abbrev pub plan_at : ℕ → Part → Journal → Request → ℕ → Result Planned PlanFault
plan_at d p j request moment = plan_of (tree_shown p j) request d (last_seq j + 1) moment

-- a device that may write is open, and the request comes to this operation
pub record Makes (d : ℕ) (p : Part) (request : Request) (moment : ℕ) (j : Journal) (op : Op) : Type 0 where
  pub at : IsOpenAt p j
  pub writes : is_writer p.role ≡ true
  pub plan : plan_at d p j request moment ≡ Ok (planned.Made op)

-- there is a seq for it, the queue has room, and the journal with it fits an area
pub record Takes (j : Journal) (area : ℕ) (op : Op) : Type 0 where
  pub seq : last_seq j + 1 < 2 ^ 32
  pub few : length j.queue < 4096
  pub fits : use_of (j.queue ++ op ∷ []) ≤ area

-- the first reason that applies
abbrev pub QueueRefuses : Journal → ℕ → Op → QueueFault → Type 0
QueueRefuses j area op answers.Spent = last_seq j ≡ 2 ^ 32 - 1
QueueRefuses j area op answers.QueueFull = (last_seq j + 1 < 2 ^ 32) × (4096 ≤ length j.queue)
QueueRefuses j area op (answers.Full need room) = (last_seq j + 1 < 2 ^ 32) × (length j.queue < 4096) × (need ≡ use_of (j.queue ++ op ∷ [])) × (room ≡ area) × (area < need)

-- the operation stands behind the queue and is acknowledged, and what was fetched is no plan any more
pub record Adds (d : ℕ) (old : Part) (request : Request) (moment seq : ℕ) (new : Part) : Type 0 where
  pub journal : Journal
  pub op : Op
  pub makes : Makes d old request moment journal op
  pub takes : Takes journal old.area op
  pub seq_is : seq ≡ last_seq journal + 1
  pub left : Option ℕ
  pub falls : FallsBy 4 old.left left
  pub part : new ≡ record old { may = queued op journal ∷ []; plan = None; left = left; acknowledged = old.acknowledged ++ op ∷ [] }

-- the disk stopped: the operation stands behind the queue or it doesn't
pub record Breaks (d : ℕ) (old : Part) (request : Request) (moment : ℕ) (new : Part) : Type 0 where
  pub journal : Journal
  pub op : Op
  pub makes : Makes d old request moment journal op
  pub takes : Takes journal old.area op
  pub low : IsLow old
  pub part : new ≡ record (ended old) { may = journal ∷ queued op journal ∷ []; stopped = Some op }

-- there is an operation, and the journal doesn't take it
pub record Rejects (d : ℕ) (p : Part) (request : Request) (moment : ℕ) (fault : QueueFault) : Type 0 where
  pub journal : Journal
  pub op : Op
  pub makes : Makes d p request moment journal op
  pub refuses : QueueRefuses journal p.area op fault

-- the request asks for what is so already
pub record Agrees (d : ℕ) (p : Part) (request : Request) (moment : ℕ) : Type 0 where
  pub journal : Journal
  pub at : IsOpenAt p journal
  pub writes : is_writer p.role ≡ true
  pub plan : plan_at d p journal request moment ≡ Ok planned.Same

-- the plan is refused
pub record Declines (d : ℕ) (p : Part) (request : Request) (moment : ℕ) (fault : PlanFault) : Type 0 where
  pub journal : Journal
  pub at : IsOpenAt p journal
  pub writes : is_writer p.role ≡ true
  pub plan : plan_at d p journal request moment ≡ Err fault

-- the device is no writer at its known revision
pub record MayNotWrite (p : Part) : Type 0 where
  pub session : p.is_open ≡ true
  pub reads : is_writer p.role ≡ false

-- a file call of the device with this number may give this answer and go on to this part
abbrev pub CallStep : ℕ → Part → Request → ℕ → Result Called CallFault → Part → Type 0
CallStep d p request moment (Ok (answers.Done seq)) q = Adds d p request moment seq q
CallStep d p request moment (Ok answers.Same) q = (q ≡ p) × Agrees d p request moment
CallStep d p request moment (Err answers.CallFault.Closed) q = (q ≡ p) × (p.is_open ≡ false)
CallStep d p request moment (Err answers.CallFault.ReadOnly) q = (q ≡ p) × MayNotWrite p
CallStep d p request moment (Err (answers.CallFault.ByPlan fault)) q = (q ≡ p) × Declines d p request moment fault
CallStep d p request moment (Err (answers.CallFault.ByQueue fault)) q = (q ≡ p) × Rejects d p request moment fault
CallStep d p request moment (Err answers.CallFault.Stopped) q = Breaks d p request moment q

-- ---- shows and status

abbrev pub shown_at : Part → Journal → Show → Result Shown ShowFault
shown_at p j show = shown_of (tree_shown p j) show j.known (length j.queue)

-- a show may give this answer, and leaves the part as it is
abbrev pub LookStep : Part → Show → Result Shown LookFault → Type 0
LookStep p show (Ok shown) = (j : Journal) × IsOpenAt p j × (shown_at p j show ≡ Ok shown)
LookStep p show (Err answers.LookFault.Closed) = p.is_open ≡ false
LookStep p show (Err (answers.LookFault.ByShow fault)) = (j : Journal) × IsOpenAt p j × (shown_at p j show ≡ Err fault)

abbrev pub status_of : Option Flight → Journal → Status
status_of flight j = record { at = j.known; queue = length j.queue; last = last_seq j; branched = j.mark; flight = is_some flight }

-- a status may be this answer, and leaves the part as it is
abbrev pub TellStep : Part → Result Status TellFault → Type 0
TellStep p (Ok status) = (j : Journal) × IsOpenAt p j × (status ≡ status_of p.flight j)
TellStep p (Err answers.TellFault.Closed) = p.is_open ≡ false

-- ---- flights

-- the first operations of the queue, at most so many, as the revision behind the known one
abbrev pub flight_of : ℕ → Journal → Flight
flight_of most j = record { first = j.base + 1; count = min most (length j.queue); number = j.known + 1 }

-- the step that a flight asks for
abbrev pub ask_of : ℕ → List ℕ → Journal → Flight → Ask
ask_of d name j flight =
    let ops = take flight.count j.queue in
    record { number = flight.number; revision = record { writer = d; name = name; moment = moment_of_last ops; deed = Stepped ops } }

-- the device keeps this flight, and this is asked for
pub record Picks (most d : ℕ) (name : List ℕ) (old : Part) (flight : Flight) (ask : Ask) (new : Part) : Type 0 where
  pub journal : Journal
  pub at : IsOpenAt old journal
  pub free : old.flight ≡ None
  pub clear : journal.mark ≡ false
  pub some : 0 < length journal.queue
  pub flight_is : flight ≡ flight_of most journal
  pub ask_is : ask ≡ ask_of d name journal flight
  pub part : new ≡ record old { flight = Some flight }

-- A pick of at most so many operations, by the device with this number and name, may give this answer and go on to
-- this part.
abbrev pub PickStep : ℕ → ℕ → List ℕ → Part → Result (Flight × Ask) PickFault → Part → Type 0
PickStep most d name p (Ok picked) q = Picks most d name p picked.0 picked.1 q
PickStep most d name p (Err answers.PickFault.Closed) q = (q ≡ p) × (p.is_open ≡ false)
PickStep most d name p (Err answers.PickFault.InFlight) q = (q ≡ p) × (p.is_open ≡ true) × IsSome p.flight
PickStep most d name p (Err answers.PickFault.Branched) q = (q ≡ p) × (p.flight ≡ None) × ((j : Journal) × IsOpenAt p j × (j.mark ≡ true))
PickStep most d name p (Err answers.PickFault.Idle) q = (q ≡ p) × (p.flight ≡ None) × ((j : Journal) × IsOpenAt p j × (j.mark ≡ false) × (j.queue ≡ []))

-- a flight is kept, by a session on this journal
pub record Flies (p : Part) (j : Journal) (flight : Flight) : Type 0 where
  pub at : IsOpenAt p j
  pub flight_is : p.flight ≡ Some flight

-- the flight landed: its operations leave the queue, and the tree of the known revision has them
pub record Lands (old : Part) (number n : ℕ) (new : Part) : Type 0 where
  pub journal : Journal
  pub flight : Flight
  pub flies : Flies old journal flight
  pub number_is : n ≡ number
  pub left : Option ℕ
  pub falls : FallsBy 4 old.left left
  pub part : new ≡ record old { may = taken number flight.count journal ∷ []; flight = None; base = fold_ops (take flight.count journal.queue) old.base; left = left }

-- another revision came first: the queue is a branch
pub record Parts (old : Part) (at : ℕ) (new : Part) : Type 0 where
  pub journal : Journal
  pub flight : Flight
  pub flies : Flies old journal flight
  pub at_is : at ≡ journal.known
  pub left : Option ℕ
  pub falls : FallsBy 4 old.left left
  pub part : new ≡ record old { may = branched journal ∷ []; flight = None; left = left }

-- the folder refused otherwise: the operations wait on
pub record Keeps (old new : Part) : Type 0 where
  pub session : old.is_open ≡ true
  pub flies : IsSome old.flight
  pub part : new ≡ record old { flight = None }

-- the disk stopped as the note was written, which leaves the journal before or after
pub record NoteBreaks (old : Part) (after : Flight → Journal → Journal) (new : Part) : Type 0 where
  pub journal : Journal
  pub flight : Flight
  pub flies : Flies old journal flight
  pub low : IsLow old
  pub part : new ≡ record (ended old) { may = journal ∷ after flight journal ∷ [] }

-- the disk stopped as the answer was noted
abbrev pub NoteStops : Result ℕ PutFault → Part → Part → Type 0
NoteStops (Ok number) p q = NoteBreaks p (λ flight j. taken number flight.count j) q
NoteStops (Err (folder_says.PutFault.Stale len)) p q = NoteBreaks p (λ flight j. branched j) q
NoteStops (Err fault) p q = ⊥

-- the put was refused, and not since another revision came first
abbrev pub IsRefused : Result ℕ PutFault → Type 0
IsRefused (Ok number) = ⊥
IsRefused (Err (folder_says.PutFault.Stale len)) = ⊥
IsRefused (Err fault) = Unit {0}

-- A note of this answer to the flight's put may give this answer and go on to this part.
abbrev pub NoteStep : Part → Result ℕ PutFault → Result Noted NoteFault → Part → Type 0
NoteStep p put (Ok (answers.Landed n)) q = (number : ℕ) × (put ≡ Ok number) × Lands p number n q
NoteStep p put (Ok (answers.Noted.Branched at)) q = (len : ℕ) × (put ≡ Err (folder_says.PutFault.Stale len)) × Parts p at q
NoteStep p put (Ok answers.Kept) q = IsRefused put × Keeps p q
NoteStep p put (Err answers.NoteFault.Closed) q = (q ≡ p) × (p.is_open ≡ false)
NoteStep p put (Err answers.NoteFault.NoFlight) q = (q ≡ p) × (p.is_open ≡ true) × (p.flight ≡ None)
NoteStep p put (Err answers.NoteFault.Stopped) q = NoteStops put p q

-- ---- what others did

-- the last revision is known
pub record Pulls (d : ℕ) (c : Chain) (old : Part) (n : ℕ) (new : Part) : Type 0 where
  pub journal : Journal
  pub at : IsOpenAt old journal
  pub member : ¬ IsStranger c d
  pub flushed : journal.queue ≡ []
  pub number : n ≡ length c
  pub left : Option ℕ
  pub falls : FallsBy 4 old.left left
  pub part : new ≡ record old { may = record journal { known = n } ∷ []; base = tree_at c n; role = roles_of c d; left = left }

pub record PullBreaks (d : ℕ) (c : Chain) (old new : Part) : Type 0 where
  pub journal : Journal
  pub at : IsOpenAt old journal
  pub member : ¬ IsStranger c d
  pub flushed : journal.queue ≡ []
  pub low : IsLow old
  pub part : new ≡ record (ended old) { may = journal ∷ record journal { known = length c } ∷ [] }

abbrev pub PullStep : ℕ → Chain → Part → Result ℕ PullFault → Part → Type 0
PullStep d c p (Ok n) q = Pulls d c p n q
PullStep d c p (Err answers.PullFault.Closed) q = (q ≡ p) × (p.is_open ≡ false)
PullStep d c p (Err answers.PullFault.NotMember) q = (q ≡ p) × (p.is_open ≡ true) × IsStranger c d
PullStep d c p (Err answers.PullFault.Unflushed) q = (q ≡ p) × ¬ IsStranger c d × ((j : Journal) × IsOpenAt p j × (0 < length j.queue))
PullStep d c p (Err answers.PullFault.Stopped) q = PullBreaks d c p q

-- the chain as it is now is what the branch is to be merged into
pub record Fetches (d : ℕ) (c : Chain) (old : Part) (n : ℕ) (new : Part) : Type 0 where
  pub journal : Journal
  pub at : IsOpenAt old journal
  pub member : ¬ IsStranger c d
  pub marked : journal.mark ≡ true
  pub number : n ≡ length c
  pub part : new ≡ record old { plan = Some n }

abbrev pub FetchStep : ℕ → Chain → Part → Result ℕ FetchFault → Part → Type 0
FetchStep d c p (Ok n) q = Fetches d c p n q
FetchStep d c p (Err answers.FetchFault.Closed) q = (q ≡ p) × (p.is_open ≡ false)
FetchStep d c p (Err answers.FetchFault.NotMember) q = (q ≡ p) × (p.is_open ≡ true) × IsStranger c d
FetchStep d c p (Err answers.FetchFault.NoBranch) q = (q ≡ p) × ¬ IsStranger c d × ((j : Journal) × IsOpenAt p j × (j.mark ≡ false))

-- ---- resolutions

-- who merges, when, and by which rule
pub record Merger : Type 0 where
  pub name : List ℕ
  pub moment : ℕ
  pub rule : ℕ

pub record IsMerger (by : Merger) : Type 0 where
  pub name : is_device_name by.name ≡ true
  pub moment : by.moment ≤ last_second
  pub rule : IsRule by.rule

-- the merge that a settle asks for
abbrev pub merge_ask : ℕ → Merger → Journal → ℕ → Ask
merge_ask d by j plan = record { number = plan + 1; revision = record { writer = d; name = by.name; moment = by.moment; deed = Merged j.known by.rule j.queue } }

-- what the merge of a plan did
abbrev pub report_at : ℕ → Merger → Part → Chain → Journal → ℕ → Report
report_at d by p c j plan = report p.base (tree_at c plan) (tree_shown p j) (stamp_of (merge_ask d by j plan).revision by.rule j.queue)

-- a plan is there, on this journal
pub record HasPlan (p : Part) (j : Journal) (plan : ℕ) : Type 0 where
  pub at : IsOpenAt p j
  pub plan_is : p.plan ≡ Some plan

-- the folder took the merge, and it is known
pub record Settles (d : ℕ) (by : Merger) (c : Chain) (old : Part) (n : ℕ) (did : Report) (c' : Chain) (new : Part) : Type 0 where
  pub journal : Journal
  pub plan : ℕ
  pub planned : HasPlan old journal plan
  pub put : PutStep c (merge_ask d by journal plan) (Ok n) c'
  pub report : did ≡ report_at d by old c journal plan
  pub left : Option ℕ
  pub falls : FallsBy 4 old.left left
  pub part : new ≡ record old { may = taken n (length journal.queue) journal ∷ []; plan = None; base = tree_at c' n; role = roles_of c' d; left = left }

-- the folder took the merge, and the disk stopped as it was noted
pub record SettleBreaks (d : ℕ) (by : Merger) (c : Chain) (old : Part) (c' : Chain) (new : Part) : Type 0 where
  pub journal : Journal
  pub plan : ℕ
  pub planned : HasPlan old journal plan
  pub put : PutStep c (merge_ask d by journal plan) (Ok (plan + 1)) c'
  pub low : IsLow old
  pub part : new ≡ record (ended old) { may = journal ∷ taken (plan + 1) (length journal.queue) journal ∷ [] }

-- the folder refused the merge, and the plan is dropped
pub record SettleFails (d : ℕ) (by : Merger) (c : Chain) (old : Part) (fault : PutFault) (c' : Chain) (new : Part) : Type 0 where
  pub journal : Journal
  pub plan : ℕ
  pub planned : HasPlan old journal plan
  pub put : PutStep c (merge_ask d by journal plan) (Err fault) c'
  pub part : new ≡ record old { plan = None }

-- the link lost the merge or the folder's answer, and the session ended
pub record SettleLoses (d : ℕ) (by : Merger) (c : Chain) (old : Part) (lost : Option (Result ℕ PutFault)) (c' : Chain) (new : Part) : Type 0 where
  pub journal : Journal
  pub plan : ℕ
  pub planned : HasPlan old journal plan
  pub put : LostPut c (merge_ask d by journal plan) lost c'
  pub part : new ≡ closed old

abbrev pub SettleStep : ℕ → Merger → Chain → Part → Result (ℕ × Report) SettleFault → Chain → Part → Type 0
SettleStep d by c p (Ok merged) c' q = Settles d by c p merged.0 merged.1 c' q
SettleStep d by c p (Err answers.SettleFault.Closed) c' q = (c' ≡ c) × (q ≡ p) × (p.is_open ≡ false)
SettleStep d by c p (Err answers.SettleFault.NoPlan) c' q = (c' ≡ c) × (q ≡ p) × (p.is_open ≡ true) × (p.plan ≡ None)
SettleStep d by c p (Err (answers.SettleFault.LinkFault lost)) c' q = SettleLoses d by c p lost c' q
SettleStep d by c p (Err (answers.SettleFault.ByPut fault)) c' q = SettleFails d by c p fault c' q
SettleStep d by c p (Err answers.SettleFault.Stopped) c' q = SettleBreaks d by c p c' q

-- ---- fuse and power

-- the disk is armed
abbrev pub armed : ℕ → Part → Part
armed steps p = record p { left = Some steps }

-- the power was cut and put on again
abbrev pub powered : Part → Part
powered p = record (closed p) { left = None }

-- ---- openings

-- what is acknowledged once an opening has found this journal: also the operation whose call was stopped, where it is there
abbrev pub acknowledged_at : Part → Journal → List Op
acknowledged_at p found = option_map_or (λ (op : Op). if last_seq found == op.seq then p.acknowledged ++ op ∷ [] else p.acknowledged) p.stopped p.acknowledged

-- a session on what an opening goes on with, once it has found this journal
abbrev pub opened : ℕ → Chain → Part → Journal → Option ℕ → Part
opened d c p found left =
    let j = resumed d c found in
    record p { may = j ∷ []; is_open = true; flight = None; plan = None; base = tree_at c j.known; role = roles_at c j.known d; left = left; acknowledged = acknowledged_at p found; stopped = None }

pub record Opens (d : ℕ) (c : Chain) (old : Part) (status : Status) (new : Part) : Type 0 where
  pub closed : old.is_open ≡ false
  pub member : ¬ IsStranger c d
  pub found : Journal
  pub may : Contains old.may found
  pub status_is : status ≡ status_of None (resumed d c found)
  pub left : Option ℕ
  pub falls : FallsBy 9 old.left left
  pub part : new ≡ opened d c old found left

-- the disk stopped: what was there may be there, or that once a landed revision was taken over, or what an opening goes
-- on with
pub record NotOpened (d : ℕ) (c : Chain) (old new : Part) : Type 0 where
  pub closed : old.is_open ≡ false
  pub member : ¬ IsStranger c d
  pub low : IsSomeAnd old.left (λ n. n < 9)
  pub part : new ≡ record old { may = old.may ++ (map (taken_over d c) old.may ++ map (resumed d c) old.may); left = Some 0 }

-- An opening over the chain may give this answer and go on to this part. A disk that the device alone has used is a
-- journal of its own that meets the chain, and the folder is whole.
abbrev pub OpenStep : ℕ → Chain → Part → Result Status OpenFault → Part → Type 0
OpenStep d c p (Ok status) q = Opens d c p status q
OpenStep d c p (Err answers.AlreadyOpen) q = (q ≡ p) × (p.is_open ≡ true)
OpenStep d c p (Err answers.OpenFault.NotMember) q = (q ≡ p) × (p.is_open ≡ false) × IsStranger c d
OpenStep d c p (Err answers.OpenFault.Stopped) q = NotOpened d c p q
OpenStep d c p (Err answers.BadDisk) q = ⊥
OpenStep d c p (Err (answers.Foreign known)) q = ⊥
OpenStep d c p (Err (answers.BadFolder number)) q = ⊥

-- an opening that ended for want of memory: its disk may have done one step
pub record Lowered (old new : Part) : Type 0 where
  pub closed : old.is_open ≡ false
  pub left : Option ℕ
  pub falls : FallsBy 1 old.left left
  pub part : new ≡ record old { left = left }

-- ---- backups

-- the shelf has the journal
pub record Shelves (d : ℕ) (c : Chain) (old : Part) (told : ℕ × ℕ) (new : Part) : Type 0 where
  pub journal : Journal
  pub at : IsOpenAt old journal
  pub member : ¬ IsStranger c d
  pub told_is : told ≡ (length journal.queue, last_seq journal)
  pub part : new ≡ record old { shelved = Some journal }

abbrev pub BackupStep : ℕ → Chain → Part → Result (ℕ × ℕ) BackupFault → Part → Type 0
BackupStep d c p (Ok told) q = Shelves d c p told q
BackupStep d c p (Err answers.BackupFault.Closed) q = (q ≡ p) × (p.is_open ≡ false)
BackupStep d c p (Err answers.BackupFault.NotMember) q = (q ≡ p) × (p.is_open ≡ true) × IsStranger c d

-- the seq of the last operation that was acknowledged
abbrev pub last_acknowledged : Part → ℕ
last_acknowledged p = seq_of_last p.acknowledged

-- a member that isn't open has this on the shelf, which has all that was acknowledged
pub record HasShelved (d : ℕ) (c : Chain) (p : Part) (kept : Journal) : Type 0 where
  pub closed : p.is_open ≡ false
  pub member : ¬ IsStranger c d
  pub shelved : p.shelved ≡ Some kept
  pub whole : last_acknowledged p ≤ last_seq kept

-- the state that is made of it stands alone on a new disk of this size
abbrev pub restored : ℕ → Journal → Part → Part
restored size j p = record p { may = j ∷ []; area = area_size size; left = None }

pub record Restores (d : ℕ) (c : Chain) (size : ℕ) (old : Part) (told : ℕ × ℕ) (new : Part) : Type 0 where
  pub kept : Journal
  pub has : HasShelved d c old kept
  pub fits : use_of (returned d c kept).queue ≤ area_size size
  pub told_is : told ≡ (length (returned d c kept).queue, last_seq (returned d c kept))
  pub part : new ≡ restored size (returned d c kept) old

-- the shelf's journal lacks what was acknowledged since
pub record IsBehind (d : ℕ) (c : Chain) (p : Part) (kept_last last : ℕ) : Type 0 where
  pub closed : p.is_open ≡ false
  pub member : ¬ IsStranger c d
  pub kept : Journal
  pub shelved : p.shelved ≡ Some kept
  pub kept_is : kept_last ≡ last_seq kept
  pub last_is : last ≡ last_acknowledged p
  pub less : kept_last < last

-- it has no room on the new disk
pub record IsTooMuch (d : ℕ) (c : Chain) (size : ℕ) (p : Part) (need room : ℕ) : Type 0 where
  pub kept : Journal
  pub has : HasShelved d c p kept
  pub need_is : need ≡ use_of (returned d c kept).queue
  pub room_is : room ≡ area_size size
  pub over : room < need

abbrev pub RestoreStep : ℕ → Chain → ℕ → Part → Result (ℕ × ℕ) RestoreFault → Part → Type 0
RestoreStep d c size p (Ok told) q = Restores d c size p told q
RestoreStep d c size p (Err answers.RestoreFault.AlreadyOpen) q = (q ≡ p) × (p.is_open ≡ true)
RestoreStep d c size p (Err answers.RestoreFault.NotMember) q = (q ≡ p) × (p.is_open ≡ false) × IsStranger c d
RestoreStep d c size p (Err answers.NoBackup) q = (q ≡ p) × (p.is_open ≡ false) × ¬ IsStranger c d × (p.shelved ≡ None)
RestoreStep d c size p (Err (answers.Behind kept last)) q = (q ≡ p) × IsBehind d c p kept last
RestoreStep d c size p (Err (answers.RestoreFault.Full need room)) q = (q ≡ p) × IsTooMuch d c size p need room
