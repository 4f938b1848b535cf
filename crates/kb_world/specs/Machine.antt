-- The plain machine: a seed, a moment, a chain and devices, moved by statements. A statement is a row of parts; what
-- the parts so far have replied says which comes next.
use Rattle.std.specs.Prelude.{◌≡◌, ◌⊎◌, ℕ, ◌+◌, ◌-◌, ◌≤◌, ◌<◌, List, [], ◌∷◌, ◌++◌, length, true, false, Option, Some, None, Result, Ok, Err, slice_get, slice_set, replicate}
use Rattle.std.specs.Option.{option_map}
use Rattle.kb_edge.specs.declared.link.Side.{Side}
use Rattle.kb_name.specs.Names.{is_device_name}
use Rattle.kb_name.specs.Moments.{last_second}
use Rattle.kb_ops.specs.declared.requests.Shown.{Shown}
use Rattle.kb_keys.specs.declared.policy.Action.{Action}
use Rattle.kb_rules.specs.declared.report.Report.{Report}
use Rattle.kb_ops.specs.Trees.{Tree}
use Rattle.kb_snap.specs.Answers.{ReclaimFault, PastFault, PutFault, RekeyFault}
use Rattle.kb_snap.specs.Chains.{Chain, Founded, Rekeyed, most_in_step}
use Rattle.kb_snap.specs.Lawful.{IsRule}
use Rattle.kb_snap.specs.Puts.{Ask, PutStep, LostPut}
use Rattle.kb_device.specs.Answers.{LookFault, Status, TellFault, Noted, NoteFault, SettleFault}
use Rattle.kb_device.specs.Answers as answers
use Rattle.kb_device.specs.Parts.{Merger, Part, Flight, new_part, closed, CallStep, LookStep, TellStep, PickStep, NoteStep, PullStep, FetchStep, SettleStep, OpenStep, BackupStep, RestoreStep, Lowered, armed, powered}
use Rattle.kb_world.specs.Statements.{View, Turn, Act, SetSeed, Declare, DoFound, DoRekey, SetMoment, SetRule, See, On, ListChain, AuditChain, Statement, LandFault, Reply, Silent, Off, ByRekey, ByCall, ByLook, ByStatus, ByPick, ByLand, ByNote, ByPull, ByFetch, BySettle, ByOpen, ByBackup, ByRestore, ByPast, ByReclaim, Lists, Audited}
use Rattle.kb_world.specs.Statements as statements
use Rattle.kb_snap.specs.PastViews.{PastStep, ReclaimStep}
use Rattle.kb_device.specs.Links.{lost_side, LinkAfter}
use Rattle.kb_device.specs.Waits.{Answered, Asked, Nothing, Waiting, waiting_if}
use Rattle.kb_snap.specs.Rekeys.{RekeyStep}

-- a declared device, the side at which its link is armed, and how many operations a step of it takes at most; devices are
-- numbered from 1 in the order in which they are declared
pub record Member : Type 0 where
  pub name : List ℕ
  pub part : Part
  pub waiting : Waiting
  pub link : Option Side
  pub batch : ℕ

-- the rule is that of the merges that follow
pub record State : Type 0 where
  pub seed : List ℕ
  pub moment : ℕ
  pub rule : ℕ
  pub chain : Chain
  pub members : List Member

-- so many devices may be declared
abbrev pub most_devices : ℕ
most_devices = 32

-- a disk may have so many bytes
pub record IsDiskSize (size : ℕ) : Type 0 where
  pub from : 4096 ≤ size
  pub to : size ≤ 16777216

-- a device with a new disk of this size
abbrev pub new_member : List ℕ → ℕ → Member
new_member name size = record { name = name; part = new_part size; waiting = Nothing; link = None; batch = 1 }

-- the rule of merges where no statement has set another: files of one name that both sides made are two
abbrev pub first_rule : ℕ
first_rule = 1

-- the new machine
abbrev pub new_state : State
new_state = record { seed = replicate 32 0; moment = 0; rule = first_rule; chain = []; members = [] }

-- ---- the part that comes next

-- the last reply
abbrev pub last_reply : List Reply → Option Reply
last_reply [] = None
last_reply (reply ∷ []) = Some reply
last_reply (reply ∷ next ∷ replies) = last_reply (next ∷ replies)

-- a statement of one part
abbrev pub once : Act → Option Reply → Option Act
once act None = Some act
once act (Some reply) = None

-- the parts of flushes, drains and resolutions
pub data Stage : Type 0 where
  ToPick : Stage
  ToLand : Stage
  ToNote : Stage
  ToFetch : Stage
  ToSettle : Stage

abbrev pub stage_act : ℕ → Stage → Act
stage_act d ToPick = On d statements.Pick
stage_act d ToLand = On d statements.Land
stage_act d ToNote = On d statements.Note
stage_act d ToFetch = On d statements.Fetch
stage_act d ToSettle = On d statements.Settle

-- pick, land and note; where the pick is refused, it alone; where the link lost the put, no note
abbrev pub flush_stage : Option Reply → Option Stage
flush_stage None = Some ToPick
flush_stage (Some (ByPick (Ok picked))) = Some ToLand
flush_stage (Some (ByLand (Err (statements.LinkFault lost)))) = None
flush_stage (Some (ByLand landed)) = Some ToNote
flush_stage (Some reply) = None

-- and again where the put landed and was noted
abbrev pub drain_stage : Option Reply → Option Stage
drain_stage (Some (ByNote (Ok (answers.Landed n)))) = Some ToPick
drain_stage before = flush_stage before

-- fetch and settle; where the fetch is refused, it alone
abbrev pub resolve_stage : Option Reply → Option Stage
resolve_stage None = Some ToFetch
resolve_stage (Some (ByFetch (Ok n))) = Some ToSettle
resolve_stage (Some reply) = None

-- the part that comes next in a statement, after parts of which the last gave this reply
abbrev pub next_after : Statement → Option Reply → Option Act
next_after (statements.Do act) before = once act before
next_after (statements.Flush d) before = option_map (stage_act d) (flush_stage before)
next_after (statements.Drain d) before = option_map (stage_act d) (drain_stage before)
next_after (statements.Resolve d) before = option_map (stage_act d) (resolve_stage before)

abbrev pub next : Statement → List Reply → Option Act
next statement before = next_after statement (last_reply before)

-- the device went on to this part
abbrev pub went : Member → Part → Member
went m part = record m { part = part; waiting = waiting_if part.is_open m.waiting }

-- the reply to a put
abbrev pub landed : Result ℕ PutFault → Result ℕ LandFault
landed (Ok n) = Ok n
landed (Err fault) = Err (statements.ByFolder fault)

-- no request waits
abbrev pub IsNotAsked : Waiting → Type 0
IsNotAsked Nothing = Unit {0}
IsNotAsked (Asked ask) = ⊥
IsNotAsked (Answered answer) = Unit {0}

-- no answer waits
abbrev pub IsNotAnswered : Waiting → Type 0
IsNotAnswered Nothing = Unit {0}
IsNotAnswered (Asked ask) = Unit {0}
IsNotAnswered (Answered answer) = ⊥

-- why there is nothing to note
abbrev pub NoteCause : Member → NoteFault → Type 0
NoteCause m answers.NoteFault.Closed = m.part.is_open ≡ false
NoteCause m answers.NoteFault.NoFlight = (m.part.is_open ≡ true) × IsNotAnswered m.waiting
NoteCause m answers.NoteFault.Stopped = ⊥

-- the device gives an answer and goes on to a part by this step, and the reply tells the answer
pub record Does {A : Type 0} (goes : A → Part → Type 0) (tells : A → Reply) (reply : Reply) (was is : Member) : Type 0 where
  pub answer : A
  pub part : Part
  pub step : goes answer part
  pub reply_is : reply ≡ tells answer
  pub member : is ≡ went was part

-- a device picks: a request waits where this was not refused
pub record PicksFlight (d : ℕ) (reply : Reply) (was is : Member) : Type 0 where
  pub flight : Flight
  pub ask : Ask
  pub part : Part
  pub step : PickStep was.batch d was.name was.part (Ok (flight, ask)) part
  pub reply_is : reply ≡ ByPick (Ok (flight.first, flight.first + flight.count - 1, flight.number))
  pub member : is ≡ record was { part = part; waiting = Asked ask }

abbrev pub PicksNone : ℕ → Reply → Member → Member → Type 0
PicksNone d reply was is = Does (λ fault q. PickStep was.batch d was.name was.part (Err fault) q) (λ fault. ByPick (Err fault)) reply was is

-- a waiting answer is noted by an open device
pub record NotesAnswer (reply : Reply) (was is : Member) : Type 0 where
  pub session : was.part.is_open ≡ true
  pub put : Result ℕ PutFault
  pub waits : was.waiting ≡ Answered put
  pub answer : Result Noted NoteFault
  pub part : Part
  pub step : NoteStep was.part put answer part
  pub reply_is : reply ≡ ByNote answer
  pub member : is ≡ record was { part = part; waiting = Nothing }

-- no session is open, or no answer waits
pub record NotesNone (reply : Reply) (was is : Member) : Type 0 where
  pub fault : NoteFault
  pub cause : NoteCause was fault
  pub reply_is : reply ≡ ByNote (Err fault)
  pub member : is ≡ was

-- the session ended and what waits is dropped, since the link lost a put; the link is disarmed
abbrev pub cut_off : Member → Member
cut_off m = record m { part = closed m.part; waiting = Nothing; link = None }

-- the waiting request is put, and its answer waits then
pub record PutsAsk (c : Chain) (reply : Reply) (was is : Member) (c' : Chain) : Type 0 where
  pub ask : Ask
  pub waits : was.waiting ≡ Asked ask
  pub carried : was.link ≡ None
  pub answer : Result ℕ PutFault
  pub step : PutStep c ask answer c'
  pub reply_is : reply ≡ ByLand (landed answer)
  pub member : is ≡ record was { waiting = Answered answer }

-- the waiting request is lost, or its answer
pub record LosesAsk (c : Chain) (reply : Reply) (was is : Member) (c' : Chain) : Type 0 where
  pub ask : Ask
  pub waits : was.waiting ≡ Asked ask
  pub lost : Option (Result ℕ PutFault)
  pub side : was.link ≡ Some (lost_side lost)
  pub step : LostPut c ask lost c'
  pub reply_is : reply ≡ ByLand (Err (statements.LinkFault lost))
  pub member : is ≡ cut_off was

-- no request waits
pub record PutsNone (reply : Reply) (was is : Member) : Type 0 where
  pub none : IsNotAsked was.waiting
  pub reply_is : reply ≡ ByLand (Err statements.NoFlight)
  pub member : is ≡ was

-- a device that merges now
abbrev pub merger : State → Member → Merger
merger s m = record { name = m.name; moment = s.moment; rule = s.rule }

-- the device settles over its link
pub record Settling (d : ℕ) (s : State) (reply : Reply) (was is : Member) (c : Chain) : Type 0 where
  pub answer : Result (ℕ × Report) SettleFault
  pub part : Part
  pub step : SettleStep d (merger s was) s.chain was.part answer c part
  pub link : Option Side
  pub after : LinkAfter was.link answer link
  pub reply_is : reply ≡ BySettle answer
  pub member : is ≡ record (went was part) { link = link }

-- the device with this number goes on by this step, to this chain, and nothing else changes
pub record Turns (d : ℕ) (goes : Member → Member → Chain → Type 0) (old new : State) : Type 0 where
  pub was : Member
  pub is : Member
  pub chain : Chain
  pub numbered : 1 ≤ d
  pub found : slice_get old.members (d - 1) ≡ Some was
  pub step : goes was is chain
  pub state : new ≡ record old { chain = chain; members = slice_set old.members (d - 1) is }

-- the device shows or tells, and nothing changes
pub record Shows (d : ℕ) (shown : Member → Type 0) (old new : State) : Type 0 where
  pub member : Member
  pub numbered : 1 ≤ d
  pub found : slice_get old.members (d - 1) ≡ Some member
  pub shows : shown member
  pub state : new ≡ old

pub record Rekeys (by : ℕ) (action : Action) (who : ℕ) (reply : Reply) (old new : State) : Type 0 where
  pub member : Member
  pub numbered : 1 ≤ by
  pub found : slice_get old.members (by - 1) ≡ Some member
  pub declared : (1 ≤ who) × (who ≤ length old.members)
  pub answer : Result ℕ RekeyFault
  pub chain : Chain
  pub step : RekeyStep old.chain (record { writer = by; name = member.name; moment = old.moment; deed = Rekeyed action who }) by action who answer chain
  pub reply_is : reply ≡ ByRekey answer
  pub state : new ≡ record old { chain = chain }

-- the first revision is made
pub record Founds (d : ℕ) (old new : State) : Type 0 where
  pub member : Member
  pub numbered : 1 ≤ d
  pub found : slice_get old.members (d - 1) ≡ Some member
  pub none : old.chain ≡ []
  pub state : new ≡ record old { chain = record { writer = d; name = member.name; moment = old.moment; deed = Founded } ∷ [] }

-- ---- parts, statements, runs

-- a device picks
abbrev pub Picking : ℕ → State → Reply → Member → Member → Chain → Type 0
Picking d s reply was is c = (c ≡ s.chain) × (PicksFlight d reply was is ⊎ PicksNone d reply was is)

-- the put of what waits for a device
abbrev pub Landing : ℕ → State → Reply → Member → Member → Chain → Type 0
Landing d s reply was is c = (PutsAsk s.chain reply was is c ⊎ LosesAsk s.chain reply was is c) ⊎ ((c ≡ s.chain) × PutsNone reply was is)

-- a device notes
abbrev pub Noting : ℕ → State → Reply → Member → Member → Chain → Type 0
Noting d s reply was is c = (c ≡ s.chain) × (NotesAnswer reply was is ⊎ NotesNone reply was is)

-- how many operations a step may take
abbrev pub IsBatch : ℕ → Type 0
IsBatch most = (1 ≤ most) × (most ≤ most_in_step)

-- a device's turn may give this reply, and go on from a member to a member and to a chain
abbrev pub TurnStep : State → ℕ → Turn → Reply → Member → Member → Chain → Type 0
TurnStep s d (statements.Call request) reply = λ was is c. (c ≡ s.chain) × Does (CallStep d was.part request s.moment) ByCall reply was is
TurnStep s d statements.Pick reply = Picking d s reply
TurnStep s d statements.Land reply = Landing d s reply
TurnStep s d statements.Note reply = Noting d s reply
TurnStep s d statements.Pull reply = λ was is c. (c ≡ s.chain) × Does (PullStep d s.chain was.part) ByPull reply was is
TurnStep s d (statements.Batch most) reply = λ was is c. (c ≡ s.chain) × (reply ≡ Silent) × IsBatch most × (is ≡ record was { batch = most })
TurnStep s d statements.Fetch reply = λ was is c. (c ≡ s.chain) × Does (FetchStep d s.chain was.part) ByFetch reply was is
TurnStep s d statements.Settle reply = Settling d s reply
TurnStep s d (statements.Fuse steps) reply = λ was is c. (c ≡ s.chain) × (reply ≡ Silent) × (is ≡ record was { part = armed steps was.part })
TurnStep s d (statements.Lose side) reply = λ was is c. (c ≡ s.chain) × (reply ≡ Silent) × (is ≡ record was { link = Some side })
TurnStep s d statements.Power reply = λ was is c. (c ≡ s.chain) × (reply ≡ Off) × (is ≡ went was (powered was.part))
TurnStep s d statements.Backup reply = λ was is c. (c ≡ s.chain) × Does (BackupStep d s.chain was.part) ByBackup reply was is
TurnStep s d (statements.Restore size) reply = λ was is c. (c ≡ s.chain) × IsDiskSize size × Does (RestoreStep d s.chain size was.part) ByRestore reply was is
TurnStep s d statements.Open reply = λ was is c. (c ≡ s.chain) × Does (OpenStep d s.chain was.part) ByOpen reply was is

-- a view of a device may give this reply
abbrev pub ViewStep : State → ℕ → View → Member → Reply → Type 0
ViewStep s d (statements.Look show) m reply = (answer : Result Shown LookFault) × LookStep m.part show answer × (reply ≡ ByLook answer)
ViewStep s d statements.Tell m reply = (answer : Result Status TellFault) × TellStep m.part answer × (reply ≡ ByStatus answer)
ViewStep s d (statements.Past r) m reply = (answer : Result Tree PastFault) × PastStep s.chain d r answer × (reply ≡ ByPast answer)
ViewStep s d (statements.Reclaim from) m reply = (answer : Result (Unit {0}) ReclaimFault) × ReclaimStep s.chain d from answer × (reply ≡ ByReclaim answer)

-- a part may give this reply and lead on to this state
abbrev pub ActStep : State → Act → Reply → State → Type 0
ActStep s (SetSeed seed) reply t = (reply ≡ Silent) × (t ≡ record s { seed = seed })
ActStep s (Declare name size) reply t = (reply ≡ Silent) × (length s.members < most_devices) × (is_device_name name ≡ true) × IsDiskSize size × (t ≡ record s { members = s.members ++ new_member name size ∷ [] })
ActStep s (SetMoment moment) reply t = (reply ≡ Silent) × (moment ≤ last_second) × (t ≡ record s { moment = moment })
ActStep s (SetRule rule) reply t = (reply ≡ Silent) × IsRule rule × (t ≡ record s { rule = rule })
ActStep s (DoFound d) reply t = (reply ≡ ByRekey (Ok 1)) × Founds d s t
ActStep s (DoRekey by action who) reply t = Rekeys by action who reply s t
ActStep s (See d view) reply t = Shows d (λ m. ViewStep s d view m reply) s t
ActStep s (On d turn) reply t = Turns d (TurnStep s d turn reply) s t
ActStep s ListChain reply t = (reply ≡ Lists s.chain) × (t ≡ s)
ActStep s AuditChain reply t = (reply ≡ Audited (length s.chain)) × (t ≡ s)

-- the next parts of a statement may give these replies
abbrev pub Progress : Statement → List Reply → State → List Reply → State → Type 0
Progress statement before s [] t = t ≡ s
Progress statement before s (reply ∷ more) t =
    (act : Act) × (mid : State) × (next statement before ≡ Some act) × ActStep s act reply mid × Progress statement (before ++ reply ∷ []) mid more t

-- a statement's parts were all done, and gave these replies
abbrev pub Steps : State → Statement → List Reply → State → Type 0
Steps s statement replies t = Progress statement [] s replies t × (next statement replies ≡ None)

-- what want of memory leaves of the part that was to come: nothing, but of an opening its disk may have done one step
abbrev pub Lacks : Option Act → State → State → Type 0
Lacks act s t = (t ≡ s) ⊎ ((d : ℕ) × (act ≡ Some (On d statements.Open)) × Turns d (λ was is c. (c ≡ s.chain) × Lowered was.part is.part × (is ≡ record was { part = is.part })) s t)

-- some first parts of a statement were done, and want of memory ended the next one, or its text
abbrev pub Ends : State → Statement → State → Type 0
Ends s statement t = (replies : List Reply) × (mid : State) × Progress statement [] s replies mid × Lacks (next statement replies) mid t

-- statements were done, and gave these replies, a list for each
abbrev pub Run : State → List Statement → List (List Reply) → State → Type 0
Run s [] [] t = t ≡ s
Run s (statement ∷ statements) (replies ∷ more) t = (mid : State) × Steps s statement replies mid × Run mid statements more t
Run s [] (replies ∷ more) t = ⊥
Run s (statement ∷ statements) [] t = ⊥
