-- In a run without a fuse no reply tells that a disk stopped.
use Rattle.std.proofs.Common.{◌≡◌, ◌⊎◌, ℕ, zero, suc, ◌-◌, List, [], ◌∷◌, ◌++◌, map, All, Option, Some, None, Result, Ok, Err, inl, inr, refl, sym, ap, ◌∙◌, subst}
use Rattle.std.specs.Prelude.{slice_get, IsSomeAnd}
use Rattle.std.specs.Option.{option_map}
use Rattle.std.proofs.lemmas.List.Elements.{All-nil, All-cons, All-head, All-tail}
use Rattle.kb_edge.specs.Disk.{FallsBy}
use Rattle.kb_ops.specs.declared.requests.Request.{Request}
use Rattle.kb_rules.specs.declared.report.Report.{Report}
use Rattle.kb_snap.specs.Chains.{Chain}
use Rattle.kb_device.specs.Answers.{Called, CallFault, PickFault, Noted, NoteFault, PullFault, FetchFault, SettleFault, OpenFault, BackupFault, RestoreFault, Status}
use Rattle.kb_snap.specs.Answers.{PutFault}
use Rattle.kb_device.specs.Answers as answers
use Rattle.kb_snap.specs.Answers as folder_says
use Rattle.kb_device.specs.Parts.{Merger, Part, CallStep, PickStep, NoteStep, NoteStops, PullStep, FetchStep, SettleStep, OpenStep, BackupStep, RestoreStep}
use Rattle.kb_world.specs.Statements.{Statement, Reply, Silent, Off, ByRekey, ByCall, ByLook, ByStatus, ByPick, ByLand, ByNote, ByPull, ByFetch, BySettle, ByOpen, Lists, Act, SetSeed, Declare, DoFound, DoRekey, SetMoment, SetRule, See, ListChain, AuditChain, On}
use Rattle.kb_world.specs.Statements as statements
use Rattle.kb_world.specs.Machine.{merger, Member, State, new_state, Turns, PicksFlight, PicksNone, NotesAnswer, NotesNone, Picking, Landing, Noting, NoteCause, ActStep, Progress, Run, next_after, last_reply, once, Stage, ToPick, ToLand, ToNote, ToFetch, ToSettle, stage_act, flush_stage, drain_stage, resolve_stage}
use Rattle.kb_world.specs.RunLaws.{ArmsNot, ArmsNone, TellsNoStop, UnfusedRunsOn}
use Rattle.kb_world.specs.RunReplies.{disarmed_member, UnfusedIsDisarmed}
use Rattle.kb_world.proofs.Machine.{get_set, get_push}

-- a part whose disk never stops
abbrev IsWhole : Part → Type 0
IsWhole p = p.left ≡ None

abbrev AllWhole : State → Type 0
AllWhole s = (i : ℕ) (m : Member) → slice_get s.members i ≡ Some m → IsWhole m.part

falls_whole : (k : ℕ) (a b : Option ℕ) → FallsBy k a b → a ≡ None → b ≡ None
falls_whole k None b h none = h
falls_whole k (Some n) b h none = cc

no_low : (a : Option ℕ) (P : ℕ → Type 0) → a ≡ None → IsSomeAnd a P → ⊥
no_low None P none h = h
no_low (Some n) P none h = cc

-- the part that is left, and that the reply tells of no stop
abbrev Runs : Part → Reply → Type 0
Runs q reply = IsWhole q × TellsNoStop reply

module _ (p : Part) (whole : IsWhole p) where
  stays : (q : Part) → q ≡ p → IsWhole q
  stays q e = subst IsWhole (sym e) whole

  -- what is left stays
  drops : (q x : Part) → q ≡ x → x.left ≡ p.left → IsWhole q
  drops q x e left = subst IsWhole (sym e) (left ∙ whole)

  falls : (k : ℕ) (q x : Part) (left : Option ℕ) → q ≡ x → x.left ≡ left → FallsBy k p.left left → IsWhole q
  falls k q x left e is h = subst IsWhole (sym e) (is ∙ falls_whole k p.left left h whole)

  call_whole : (d : ℕ) (request : Request) (moment : ℕ) (answer : Result Called CallFault) (q : Part) → CallStep d p request moment answer q → Runs q (ByCall answer)
  call_whole d request moment (Ok (answers.Done seq)) q h = (falls 4 q _ h.left h.part refl h.falls, tt)
  call_whole d request moment (Ok answers.Same) q h = (stays q h.0, tt)
  call_whole d request moment (Err answers.CallFault.Closed) q h = (stays q h.0, tt)
  call_whole d request moment (Err answers.CallFault.ReadOnly) q h = (stays q h.0, tt)
  call_whole d request moment (Err (answers.CallFault.ByPlan fault)) q h = (stays q h.0, tt)
  call_whole d request moment (Err (answers.CallFault.ByQueue fault)) q h = (stays q h.0, tt)
  call_whole d request moment (Err answers.CallFault.Stopped) q h = absurd (no_low p.left _ whole h.low)

  no_pick_whole : (most d : ℕ) (name : List ℕ) (fault : PickFault) (q : Part) → PickStep most d name p (Err fault) q → IsWhole q
  no_pick_whole most d name answers.PickFault.Closed q h = stays q h.0
  no_pick_whole most d name answers.PickFault.InFlight q h = stays q h.0
  no_pick_whole most d name answers.PickFault.Branched q h = stays q h.0
  no_pick_whole most d name answers.PickFault.Idle q h = stays q h.0

  no_stop : (put : Result ℕ PutFault) (q : Part) → NoteStops put p q → ⊥
  no_stop (Ok number) q h = no_low p.left _ whole h.low
  no_stop (Err (folder_says.PutFault.Stale len)) q h = no_low p.left _ whole h.low
  no_stop (Err folder_says.PutFault.NotWriter) q h = h
  no_stop (Err folder_says.PutFault.ChainEnd) q h = h
  no_stop (Err (folder_says.PutFault.Collision id)) q h = h

  note_whole : (put : Result ℕ PutFault) (answer : Result Noted NoteFault) (q : Part) → NoteStep p put answer q → Runs q (ByNote answer)
  note_whole put (Ok (answers.Landed n)) q (number, is, h) = (falls 4 q _ h.left h.part refl h.falls, tt)
  note_whole put (Ok (answers.Noted.Branched at)) q (len, is, h) = (falls 4 q _ h.left h.part refl h.falls, tt)
  note_whole put (Ok answers.Kept) q (is, h) = (drops q _ h.part refl, tt)
  note_whole put (Err answers.NoteFault.Closed) q h = (stays q h.0, tt)
  note_whole put (Err answers.NoteFault.NoFlight) q h = (stays q h.0, tt)
  note_whole put (Err answers.NoteFault.Stopped) q h = absurd (no_stop put q h)

  pull_whole : (d : ℕ) (c : Chain) (answer : Result ℕ PullFault) (q : Part) → PullStep d c p answer q → Runs q (ByPull answer)
  pull_whole d c (Ok n) q h = (falls 4 q _ h.left h.part refl h.falls, tt)
  pull_whole d c (Err answers.PullFault.Closed) q h = (stays q h.0, tt)
  pull_whole d c (Err answers.PullFault.NotMember) q h = (stays q h.0, tt)
  pull_whole d c (Err answers.PullFault.Unflushed) q h = (stays q h.0, tt)
  pull_whole d c (Err answers.PullFault.Stopped) q h = absurd (no_low p.left _ whole h.low)

  fetch_whole : (d : ℕ) (c : Chain) (answer : Result ℕ FetchFault) (q : Part) → FetchStep d c p answer q → Runs q (ByFetch answer)
  fetch_whole d c (Ok n) q h = (drops q _ h.part refl, tt)
  fetch_whole d c (Err answers.FetchFault.Closed) q h = (stays q h.0, tt)
  fetch_whole d c (Err answers.FetchFault.NotMember) q h = (stays q h.0, tt)
  fetch_whole d c (Err answers.FetchFault.NoBranch) q h = (stays q h.0, tt)

  settle_whole : (d : ℕ) (by : Merger) (c : Chain) (answer : Result (ℕ × Report) SettleFault) (c' : Chain) (q : Part) → SettleStep d by c p answer c' q → Runs q (BySettle answer)
  settle_whole d by c (Ok merged) c' q h = (falls 4 q _ h.left h.part refl h.falls, tt)
  settle_whole d by c (Err answers.SettleFault.Closed) c' q h = (stays q h.1, tt)
  settle_whole d by c (Err answers.SettleFault.NoPlan) c' q h = (stays q h.1, tt)
  settle_whole d by c (Err (answers.SettleFault.LinkFault lost)) c' q h = (drops q _ h.part refl, tt)
  settle_whole d by c (Err (answers.SettleFault.ByPut fault)) c' q h = (drops q _ h.part refl, tt)
  settle_whole d by c (Err answers.SettleFault.Stopped) c' q h = absurd (no_low p.left _ whole h.low)

  open_whole : (d : ℕ) (c : Chain) (answer : Result Status OpenFault) (q : Part) → OpenStep d c p answer q → Runs q (ByOpen answer)
  open_whole d c (Ok status) q h = (falls 9 q _ h.left h.part refl h.falls, tt)
  open_whole d c (Err answers.AlreadyOpen) q h = (stays q h.0, tt)
  open_whole d c (Err answers.OpenFault.NotMember) q h = (stays q h.0, tt)
  open_whole d c (Err answers.OpenFault.Stopped) q h = absurd (no_low p.left _ whole h.low)
  open_whole d c (Err answers.BadDisk) q h = absurd h
  open_whole d c (Err (answers.Foreign known)) q h = absurd h
  open_whole d c (Err (answers.BadFolder number)) q h = absurd h

  backup_whole : (d : ℕ) (c : Chain) (answer : Result (ℕ × ℕ) BackupFault) (q : Part) → BackupStep d c p answer q → IsWhole q
  backup_whole d c (Ok told) q h = drops q _ h.part refl
  backup_whole d c (Err answers.BackupFault.Closed) q h = stays q h.0
  backup_whole d c (Err answers.BackupFault.NotMember) q h = stays q h.0

  restore_whole : (d : ℕ) (c : Chain) (size : ℕ) (answer : Result (ℕ × ℕ) RestoreFault) (q : Part) → RestoreStep d c size p answer q → IsWhole q
  restore_whole d c size (Ok told) q h = subst IsWhole (sym h.part) refl
  restore_whole d c size (Err answers.RestoreFault.AlreadyOpen) q h = stays q h.0
  restore_whole d c size (Err answers.RestoreFault.NotMember) q h = stays q h.0
  restore_whole d c size (Err answers.NoBackup) q h = stays q h.0
  restore_whole d c size (Err (answers.Behind last other)) q h = stays q h.0
  restore_whole d c size (Err (answers.RestoreFault.Full need room)) q h = stays q h.0

-- ---- runs

module _ (s t : State) (all : AllWhole s) where
  turned : (d : ℕ) (goes : Member → Member → Chain → Type 0) (h : Turns d goes s t) → IsWhole h.is.part → AllWhole t
  turned d goes h whole = λ i m e. elim (get_set s.members (d - 1) i h.is m (ap (λ (x : State). slice_get x.members i) (sym h.state) ∙ e)) [
    | inl same ↦ subst (λ (x : Member). IsWhole x.part) (sym same.1) whole
    | inr other ↦ all i m other.1
  ]

  was_whole : (d : ℕ) (goes : Member → Member → Chain → Type 0) (h : Turns d goes s t) → IsWhole h.was.part
  was_whole d goes h = all (d - 1) h.was h.found

  whole_of : (m to : Member) → m ≡ to → IsWhole to.part → IsWhole m.part
  whole_of m to e whole = subst (λ (x : Member). IsWhole x.part) (sym e) whole

  same_state : t ≡ s → AllWhole t
  same_state e = subst AllWhole (sym e) all

  tells : (reply x : Reply) → reply ≡ x → TellsNoStop x → TellsNoStop reply
  tells reply x e h = subst TellsNoStop (sym e) h

  picks : (d : ℕ) (reply : Reply) (h : Turns d (Picking d s reply) s t) → PicksFlight d reply h.was h.is ⊎ PicksNone d reply h.was h.is → AllWhole t × TellsNoStop reply
  picks d reply h (inl p) = (turned d (Picking d s reply) h (whole_of h.is _ p.member (drops h.was.part (was_whole d (Picking d s reply) h) p.part _ p.step.part refl)), tells reply _ p.reply_is tt)
  picks d reply h (inr p) = (turned d (Picking d s reply) h (whole_of h.is _ p.member (no_pick_whole h.was.part (was_whole d (Picking d s reply) h) h.was.batch d h.was.name p.answer p.part p.step)), tells reply _ p.reply_is tt)

  lands : (d : ℕ) (reply : Reply) (h : Turns d (Landing d s reply) s t) → Landing d s reply h.was h.is h.chain → AllWhole t × TellsNoStop reply
  lands d reply h (inl (inr p)) = (turned d (Landing d s reply) h (whole_of h.is _ p.member (was_whole d (Landing d s reply) h)), tells reply _ p.reply_is tt)
  lands d reply h (inl (inl p)) = (turned d (Landing d s reply) h (whole_of h.is _ p.member (was_whole d (Landing d s reply) h)), tells reply _ p.reply_is tt)
  lands d reply h (inr (same, p)) = (turned d (Landing d s reply) h (whole_of h.is _ p.member (was_whole d (Landing d s reply) h)), tells reply _ p.reply_is tt)

  no_note : (m : Member) (fault : NoteFault) → NoteCause m fault → TellsNoStop (ByNote (Err fault))
  no_note m answers.NoteFault.Closed h = tt
  no_note m answers.NoteFault.NoFlight h = tt
  no_note m answers.NoteFault.Stopped h = absurd h

  notes : (d : ℕ) (reply : Reply) (h : Turns d (Noting d s reply) s t) → NotesAnswer reply h.was h.is ⊎ NotesNone reply h.was h.is → AllWhole t × TellsNoStop reply
  notes d reply h (inl p) =
      let to = note_whole h.was.part (was_whole d (Noting d s reply) h) p.put p.answer p.part p.step in
      (turned d (Noting d s reply) h (whole_of h.is _ p.member to.0), tells reply _ p.reply_is to.1)
  notes d reply h (inr p) = (turned d (Noting d s reply) h (whole_of h.is _ p.member (was_whole d (Noting d s reply) h)), tells reply _ p.reply_is (no_note h.was p.fault p.cause))

  pub act_whole : (act : Act) (reply : Reply) → ArmsNot act → ActStep s act reply t → AllWhole t × TellsNoStop reply
  act_whole (SetSeed seed) reply un h = (subst AllWhole (sym h.1) all, tells reply _ h.0 tt)
  act_whole (Declare name size) reply un h = (λ i m e. elim (get_push s.members _ m i (ap (λ (x : State). slice_get x.members i) (sym h.4) ∙ e)) [ inl last ↦ subst (λ (x : Member). IsWhole x.part) (sym last.1) refl | inr there ↦ all i m there ], tells reply _ h.0 tt)
  act_whole (SetMoment moment) reply un h = (subst AllWhole (sym h.2) all, tells reply _ h.0 tt)
  act_whole (SetRule rule) reply un h = (subst AllWhole (sym h.2) all, tells reply _ h.0 tt)
  act_whole (DoFound d) reply un h = (subst AllWhole (sym h.1.state) all, tells reply _ h.0 tt)
  act_whole (DoRekey by a who) reply un h = (subst AllWhole (sym h.state) all, tells reply _ h.reply_is tt)
  act_whole (On d (statements.Call request)) reply un h =
      let to = call_whole h.was.part (was_whole d _ h) d request s.moment h.step.1.answer h.step.1.part h.step.1.step in
      (turned d _ h (whole_of h.is _ h.step.1.member to.0), tells reply _ h.step.1.reply_is to.1)
  act_whole (See d (statements.Look show)) reply un h = (same_state h.state, tells reply _ h.shows.2 tt)
  act_whole (See d statements.Tell) reply un h = (same_state h.state, tells reply _ h.shows.2 tt)
  act_whole (See d (statements.Past r)) reply un h = (same_state h.state, tells reply _ h.shows.2 tt)
  act_whole (See d (statements.Reclaim from)) reply un h = (same_state h.state, tells reply _ h.shows.2 tt)
  act_whole (On d statements.Pick) reply un h = picks d reply h h.step.1
  act_whole (On d statements.Land) reply un h = lands d reply h h.step
  act_whole (On d statements.Note) reply un h = notes d reply h h.step.1
  act_whole (On d statements.Pull) reply un h =
      let to = pull_whole h.was.part (was_whole d _ h) d s.chain h.step.1.answer h.step.1.part h.step.1.step in
      (turned d _ h (whole_of h.is _ h.step.1.member to.0), tells reply _ h.step.1.reply_is to.1)
  act_whole (On d (statements.Batch most)) reply un h = (turned d _ h (whole_of h.is _ h.step.3 (was_whole d _ h)), tells reply _ h.step.1 tt)
  act_whole (On d statements.Fetch) reply un h =
      let to = fetch_whole h.was.part (was_whole d _ h) d s.chain h.step.1.answer h.step.1.part h.step.1.step in
      (turned d _ h (whole_of h.is _ h.step.1.member to.0), tells reply _ h.step.1.reply_is to.1)
  act_whole (On d statements.Settle) reply un h =
      let to = settle_whole h.was.part (was_whole d _ h) d (merger s h.was) s.chain h.step.answer h.chain h.step.part h.step.step in
      (turned d _ h (whole_of h.is _ h.step.member to.0), tells reply _ h.step.reply_is to.1)
  act_whole (On d (statements.Fuse steps)) reply un h = absurd un
  act_whole (On d (statements.Lose side)) reply un h = (turned d _ h (whole_of h.is _ h.step.2 (was_whole d _ h)), tells reply _ h.step.1 tt)
  act_whole (On d statements.Power) reply un h = (turned d _ h (whole_of h.is _ h.step.2 refl), tells reply _ h.step.1 tt)
  act_whole (On d statements.Backup) reply un h =
      (turned d _ h (whole_of h.is _ h.step.1.member (backup_whole h.was.part (was_whole d _ h) d s.chain h.step.1.answer h.step.1.part h.step.1.step)), tells reply _ h.step.1.reply_is tt)
  act_whole (On d (statements.Restore size)) reply un h =
      (turned d _ h (whole_of h.is _ h.step.2.member (restore_whole h.was.part (was_whole d _ h) d s.chain size h.step.2.answer h.step.2.part h.step.2.step)), tells reply _ h.step.2.reply_is tt)
  act_whole (On d statements.Open) reply un h =
      let to = open_whole h.was.part (was_whole d _ h) d s.chain h.step.1.answer h.step.1.part h.step.1.step in
      (turned d _ h (whole_of h.is _ h.step.1.member to.0), tells reply _ h.step.1.reply_is to.1)
  act_whole ListChain reply un h = (same_state h.1, tells reply _ h.0 tt)
  act_whole AuditChain reply un h = (same_state h.1, tells reply _ h.0 tt)

-- a statement that is no fuse has no part that arms
once_unarmed : (a act : Act) (before : Option Reply) → ArmsNot a → once a before ≡ Some act → ArmsNot act
once_unarmed a act None un e = subst ArmsNot (let is : a ≡ act = cc in is) un
once_unarmed a act (Some reply) un e = cc

stage_unarmed : (d : ℕ) (stage : Stage) → ArmsNot (stage_act d stage)
stage_unarmed d ToPick = tt
stage_unarmed d ToLand = tt
stage_unarmed d ToNote = tt
stage_unarmed d ToFetch = tt
stage_unarmed d ToSettle = tt

staged_unarmed : (d : ℕ) (act : Act) (stage : Option Stage) → option_map (stage_act d) stage ≡ Some act → ArmsNot act
staged_unarmed d act None e = cc
staged_unarmed d act (Some stage) e = subst ArmsNot (let is : stage_act d stage ≡ act = cc in is) (stage_unarmed d stage)

pub unarmed : (statement : Statement) (before : Option Reply) (act : Act) → ArmsNone statement → next_after statement before ≡ Some act → ArmsNot act
unarmed (statements.Do a) before act h e = once_unarmed a act before h e
unarmed (statements.Flush d) before act h e = staged_unarmed d act (flush_stage before) e
unarmed (statements.Drain d) before act h e = staged_unarmed d act (drain_stage before) e
unarmed (statements.Resolve d) before act h e = staged_unarmed d act (resolve_stage before) e

pub progress_whole : (statement : Statement) (before : List Reply) (s : State) (replies : List Reply) (t : State) → ArmsNone statement → Progress statement before s replies t → AllWhole s → AllWhole t × All TellsNoStop replies
progress_whole statement before s [] t none h all = (subst AllWhole (sym h) all, All-nil TellsNoStop)
progress_whole statement before s (reply ∷ replies) t none h all =
    let first = act_whole s h.1 all h.0 reply (unarmed statement (last_reply before) h.0 none h.2) h.3 in
    let rest = progress_whole statement (before ++ reply ∷ []) h.1 replies t none h.4 first.0 in
    (rest.0, All-cons TellsNoStop reply replies first.1 rest.1)

run_whole : (s : State) (statements : List Statement) (each : List (List Reply)) (t : State) → All ArmsNone statements → Run s statements each t → AllWhole s → AllWhole t × All (All TellsNoStop) each
run_whole s [] [] t none h all = (subst AllWhole (sym h) all, All-nil (All TellsNoStop))
run_whole s (statement ∷ statements) (replies ∷ each) t none h all =
    let first = progress_whole statement [] s replies h.0 (All-head ArmsNone statement statements none) h.1.0 all in
    let rest = run_whole h.0 statements each t (All-tail ArmsNone statement statements none) h.2 first.0 in
    (rest.0, All-cons (All TellsNoStop) replies each first.1 rest.1)
run_whole s [] (replies ∷ each) t none h all = absurd h
run_whole s (statement ∷ statements) [] t none h all = absurd h

pub unfused : UnfusedRunsOn
unfused statements each t none h = (run_whole new_state statements each t none h (λ i m e. cc)).1

-- a state with no disk armed is the same without
members_disarmed : (members : List Member) → ((i : ℕ) (m : Member) → slice_get members i ≡ Some m → m.part.left ≡ None) → map disarmed_member members ≡ members
members_disarmed [] all = refl
members_disarmed (m ∷ members) all =
    let whole = all zero m refl in
    let one : disarmed_member m ≡ m = (λ i. record m { part = record m.part { left = (sym whole) i } }) in
    let rest = members_disarmed members (λ i x e. all (suc i) x e) in
    (λ i. one i ∷ rest i)

pub unfused_disarmed : UnfusedIsDisarmed
unfused_disarmed statements each t none h = (let all = members_disarmed t.members (run_whole new_state statements each t none h (λ i m e. cc)).0 in (λ i. record t { members = all i }))
