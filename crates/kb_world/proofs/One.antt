-- Where no disk stops, each device has one journal that an opening may find.
use Rattle.std.proofs.Common.{◌≡◌, ◌⊎◌, ℕ, ◌-◌, List, [], ◌∷◌, ◌++◌, length, All, Result, Ok, Err, inl, inr, refl, sym, ap, ◌∙◌, subst}
use Rattle.std.specs.Prelude.{slice_get}
use Rattle.std.proofs.lemmas.List.Elements.{All-head, All-tail}
use Rattle.kb_ops.specs.declared.requests.Request.{Request}
use Rattle.kb_rules.specs.declared.report.Report.{Report}
use Rattle.kb_snap.specs.Chains.{Chain}
use Rattle.kb_device.specs.Answers.{Called, CallFault, PickFault, Noted, NoteFault, PullFault, FetchFault, SettleFault, OpenFault, BackupFault, RestoreFault, Status}
use Rattle.kb_snap.specs.Answers.{PutFault}
use Rattle.kb_device.specs.Answers as answers
use Rattle.kb_device.specs.Parts.{Merger, Part, CallStep, PickStep, NoteStep, PullStep, FetchStep, SettleStep, OpenStep, BackupStep, RestoreStep}
use Rattle.kb_world.specs.Statements.{Statement, Reply, ByCall, ByNote, ByPull, BySettle, ByOpen, Act, SetSeed, Declare, DoFound, DoRekey, SetMoment, SetRule, See, ListChain, AuditChain, On}
use Rattle.kb_world.specs.Statements as statements
use Rattle.kb_world.specs.Machine.{merger, Member, State, new_state, Turns, PicksFlight, PicksNone, NotesAnswer, NotesNone, Picking, Landing, Noting, ActStep, Progress, Steps, Run}
use Rattle.kb_world.specs.RunLaws.{IsPlain}
use Rattle.kb_world.specs.RunReplies.{HaveOne, WholeHaveOne}
use Rattle.kb_world.proofs.Machine.{get_set, get_push}

abbrev IsOne : Part → Type 0
IsOne p = length p.may ≡ 1

module _ (p : Part) (one : IsOne p) where
  stays : (q : Part) → q ≡ p → IsOne q
  stays q e = subst IsOne (sym e) one

  becomes : (q x : Part) → q ≡ x → IsOne x → IsOne q
  becomes q x e is = subst IsOne (sym e) is

  call_one : (d : ℕ) (request : Request) (moment : ℕ) (answer : Result Called CallFault) (q : Part) → CallStep d p request moment answer q → IsPlain (ByCall answer) → IsOne q
  call_one d request moment (Ok (answers.Done seq)) q h plain = becomes q _ h.part refl
  call_one d request moment (Ok answers.Same) q h plain = stays q h.0
  call_one d request moment (Err answers.CallFault.Closed) q h plain = stays q h.0
  call_one d request moment (Err answers.CallFault.ReadOnly) q h plain = stays q h.0
  call_one d request moment (Err (answers.CallFault.ByPlan fault)) q h plain = stays q h.0
  call_one d request moment (Err (answers.CallFault.ByQueue fault)) q h plain = stays q h.0
  call_one d request moment (Err answers.CallFault.Stopped) q h plain = cc

  no_pick_one : (most d : ℕ) (name : List ℕ) (fault : PickFault) (q : Part) → PickStep most d name p (Err fault) q → IsOne q
  no_pick_one most d name answers.PickFault.Closed q h = stays q h.0
  no_pick_one most d name answers.PickFault.InFlight q h = stays q h.0
  no_pick_one most d name answers.PickFault.Branched q h = stays q h.0
  no_pick_one most d name answers.PickFault.Idle q h = stays q h.0

  note_one : (put : Result ℕ PutFault) (answer : Result Noted NoteFault) (q : Part) → NoteStep p put answer q → IsPlain (ByNote answer) → IsOne q
  note_one put (Ok (answers.Landed n)) q (number, is, h) plain = becomes q _ h.part refl
  note_one put (Ok (answers.Noted.Branched at)) q (len, is, h) plain = becomes q _ h.part refl
  note_one put (Ok answers.Kept) q (is, h) plain = becomes q _ h.part one
  note_one put (Err answers.NoteFault.Closed) q h plain = stays q h.0
  note_one put (Err answers.NoteFault.NoFlight) q h plain = stays q h.0
  note_one put (Err answers.NoteFault.Stopped) q h plain = cc

  pull_one : (d : ℕ) (c : Chain) (answer : Result ℕ PullFault) (q : Part) → PullStep d c p answer q → IsPlain (ByPull answer) → IsOne q
  pull_one d c (Ok n) q h plain = becomes q _ h.part refl
  pull_one d c (Err answers.PullFault.Closed) q h plain = stays q h.0
  pull_one d c (Err answers.PullFault.NotMember) q h plain = stays q h.0
  pull_one d c (Err answers.PullFault.Unflushed) q h plain = stays q h.0
  pull_one d c (Err answers.PullFault.Stopped) q h plain = cc

  fetch_one : (d : ℕ) (c : Chain) (answer : Result ℕ FetchFault) (q : Part) → FetchStep d c p answer q → IsOne q
  fetch_one d c (Ok n) q h = becomes q _ h.part one
  fetch_one d c (Err answers.FetchFault.Closed) q h = stays q h.0
  fetch_one d c (Err answers.FetchFault.NotMember) q h = stays q h.0
  fetch_one d c (Err answers.FetchFault.NoBranch) q h = stays q h.0

  settle_one : (d : ℕ) (by : Merger) (c : Chain) (answer : Result (ℕ × Report) SettleFault) (c' : Chain) (q : Part) → SettleStep d by c p answer c' q → IsPlain (BySettle answer) → IsOne q
  settle_one d by c (Ok merged) c' q h plain = becomes q _ h.part refl
  settle_one d by c (Err answers.SettleFault.Closed) c' q h plain = stays q h.1
  settle_one d by c (Err answers.SettleFault.NoPlan) c' q h plain = stays q h.1
  settle_one d by c (Err (answers.SettleFault.LinkFault lost)) c' q h plain = becomes q _ h.part one
  settle_one d by c (Err (answers.SettleFault.ByPut fault)) c' q h plain = becomes q _ h.part one
  settle_one d by c (Err answers.SettleFault.Stopped) c' q h plain = cc

  open_one : (d : ℕ) (c : Chain) (answer : Result Status OpenFault) (q : Part) → OpenStep d c p answer q → IsPlain (ByOpen answer) → IsOne q
  open_one d c (Ok status) q h plain = becomes q _ h.part refl
  open_one d c (Err answers.AlreadyOpen) q h plain = stays q h.0
  open_one d c (Err answers.OpenFault.NotMember) q h plain = stays q h.0
  open_one d c (Err answers.OpenFault.Stopped) q h plain = cc
  open_one d c (Err answers.BadDisk) q h plain = absurd h
  open_one d c (Err (answers.Foreign known)) q h plain = absurd h
  open_one d c (Err (answers.BadFolder number)) q h plain = absurd h

  backup_one : (d : ℕ) (c : Chain) (answer : Result (ℕ × ℕ) BackupFault) (q : Part) → BackupStep d c p answer q → IsOne q
  backup_one d c (Ok told) q h = becomes q _ h.part one
  backup_one d c (Err answers.BackupFault.Closed) q h = stays q h.0
  backup_one d c (Err answers.BackupFault.NotMember) q h = stays q h.0

  restore_one : (d : ℕ) (c : Chain) (size : ℕ) (answer : Result (ℕ × ℕ) RestoreFault) (q : Part) → RestoreStep d c size p answer q → IsOne q
  restore_one d c size (Ok told) q h = becomes q _ h.part refl
  restore_one d c size (Err answers.RestoreFault.AlreadyOpen) q h = stays q h.0
  restore_one d c size (Err answers.RestoreFault.NotMember) q h = stays q h.0
  restore_one d c size (Err answers.NoBackup) q h = stays q h.0
  restore_one d c size (Err (answers.Behind last other)) q h = stays q h.0
  restore_one d c size (Err (answers.RestoreFault.Full need room)) q h = stays q h.0

module _ (s t : State) (all : HaveOne s) where
  turned : (d : ℕ) (goes : Member → Member → Chain → Type 0) (h : Turns d goes s t) → IsOne h.is.part → HaveOne t
  turned d goes h one = λ i m e. elim (get_set s.members (d - 1) i h.is m (ap (λ (x : State). slice_get x.members i) (sym h.state) ∙ e)) [
    | inl same ↦ subst (λ (x : Member). IsOne x.part) (sym same.1) one
    | inr other ↦ all i m other.1
  ]

  was_one : (d : ℕ) (goes : Member → Member → Chain → Type 0) (h : Turns d goes s t) → IsOne h.was.part
  was_one d goes h = all (d - 1) h.was h.found

  one_of : (m to : Member) → m ≡ to → IsOne to.part → IsOne m.part
  one_of m to e one = subst (λ (x : Member). IsOne x.part) (sym e) one

  picks : (d : ℕ) (reply : Reply) (h : Turns d (Picking d s reply) s t) → PicksFlight d reply h.was h.is ⊎ PicksNone d reply h.was h.is → HaveOne t
  picks d reply h (inl p) = turned d (Picking d s reply) h (one_of h.is _ p.member (becomes h.was.part (was_one d (Picking d s reply) h) p.part _ p.step.part (was_one d (Picking d s reply) h)))
  picks d reply h (inr p) = turned d (Picking d s reply) h (one_of h.is _ p.member (no_pick_one h.was.part (was_one d (Picking d s reply) h) h.was.batch d h.was.name p.answer p.part p.step))

  lands : (d : ℕ) (reply : Reply) (h : Turns d (Landing d s reply) s t) → Landing d s reply h.was h.is h.chain → HaveOne t
  lands d reply h (inl (inl p)) = turned d (Landing d s reply) h (one_of h.is _ p.member (was_one d (Landing d s reply) h))
  lands d reply h (inl (inr p)) = turned d (Landing d s reply) h (one_of h.is _ p.member (was_one d (Landing d s reply) h))
  lands d reply h (inr (same, p)) = turned d (Landing d s reply) h (one_of h.is _ p.member (was_one d (Landing d s reply) h))

  notes : (d : ℕ) (reply : Reply) (h : Turns d (Noting d s reply) s t) → IsPlain reply → NotesAnswer reply h.was h.is ⊎ NotesNone reply h.was h.is → HaveOne t
  notes d reply h plain (inl p) = turned d (Noting d s reply) h (one_of h.is _ p.member (note_one h.was.part (was_one d (Noting d s reply) h) p.put p.answer p.part p.step (subst IsPlain p.reply_is plain)))
  notes d reply h plain (inr p) = turned d (Noting d s reply) h (one_of h.is _ p.member (was_one d (Noting d s reply) h))

  pub act_one : (act : Act) (reply : Reply) → ActStep s act reply t → IsPlain reply → HaveOne t
  act_one (SetSeed seed) reply h plain = subst HaveOne (sym h.1) all
  act_one (Declare name size) reply h plain = λ i m e. elim (get_push s.members _ m i (ap (λ (x : State). slice_get x.members i) (sym h.4) ∙ e)) [ inl last ↦ subst (λ (x : Member). IsOne x.part) (sym last.1) refl | inr there ↦ all i m there ]
  act_one (SetMoment moment) reply h plain = subst HaveOne (sym h.2) all
  act_one (SetRule rule) reply h plain = subst HaveOne (sym h.2) all
  act_one (DoFound d) reply h plain = subst HaveOne (sym h.1.state) all
  act_one (DoRekey by a who) reply h plain = subst HaveOne (sym h.state) all
  act_one (On d (statements.Call request)) reply h plain =
      turned d _ h (one_of h.is _ h.step.1.member (call_one h.was.part (was_one d _ h) d request s.moment h.step.1.answer h.step.1.part h.step.1.step (subst IsPlain h.step.1.reply_is plain)))
  act_one (See d view) reply h plain = subst HaveOne (sym h.state) all
  act_one (On d statements.Pick) reply h plain = picks d reply h h.step.1
  act_one (On d statements.Land) reply h plain = lands d reply h h.step
  act_one (On d statements.Note) reply h plain = notes d reply h plain h.step.1
  act_one (On d statements.Pull) reply h plain =
      turned d _ h (one_of h.is _ h.step.1.member (pull_one h.was.part (was_one d _ h) d s.chain h.step.1.answer h.step.1.part h.step.1.step (subst IsPlain h.step.1.reply_is plain)))
  act_one (On d statements.Fetch) reply h plain = turned d _ h (one_of h.is _ h.step.1.member (fetch_one h.was.part (was_one d _ h) d s.chain h.step.1.answer h.step.1.part h.step.1.step))
  act_one (On d statements.Settle) reply h plain =
      turned d _ h (one_of h.is _ h.step.member (settle_one h.was.part (was_one d _ h) d (merger s h.was) s.chain h.step.answer h.chain h.step.part h.step.step (subst IsPlain h.step.reply_is plain)))
  act_one (On d (statements.Batch most)) reply h plain = turned d _ h (one_of h.is _ h.step.3 (was_one d _ h))
  act_one (On d (statements.Fuse steps)) reply h plain = turned d _ h (one_of h.is _ h.step.2 (was_one d _ h))
  act_one (On d (statements.Lose side)) reply h plain = turned d _ h (one_of h.is _ h.step.2 (was_one d _ h))
  act_one (On d statements.Power) reply h plain = turned d _ h (one_of h.is _ h.step.2 (was_one d _ h))
  act_one (On d statements.Backup) reply h plain = turned d _ h (one_of h.is _ h.step.1.member (backup_one h.was.part (was_one d _ h) d s.chain h.step.1.answer h.step.1.part h.step.1.step))
  act_one (On d (statements.Restore size)) reply h plain = turned d _ h (one_of h.is _ h.step.2.member (restore_one h.was.part (was_one d _ h) d s.chain size h.step.2.answer h.step.2.part h.step.2.step))
  act_one (On d statements.Open) reply h plain =
      turned d _ h (one_of h.is _ h.step.1.member (open_one h.was.part (was_one d _ h) d s.chain h.step.1.answer h.step.1.part h.step.1.step (subst IsPlain h.step.1.reply_is plain)))
  act_one ListChain reply h plain = subst HaveOne (sym h.1) all
  act_one AuditChain reply h plain = subst HaveOne (sym h.1) all

progress_one : (statement : Statement) (before : List Reply) (s : State) (replies : List Reply) (t : State) → Progress statement before s replies t → All IsPlain replies → HaveOne s → HaveOne t
progress_one statement before s [] t h plain all = subst HaveOne (sym h) all
progress_one statement before s (reply ∷ replies) t h plain all =
    progress_one statement (before ++ reply ∷ []) h.1 replies t h.4 (All-tail IsPlain reply replies plain) (act_one s h.1 all h.0 reply h.3 (All-head IsPlain reply replies plain))

pub steps_one : (s : State) (statement : Statement) (replies : List Reply) (t : State) → Steps s statement replies t → All IsPlain replies → HaveOne s → HaveOne t
steps_one s statement replies t h plain all = progress_one statement [] s replies t h.0 plain all

run_one : (s : State) (statements : List Statement) (each : List (List Reply)) (t : State) → Run s statements each t → All (All IsPlain) each → HaveOne s → HaveOne t
run_one s [] [] t h plain all = subst HaveOne (sym h) all
run_one s (statement ∷ statements) (replies ∷ each) t h plain all =
    run_one h.0 statements each t h.2 (All-tail (All IsPlain) replies each plain) (steps_one s statement replies h.0 h.1 (All-head (All IsPlain) replies each plain) all)
run_one s [] (replies ∷ each) t h plain all = absurd h
run_one s (statement ∷ statements) [] t h plain all = absurd h

pub new_one : HaveOne new_state
new_one i m e = cc

pub whole_one : WholeHaveOne
whole_one statements each t h plain = run_one new_state statements each t h plain new_one
