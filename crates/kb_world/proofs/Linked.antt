-- In a run that arms no link no reply tells that one lost a put.
use Rattle.std.proofs.Common.{◌≡◌, ◌⊎◌, ℕ, ◌-◌, List, [], ◌∷◌, ◌++◌, All, Option, Some, None, Result, Ok, Err, inl, inr, refl, sym, ap, ◌∙◌, subst}
use Rattle.std.specs.Prelude.{slice_get}
use Rattle.std.specs.Option.{option_map}
use Rattle.std.proofs.lemmas.List.Elements.{All-nil, All-cons, All-head, All-tail}
use Rattle.kb_edge.specs.declared.link.Side.{Side}
use Rattle.kb_rules.specs.declared.report.Report.{Report}
use Rattle.kb_snap.specs.Chains.{Chain}
use Rattle.kb_snap.specs.Answers.{PutFault}
use Rattle.kb_device.specs.Answers.{SettleFault}
use Rattle.kb_device.specs.Answers as answers
use Rattle.kb_world.specs.Statements.{Act, SetSeed, Declare, DoFound, DoRekey, SetMoment, SetRule, See, On, ListChain, AuditChain, Statement, Reply, Silent, ByLand, BySettle}
use Rattle.kb_world.specs.Statements as statements
use Rattle.kb_device.specs.Links.{LinkAfter}
use Rattle.kb_world.specs.Machine.{Member, State, new_state, Turns, PicksFlight, PicksNone, NotesAnswer, NotesNone, Picking, landed, Landing, Noting, ActStep, Progress, Run, Stage, ToPick, ToLand, ToNote, ToFetch, ToSettle, stage_act, flush_stage, drain_stage, resolve_stage, next_after, last_reply, once}
use Rattle.kb_world.specs.RunLaws.{LosesNot, LosesNone, TellsNoLoss, UnlostRunsOn}
use Rattle.kb_world.proofs.Machine.{get_set, get_push}

-- no link is armed
abbrev AllWhole : State → Type 0
AllWhole s = (i : ℕ) (m : Member) → slice_get s.members i ≡ Some m → m.link ≡ None

land_tells : (answer : Result ℕ PutFault) → TellsNoLoss (ByLand (landed answer))
land_tells (Ok n) = tt
land_tells (Err fault) = tt

-- a settle over a link that isn't armed
settle_tells : (was is : Option Side) (answer : Result (ℕ × Report) SettleFault) → was ≡ None → LinkAfter was answer is → (is ≡ None) × TellsNoLoss (BySettle answer)
settle_tells was is (Ok merged) whole h = (h.1, tt)
settle_tells was is (Err answers.SettleFault.Closed) whole h = (h ∙ whole, tt)
settle_tells was is (Err answers.SettleFault.NoPlan) whole h = (h ∙ whole, tt)
settle_tells was is (Err (answers.SettleFault.LinkFault lost)) whole h = absurd (let armed = h.0 in cc)
settle_tells was is (Err (answers.SettleFault.ByPut fault)) whole h = (h.1, tt)
settle_tells was is (Err answers.SettleFault.Stopped) whole h = (h.1, tt)

module _ (s t : State) (all : AllWhole s) where
  turned : (d : ℕ) (goes : Member → Member → Chain → Type 0) (h : Turns d goes s t) → h.is.link ≡ None → AllWhole t
  turned d goes h whole = λ i m e. elim (get_set s.members (d - 1) i h.is m (ap (λ (x : State). slice_get x.members i) (sym h.state) ∙ e)) [
    | inl same ↦ ap (λ (x : Member). x.link) same.1 ∙ whole
    | inr other ↦ all i m other.1
  ]

  -- the device's link stays
  kept : (d : ℕ) (goes : Member → Member → Chain → Type 0) (h : Turns d goes s t) (to : Member) → h.is ≡ to → to.link ≡ h.was.link → AllWhole t
  kept d goes h to is link = turned d goes h (ap (λ (x : Member). x.link) is ∙ link ∙ all (d - 1) h.was h.found)

  same_state : t ≡ s → AllWhole t
  same_state e = subst AllWhole (sym e) all

  tells : (reply x : Reply) → reply ≡ x → TellsNoLoss x → TellsNoLoss reply
  tells reply x e h = subst TellsNoLoss (sym e) h

  picks : (d : ℕ) (reply : Reply) (h : Turns d (Picking d s reply) s t) → PicksFlight d reply h.was h.is ⊎ PicksNone d reply h.was h.is → AllWhole t × TellsNoLoss reply
  picks d reply h (inl p) = (kept d _ h _ p.member refl, tells reply _ p.reply_is tt)
  picks d reply h (inr p) = (kept d _ h _ p.member refl, tells reply _ p.reply_is tt)

  lands : (d : ℕ) (reply : Reply) (h : Turns d (Landing d s reply) s t) → Landing d s reply h.was h.is h.chain → AllWhole t × TellsNoLoss reply
  lands d reply h (inl (inl p)) = (kept d _ h _ p.member refl, tells reply _ p.reply_is (land_tells p.answer))
  lands d reply h (inl (inr p)) = absurd (let armed = p.side in let whole = all (d - 1) h.was h.found in cc)
  lands d reply h (inr (same, p)) = (kept d _ h _ p.member refl, tells reply _ p.reply_is tt)

  notes : (d : ℕ) (reply : Reply) (h : Turns d (Noting d s reply) s t) → NotesAnswer reply h.was h.is ⊎ NotesNone reply h.was h.is → AllWhole t × TellsNoLoss reply
  notes d reply h (inl p) = (kept d _ h _ p.member refl, tells reply _ p.reply_is tt)
  notes d reply h (inr p) = (kept d _ h _ p.member refl, tells reply _ p.reply_is tt)

  act_whole : (act : Act) (reply : Reply) → LosesNot act → ActStep s act reply t → AllWhole t × TellsNoLoss reply
  act_whole (SetSeed seed) reply un h = (subst AllWhole (sym h.1) all, tells reply _ h.0 tt)
  act_whole (Declare name size) reply un h =
      (λ i m e. elim (get_push s.members _ m i (ap (λ (x : State). slice_get x.members i) (sym h.4) ∙ e)) [ inl last ↦ ap (λ (x : Member). x.link) last.1 | inr there ↦ all i m there ], tells reply _ h.0 tt)
  act_whole (SetMoment moment) reply un h = (subst AllWhole (sym h.2) all, tells reply _ h.0 tt)
  act_whole (SetRule rule) reply un h = (subst AllWhole (sym h.2) all, tells reply _ h.0 tt)
  act_whole (DoFound d) reply un h = (subst AllWhole (sym h.1.state) all, tells reply _ h.0 tt)
  act_whole (DoRekey by a who) reply un h = (subst AllWhole (sym h.state) all, tells reply _ h.reply_is tt)
  act_whole (On d (statements.Call request)) reply un h = (kept d _ h _ h.step.1.member refl, tells reply _ h.step.1.reply_is tt)
  act_whole (See d (statements.Look show)) reply un h = (same_state h.state, tells reply _ h.shows.2 tt)
  act_whole (See d statements.Tell) reply un h = (same_state h.state, tells reply _ h.shows.2 tt)
  act_whole (See d (statements.Past r)) reply un h = (same_state h.state, tells reply _ h.shows.2 tt)
  act_whole (See d (statements.Reclaim from)) reply un h = (same_state h.state, tells reply _ h.shows.2 tt)
  act_whole (On d statements.Pick) reply un h = picks d reply h h.step.1
  act_whole (On d statements.Land) reply un h = lands d reply h h.step
  act_whole (On d statements.Note) reply un h = notes d reply h h.step.1
  act_whole (On d statements.Pull) reply un h = (kept d _ h _ h.step.1.member refl, tells reply _ h.step.1.reply_is tt)
  act_whole (On d (statements.Batch most)) reply un h = (kept d _ h _ h.step.3 refl, tells reply _ h.step.1 tt)
  act_whole (On d statements.Fetch) reply un h = (kept d _ h _ h.step.1.member refl, tells reply _ h.step.1.reply_is tt)
  act_whole (On d statements.Settle) reply un h =
      let to = settle_tells h.was.link h.step.link h.step.answer (all (d - 1) h.was h.found) h.step.after in
      (turned d _ h (ap (λ (x : Member). x.link) h.step.member ∙ to.0), tells reply _ h.step.reply_is to.1)
  act_whole (On d (statements.Fuse steps)) reply un h = (kept d _ h _ h.step.2 refl, tells reply _ h.step.1 tt)
  act_whole (On d (statements.Lose side)) reply un h = absurd un
  act_whole (On d statements.Power) reply un h = (kept d _ h _ h.step.2 refl, tells reply _ h.step.1 tt)
  act_whole (On d statements.Backup) reply un h = (kept d _ h _ h.step.1.member refl, tells reply _ h.step.1.reply_is tt)
  act_whole (On d (statements.Restore size)) reply un h = (kept d _ h _ h.step.2.member refl, tells reply _ h.step.2.reply_is tt)
  act_whole (On d statements.Open) reply un h = (kept d _ h _ h.step.1.member refl, tells reply _ h.step.1.reply_is tt)
  act_whole ListChain reply un h = (same_state h.1, tells reply _ h.0 tt)
  act_whole AuditChain reply un h = (same_state h.1, tells reply _ h.0 tt)

-- a statement that arms no link has no part that does
once_unlosing : (a act : Act) (before : Option Reply) → LosesNot a → once a before ≡ Some act → LosesNot act
once_unlosing a act None un e = subst LosesNot (let is : a ≡ act = cc in is) un
once_unlosing a act (Some reply) un e = cc

stage_unlosing : (d : ℕ) (stage : Stage) → LosesNot (stage_act d stage)
stage_unlosing d ToPick = tt
stage_unlosing d ToLand = tt
stage_unlosing d ToNote = tt
stage_unlosing d ToFetch = tt
stage_unlosing d ToSettle = tt

staged_unlosing : (d : ℕ) (act : Act) (stage : Option Stage) → option_map (stage_act d) stage ≡ Some act → LosesNot act
staged_unlosing d act None e = cc
staged_unlosing d act (Some stage) e = subst LosesNot (let is : stage_act d stage ≡ act = cc in is) (stage_unlosing d stage)

unlosing : (statement : Statement) (before : Option Reply) (act : Act) → LosesNone statement → next_after statement before ≡ Some act → LosesNot act
unlosing (statements.Do a) before act h e = once_unlosing a act before h e
unlosing (statements.Flush d) before act h e = staged_unlosing d act (flush_stage before) e
unlosing (statements.Drain d) before act h e = staged_unlosing d act (drain_stage before) e
unlosing (statements.Resolve d) before act h e = staged_unlosing d act (resolve_stage before) e

progress_whole : (statement : Statement) (before : List Reply) (s : State) (replies : List Reply) (t : State) → LosesNone statement → Progress statement before s replies t → AllWhole s → AllWhole t × All TellsNoLoss replies
progress_whole statement before s [] t none h all = (subst AllWhole (sym h) all, All-nil TellsNoLoss)
progress_whole statement before s (reply ∷ replies) t none h all =
    let first = act_whole s h.1 all h.0 reply (unlosing statement (last_reply before) h.0 none h.2) h.3 in
    let rest = progress_whole statement (before ++ reply ∷ []) h.1 replies t none h.4 first.0 in
    (rest.0, All-cons TellsNoLoss reply replies first.1 rest.1)

run_whole : (s : State) (statements : List Statement) (each : List (List Reply)) (t : State) → All LosesNone statements → Run s statements each t → AllWhole s → All (All TellsNoLoss) each
run_whole s [] [] t none h all = All-nil (All TellsNoLoss)
run_whole s (statement ∷ statements) (replies ∷ each) t none h all =
    let first = progress_whole statement [] s replies h.0 (All-head LosesNone statement statements none) h.1.0 all in
    All-cons (All TellsNoLoss) replies each first.1 (run_whole h.0 statements each t (All-tail LosesNone statement statements none) h.2 first.0)
run_whole s [] (replies ∷ each) t none h all = absurd h
run_whole s (statement ∷ statements) [] t none h all = absurd h

pub unlost : UnlostRunsOn
unlost statements each t none h = run_whole new_state statements each t none h (λ i m e. cc)
