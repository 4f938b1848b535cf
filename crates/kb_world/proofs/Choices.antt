-- Every reply of a part leads to one state, also one that tells of a stop or a collision.
use Rattle.std.proofs.Common.{◌≡◌, ◌⊎◌, ℕ, ◌+◌, ◌-◌, Bool, true, false, [], ◌∷◌, ◌++◌, length, map, Option, Some, None, Result, Ok, Err, inl, inr, refl, sym, ap, ◌∙◌, subst, arith}
use Rattle.std.specs.Prelude.{slice_set}
use Rattle.kb_edge.specs.declared.link.Side.{Side}
use Rattle.kb_ops.specs.declared.requests.PlanFault.{PlanFault}
use Rattle.kb_ops.specs.declared.requests.Planned.{Planned}
use Rattle.kb_ops.specs.declared.requests.Planned.TheVariants as planned
use Rattle.kb_ops.specs.declared.requests.Request.{Request}
use Rattle.kb_rules.specs.declared.report.Report.{Report}
use Rattle.kb_snap.specs.Chains.{Chain}
use Rattle.kb_device.specs.Answers.{Called, CallFault, Noted, NoteFault, PullFault, SettleFault, OpenFault, Status}
use Rattle.kb_snap.specs.Answers.{PutFault}
use Rattle.kb_device.specs.Answers as answers
use Rattle.kb_snap.specs.Answers as folder_says
use Rattle.kb_snap.specs.Puts.{Ask, PutStep, LostPut}
use Rattle.kb_device.specs.Journals.{Journal, queued, taken, branched, taken_over, resumed}
use Rattle.kb_device.specs.Parts.{Merger, Flight, Part, IsOpenAt, closed, ended, plan_at, CallStep, NoteStep, NoteStops, PullStep, SettleStep, OpenStep, merge_ask}
use Rattle.kb_world.specs.Statements.{Reply, ByCall, ByLand, ByNote, ByPull, BySettle, ByOpen, Act, SetSeed, Declare, DoFound, DoRekey, SetMoment, SetRule, See, ListChain, AuditChain, On}
use Rattle.kb_world.specs.Statements as statements
use Rattle.kb_device.specs.Links.{LinkAfter}
use Rattle.kb_world.specs.Machine.{merger, cut_off, Settling, Member, went, State, Turns, Does, PicksFlight, PicksNone, NotesAnswer, NotesNone, Landing, Noting, landed, NoteCause, ActStep}
use Rattle.kb_device.specs.Waits.{Waiting, Nothing, Answered}
use Rattle.kb_world.specs.Good.{IsGood}
use Rattle.kb_world.specs.RunLaws.{is_plain}
use Rattle.kb_world.specs.RunReplies.{disarmed_part, disarmed_member, disarmed, RepliesTellAll, OpeningsChoose}
use Rattle.kb_device.proofs.PartSteps.{one_is}
use Rattle.kb_world.proofs.Determined.{map_set, journal_of, IsOne, at_one, sessions_one, parts_determined}

-- ---- what a stop leaves of a part

abbrev call_by : Part → Journal → Result Planned PlanFault → Part
call_by p j (Err fault) = p
call_by p j (Ok planned.Same) = p
call_by p j (Ok (planned.Made op)) = disarmed_part (record (ended p) { may = j ∷ queued op j ∷ []; stopped = Some op })

abbrev note_put : Part → Journal → Flight → Result ℕ PutFault → Part
note_put p j flight (Ok n) = disarmed_part (record (ended p) { may = j ∷ taken n flight.count j ∷ [] })
note_put p j flight (Err fault) = disarmed_part (record (ended p) { may = j ∷ branched j ∷ [] })

abbrev note_by : Part → Journal → Result ℕ PutFault → Option Flight → Part
note_by p j put None = p
note_by p j put (Some flight) = note_put p j flight put

abbrev pull_by : Chain → Part → Journal → Part
pull_by c p j = disarmed_part (record (ended p) { may = j ∷ record j { known = length c } ∷ [] })

abbrev settle_by : ℕ → Merger → Chain → Part → Journal → Option ℕ → Chain × Part
settle_by d by c p j None = (c, p)
settle_by d by c p j (Some plan) = (c ++ (merge_ask d by j plan).revision ∷ [], disarmed_part (record (ended p) { may = j ∷ taken (plan + 1) (length j.queue) j ∷ [] }))

abbrev open_by : ℕ → Chain → Part → Part
open_by d c p = disarmed_part (record p { may = p.may ++ (map (taken_over d c) p.may ++ map (resumed d c) p.may) })

module _ (p : Part) (j : Journal) (one : p.is_open ≡ true → p.may ≡ j ∷ []) where
  on : (k : Journal) → IsOpenAt p k → j ≡ k
  on k at = sym (one_is k j p.may at.journal_is (one at.session))

  call_halts : (d : ℕ) (request : Request) (moment : ℕ) (answer : Result Called CallFault) (q : Part) → CallStep d p request moment answer q → is_plain (ByCall answer) ≡ false → disarmed_part q ≡ call_by p j (plan_at d p j request moment)
  call_halts d request moment (Ok answer) q h halts = cc
  call_halts d request moment (Err answers.CallFault.Closed) q h halts = cc
  call_halts d request moment (Err answers.CallFault.ReadOnly) q h halts = cc
  call_halts d request moment (Err (answers.CallFault.ByPlan fault)) q h halts = cc
  call_halts d request moment (Err (answers.CallFault.ByQueue fault)) q h halts = cc
  call_halts d request moment (Err answers.CallFault.Stopped) q h halts =
      let same = on h.journal h.makes.at in
      ap disarmed_part h.part ∙ sym ((λ i. call_by p (same i) (plan_at d p (same i) request moment)) ∙ ap (call_by p h.journal) h.makes.plan)

  note_halts : (put : Result ℕ PutFault) (answer : Result Noted NoteFault) (q : Part) → NoteStep p put answer q → is_plain (ByNote answer) ≡ false → disarmed_part q ≡ note_by p j put p.flight
  note_halts put (Ok answer) q h halts = cc
  note_halts put (Err answers.NoteFault.Closed) q h halts = cc
  note_halts put (Err answers.NoteFault.NoFlight) q h halts = cc
  note_halts put (Err answers.NoteFault.Stopped) q h halts = by put h where
    by : (put : Result ℕ PutFault) → NoteStops put p q → disarmed_part q ≡ note_by p j put p.flight
    by (Ok n) h =
        let same = on h.journal h.flies.at in
        let flight = h.flies.flight_is in
        ap disarmed_part h.part ∙ sym (λ i. note_by p (same i) (Ok n) (flight i))
    by (Err (folder_says.PutFault.Stale len)) h =
        let same = on h.journal h.flies.at in
        let flight = h.flies.flight_is in
        ap disarmed_part h.part ∙ sym (λ i. note_by p (same i) (Err (folder_says.PutFault.Stale len)) (flight i))
    by (Err folder_says.PutFault.NotWriter) h = absurd h
    by (Err folder_says.PutFault.ChainEnd) h = absurd h
    by (Err (folder_says.PutFault.Collision id)) h = absurd h

  pull_halts : (d : ℕ) (c : Chain) (answer : Result ℕ PullFault) (q : Part) → PullStep d c p answer q → is_plain (ByPull answer) ≡ false → disarmed_part q ≡ pull_by c p j
  pull_halts d c (Ok n) q h halts = cc
  pull_halts d c (Err answers.PullFault.Closed) q h halts = cc
  pull_halts d c (Err answers.PullFault.NotMember) q h halts = cc
  pull_halts d c (Err answers.PullFault.Unflushed) q h halts = cc
  pull_halts d c (Err answers.PullFault.Stopped) q h halts = ap disarmed_part h.part ∙ ap (pull_by c p) (sym (on h.journal h.at))

open_halts : (p : Part) (d : ℕ) (c : Chain) (answer : Result Status OpenFault) (q : Part) → OpenStep d c p answer q → is_plain (ByOpen answer) ≡ false → disarmed_part q ≡ open_by d c p
open_halts p d c (Ok status) q h halts = cc
open_halts p d c (Err answers.AlreadyOpen) q h halts = cc
open_halts p d c (Err answers.OpenFault.NotMember) q h halts = cc
open_halts p d c (Err answers.OpenFault.Stopped) q h halts = ap disarmed_part h.part
open_halts p d c (Err answers.BadDisk) q h halts = absurd h
open_halts p d c (Err (answers.Foreign known)) q h halts = absurd h
open_halts p d c (Err (answers.BadFolder number)) q h halts = absurd h

-- ---- what it leaves of a device and the chain

-- these steps of devices, and what each reply that isn't plain leaves
record Halt (goes : State → Reply → Member → Member → Chain → Type 0) : Type 0 where
  out : State → Reply → Member → Member × Chain
  comes : (s : State) (m : Member) (reply : Reply) (is : Member) (c : Chain) → IsOne m.part → is_plain reply ≡ false → goes s reply m is c → (disarmed_member is ≡ (out s reply m).0) × (c ≡ (out s reply m).1)

does : {A : Type 0} (goes : A → Part → Type 0) (tells : A → Reply) (o : Part) (reply : Reply) (was is : Member) → ((a : A) (q : Part) → goes a q → is_plain (tells a) ≡ false → disarmed_part q ≡ o) → is_plain reply ≡ false → Does goes tells reply was is → disarmed_member is ≡ went was o
does goes tells o reply was is f halts h = ap disarmed_member h.member ∙ ap (went was) (f h.answer h.part h.step (subst (λ r. is_plain r ≡ false) h.reply_is halts))

call_halt : (d : ℕ) (request : Request) → Halt (λ s reply was is c. (c ≡ s.chain) × Does (CallStep d was.part request s.moment) ByCall reply was is)
call_halt d request = record {
  out = λ s reply m. (went m (call_by m.part (journal_of m.part) (plan_at d m.part (journal_of m.part) request s.moment)), s.chain);
  comes = λ s m reply is c one halts step. (
    does (CallStep d m.part request s.moment) ByCall _ reply m is (λ answer q h stops. call_halts m.part (journal_of m.part) (at_one m.part one) d request s.moment answer q h stops) halts step.1,
    step.0,
  );
}

pull_halt : (d : ℕ) → Halt (λ s reply was is c. (c ≡ s.chain) × Does (PullStep d s.chain was.part) ByPull reply was is)
pull_halt d = record {
  out = λ s reply m. (went m (pull_by s.chain m.part (journal_of m.part)), s.chain);
  comes = λ s m reply is c one halts step. (does (PullStep d s.chain m.part) ByPull _ reply m is (λ answer q h stops. pull_halts m.part (journal_of m.part) (at_one m.part one) d s.chain answer q h stops) halts step.1, step.0);
}

open_halt : (d : ℕ) → Halt (λ s reply was is c. (c ≡ s.chain) × Does (OpenStep d s.chain was.part) ByOpen reply was is)
open_halt d = record {
  out = λ s reply m. (went m (open_by d s.chain m.part), s.chain);
  comes = λ s m reply is c one halts step. (does (OpenStep d s.chain m.part) ByOpen _ reply m is (λ answer q h stops. open_halts m.part d s.chain answer q h stops) halts step.1, step.0);
}

-- a put that met a collision, or a stop after one; the link is not armed then
abbrev settled : ℕ → State → Reply → Member → Member × Chain
settled d s (BySettle (Err (answers.SettleFault.ByPut fault))) m = (record (went m (disarmed_part (record m.part { plan = None }))) { link = None }, s.chain)
settled d s (BySettle (Err (answers.SettleFault.LinkFault lost))) m = (record (went m (disarmed_part (closed m.part))) { link = None }, s.chain)
settled d s reply m = (let to = settle_by d (merger s m) s.chain m.part (journal_of m.part) m.part.plan in (record (went m to.1) { link = None }, to.0))

settle_halt : (d : ℕ) → Halt (λ s reply was is c. Settling d s reply was is c)
settle_halt d = record {
  out = settled d;
  comes = λ s m reply is c one halts step.
      subst (λ r. (disarmed_member is ≡ (settled d s r m).0) × (c ≡ (settled d s r m).1)) (sym step.reply_is) (by s m is c step.part step.link one step.answer (subst (λ r. is_plain r ≡ false) step.reply_is halts) step.member step.step step.after);
}
  where
    by : (s : State) (m is : Member) (c : Chain) (q : Part) (link : Option Side) → IsOne m.part → (answer : Result (ℕ × Report) SettleFault) → is_plain (BySettle answer) ≡ false → is ≡ record (went m q) { link = link } → SettleStep d (merger s m) s.chain m.part answer c q → LinkAfter m.link answer link
        → (disarmed_member is ≡ (settled d s (BySettle answer) m).0) × (c ≡ (settled d s (BySettle answer) m).1)
    by s m is c q link one (Ok merged) halts member h after = cc
    by s m is c q link one (Err answers.SettleFault.Closed) halts member h after = cc
    by s m is c q link one (Err answers.SettleFault.NoPlan) halts member h after = cc
    by s m is c q link one (Err (answers.SettleFault.LinkFault None)) halts member h after = cc
    by s m is c q link one (Err (answers.SettleFault.LinkFault (Some (Ok n)))) halts member h after = cc
    by s m is c q link one (Err (answers.SettleFault.LinkFault (Some (Err folder_says.PutFault.NotWriter)))) halts member h after = cc
    by s m is c q link one (Err (answers.SettleFault.LinkFault (Some (Err (folder_says.PutFault.Stale len))))) halts member h after = cc
    by s m is c q link one (Err (answers.SettleFault.LinkFault (Some (Err folder_says.PutFault.ChainEnd)))) halts member h after = cc
    by s m is c q link one (Err (answers.SettleFault.LinkFault (Some (Err (folder_says.PutFault.Collision id))))) halts member h after =
        (ap disarmed_member member ∙ (let part = h.part in let end = after.1 in λ i. record (went m (disarmed_part (part i))) { link = end i }), h.put.2)
    by s m is c q link one (Err (answers.SettleFault.ByPut folder_says.PutFault.NotWriter)) halts member h after = cc
    by s m is c q link one (Err (answers.SettleFault.ByPut (folder_says.PutFault.Stale len))) halts member h after = cc
    by s m is c q link one (Err (answers.SettleFault.ByPut folder_says.PutFault.ChainEnd)) halts member h after = cc
    by s m is c q link one (Err (answers.SettleFault.ByPut (folder_says.PutFault.Collision id))) halts member h after =
        (ap disarmed_member member ∙ (let part = h.part in let end = after.1 in λ i. record (went m (disarmed_part (part i))) { link = end i }), h.put.2)
    by s m is c q link one (Err answers.SettleFault.Stopped) halts member h after =
        let same = on m.part (journal_of m.part) (at_one m.part one) h.journal h.planned.at in
        let plan = h.planned.plan_is in
        let to = sym (λ i. settle_by d (merger s m) s.chain m.part (same i) (plan i)) in
        let part = h.part in
        let end = after.1 in
        (ap disarmed_member member ∙ (λ i. record (went m (disarmed_part (part i))) { link = end i }) ∙ ap (λ x. record (went m x.1) { link = None }) to, h.put.3 ∙ ap (λ x. x.0) to)

abbrev waited : Reply → Member → Member
waited (ByLand (Err (statements.ByFolder fault))) m = record (disarmed_member m) { waiting = Answered (Err fault) }
waited (ByLand (Err (statements.LinkFault lost))) m = disarmed_member (cut_off m)
waited reply m = disarmed_member m

land_halt : (d : ℕ) → Halt (λ s reply was is c. Landing d s reply was is c)
land_halt d = record { out = λ s reply m. (waited reply m, s.chain); comes = λ s m reply is c one halts step. by s m reply is c halts step } where
  met : (s : State) (m is : Member) (c : Chain) (ask : Ask) (answer : Result ℕ PutFault) → is_plain (ByLand (landed answer)) ≡ false → is ≡ record m { waiting = Answered answer } → PutStep s.chain ask answer c → (disarmed_member is ≡ waited (ByLand (landed answer)) m) × (c ≡ s.chain)
  met s m is c ask (Ok n) halts member step = cc
  met s m is c ask (Err folder_says.PutFault.NotWriter) halts member step = cc
  met s m is c ask (Err (folder_says.PutFault.Stale len)) halts member step = cc
  met s m is c ask (Err folder_says.PutFault.ChainEnd) halts member step = cc
  met s m is c ask (Err (folder_says.PutFault.Collision id)) halts member step = (ap disarmed_member member, step.2)

  lost : (s : State) (m is : Member) (c : Chain) (ask : Ask) (lost : Option (Result ℕ PutFault)) → is_plain (ByLand (Err (statements.LinkFault lost))) ≡ false → is ≡ cut_off m → LostPut s.chain ask lost c → (disarmed_member is ≡ disarmed_member (cut_off m)) × (c ≡ s.chain)
  lost s m is c ask None halts member step = cc
  lost s m is c ask (Some (Ok n)) halts member step = cc
  lost s m is c ask (Some (Err folder_says.PutFault.NotWriter)) halts member step = cc
  lost s m is c ask (Some (Err (folder_says.PutFault.Stale len))) halts member step = cc
  lost s m is c ask (Some (Err folder_says.PutFault.ChainEnd)) halts member step = cc
  lost s m is c ask (Some (Err (folder_says.PutFault.Collision id))) halts member step = (ap disarmed_member member, step.2)

  by : (s : State) (m : Member) (reply : Reply) (is : Member) (c : Chain) → is_plain reply ≡ false → Landing d s reply m is c → (disarmed_member is ≡ waited reply m) × (c ≡ s.chain)
  by s m reply is c halts (inl (inl h)) = subst (λ r. (disarmed_member is ≡ waited r m) × (c ≡ s.chain)) (sym h.reply_is) (met s m is c h.ask h.answer (subst (λ r. is_plain r ≡ false) h.reply_is halts) h.member h.step)
  by s m reply is c halts (inl (inr h)) = subst (λ r. (disarmed_member is ≡ waited r m) × (c ≡ s.chain)) (sym h.reply_is) (lost s m is c h.ask h.lost (subst (λ r. is_plain r ≡ false) h.reply_is halts) h.member h.step)
  by s m reply is c halts (inr (same, h)) = absurd (let no : true ≡ false = sym (ap is_plain h.reply_is) ∙ halts in cc)

abbrev noted : Member → Waiting → Member
noted m (Answered put) = record m { part = note_by m.part (journal_of m.part) put m.part.flight; waiting = Nothing }
noted m waiting = m

note_halt : (d : ℕ) → Halt (λ s reply was is c. Noting d s reply was is c)
note_halt d = record { out = λ s reply m. (noted m m.waiting, s.chain); comes = λ s m reply is c one halts step. (by m reply is one halts step.1, step.0) } where
  none : (m : Member) (fault : NoteFault) → is_plain (ByNote (Err fault)) ≡ false → NoteCause m fault → ⊥
  none m answers.NoteFault.Closed halts cause = cc
  none m answers.NoteFault.NoFlight halts cause = cc
  none m answers.NoteFault.Stopped halts cause = cause

  by : (m : Member) (reply : Reply) (is : Member) → IsOne m.part → is_plain reply ≡ false → NotesAnswer reply m is ⊎ NotesNone reply m is → disarmed_member is ≡ noted m m.waiting
  by m reply is one halts (inl h) =
      ap disarmed_member h.member ∙ ap (λ x. record m { part = x; waiting = Nothing }) (note_halts m.part (journal_of m.part) (at_one m.part one) h.put h.answer h.part h.step (subst (λ r. is_plain r ≡ false) h.reply_is halts)) ∙ ap (noted m) (sym h.waits)
  by m reply is one halts (inr h) = absurd (none m h.fault (subst (λ r. is_plain r ≡ false) h.reply_is halts) h.cause)

-- ---- parts

module _ (s t u : State) (good : IsGood s) (reply : Reply) (halts : is_plain reply ≡ false) where
  one_halt : (d : ℕ) (goes : State → Reply → Member → Member → Chain → Type 0) (halt : Halt goes) → Turns d (goes s reply) s t → Turns d (goes s reply) s u → disarmed t ≡ disarmed u
  one_halt d goes halt h k =
      let same : h.was ≡ k.was = (let x = h.found in let y = k.found in cc) in
      let left = halt.comes s h.was reply h.is h.chain (sessions_one s good (d - 1) h.was h.found) halts h.step in
      let right = halt.comes s k.was reply k.is k.chain (sessions_one s good (d - 1) k.was k.found) halts k.step in
      let out_is = ap (halt.out s reply) same in
      let member_is = left.0 ∙ ap (λ (o : Member × Chain). o.0) out_is ∙ sym right.0 in
      let chain_is = left.1 ∙ ap (λ (o : Member × Chain). o.1) out_is ∙ sym right.1 in
      let t_is = ap disarmed h.state ∙ ap (λ l. record s { chain = h.chain; members = l }) (map_set disarmed_member s.members (d - 1) h.is) in
      let u_is = ap disarmed k.state ∙ ap (λ l. record s { chain = k.chain; members = l }) (map_set disarmed_member s.members (d - 1) k.is) in
      t_is ∙ (λ i. record (disarmed s) { chain = chain_is i; members = slice_set (disarmed s).members (d - 1) (member_is i) }) ∙ sym u_is

  -- these replies are plain
  never : (r : Reply) → is_plain r ≡ true → reply ≡ r → ⊥
  never r plain e = (let no : true ≡ false = sym plain ∙ sym (ap is_plain e) ∙ halts in cc)

  halted : (act : Act) → ActStep s act reply t → ActStep s act reply u → disarmed t ≡ disarmed u
  halted (SetSeed seed) h k = absurd (never _ refl h.0)
  halted (Declare name size) h k = absurd (never _ refl h.0)
  halted (SetMoment moment) h k = absurd (never _ refl h.0)
  halted (SetRule rule) h k = absurd (never _ refl h.0)
  halted (DoFound d) h k = absurd (never _ refl h.0)
  halted (DoRekey by a who) h k = absurd (never _ refl h.reply_is)
  halted (On d (statements.Call request)) h k = one_halt d _ (call_halt d request) h k
  halted (See d (statements.Look show)) h k = absurd (never _ refl h.shows.2)
  halted (See d statements.Tell) h k = absurd (never _ refl h.shows.2)
  halted (See d (statements.Past r)) h k = absurd (never _ refl h.shows.2)
  halted (See d (statements.Reclaim from)) h k = absurd (never _ refl h.shows.2)
  halted (On d statements.Pick) h k = absurd (by h.step.1) where
    by : PicksFlight d reply h.was h.is ⊎ PicksNone d reply h.was h.is → ⊥
    by (inl p) = never _ refl p.reply_is
    by (inr p) = never _ refl p.reply_is
  halted (On d statements.Land) h k = one_halt d _ (land_halt d) h k
  halted (On d statements.Note) h k = one_halt d _ (note_halt d) h k
  halted (On d statements.Pull) h k = one_halt d _ (pull_halt d) h k
  halted (On d statements.Fetch) h k = absurd (never _ refl h.step.1.reply_is)
  halted (On d statements.Settle) h k = one_halt d _ (settle_halt d) h k
  halted (On d (statements.Batch most)) h k = absurd (never _ refl h.step.1)
  halted (On d (statements.Fuse steps)) h k = absurd (never _ refl h.step.1)
  halted (On d (statements.Lose side)) h k = absurd (never _ refl h.step.1)
  halted (On d statements.Power) h k = absurd (never _ refl h.step.1)
  halted (On d statements.Backup) h k = absurd (never _ refl h.step.1.reply_is)
  halted (On d (statements.Restore size)) h k = absurd (never _ refl h.step.2.reply_is)
  halted (On d statements.Open) h k = one_halt d _ (open_halt d) h k
  halted ListChain h k = absurd (never _ refl h.0)
  halted AuditChain h k = absurd (never _ refl h.0)

pub replies_tell : RepliesTellAll
replies_tell s act reply t u good ones h k = by (is_plain reply) refl where
  by : (b : Bool) → is_plain reply ≡ b → disarmed t ≡ disarmed u
  by true plain = (parts_determined s act reply reply t u good ones h plain k plain).1
  by false halts = halted s t u good reply halts act h k

pub openings_choose : OpeningsChoose
openings_choose d c p status q h = (
  h.found,
  h.may,
  record { closed = h.closed; member = h.member; found = h.found; may = (0, (omega arith), refl); status_is = h.status_is; left = h.left; falls = h.falls; part = h.part },
)
