-- What a device knows of its chain is kept by each of its steps, whatever was acknowledged and whatever waits.
use Rattle.std.proofs.Common.{◌≡◌, ℕ, ◌+◌, ◌≤◌, ◌<◌, true, List, [], ◌∷◌, ◌++◌, length, Some, None, Result, Ok, Err, refl, sym, ap, ◌∙◌, subst, arith}
use Rattle.std.proofs.lemmas.List.{take_all}
use Rattle.kb_ops.specs.declared.requests.Request.{Request}
use Rattle.kb_ops.specs.Trees.{fold_ops}
use Rattle.kb_ops.specs.Plan.{plan_of}
use Rattle.kb_rules.specs.declared.report.Report.{Report}
use Rattle.kb_snap.specs.Chains.{most_in_step, Chain, tree_at}
use Rattle.kb_keys.specs.Members.{nobody}
use Rattle.kb_snap.specs.Members.{roles_after, roles_at, roles_of, IsStranger}
use Rattle.kb_device.specs.Answers.{Called, CallFault, PickFault, Noted, NoteFault, PullFault, FetchFault, SettleFault, OpenFault, Status}
use Rattle.kb_snap.specs.Answers.{PutFault}
use Rattle.kb_device.specs.Answers as answers
use Rattle.kb_snap.specs.Answers as folder_says
use Rattle.kb_snap.specs.Puts.{Ask}
use Rattle.kb_device.specs.Journals.{last_seq, taken}
use Rattle.kb_device.specs.Parts.{Merger, Flight, Part, NoteStops, CallStep, PickStep, NoteStep, PullStep, FetchStep, SettleStep, OpenStep, flight_of, merge_ask}
use Rattle.kb_snap.specs.Lawful.{IsLawful}
use Rattle.kb_device.specs.Meets.{PartMeets, PutMeets}
use Rattle.kb_device.proofs.Calls.{call_fits}
use Rattle.kb_device.proofs.PartSteps.{at_session, at_journal, at_area, at_drop, ended_part, adds_part, breaks_part, picks_part, lands_part, lands_known, parts_part, marked, kept_part, pulls_part, head_meets, planned_part, closed_part, opened_part, not_opened_part}
use Rattle.kb_device.proofs.Puts.{settle_part, settle_known, settle_lost, long}
use Rattle.kb_device.proofs.Steps.{refused, answer_at, keeps}

module _ (d : ℕ) (c : Chain) (p : Part) (h : PartMeets d c p) where
  same : (q : Part) → q ≡ p → PartMeets d c q
  same q e = subst (PartMeets d c) (sym e) h

  pub call_knows : IsLawful c → 1 ≤ d → (request : Request) (moment : ℕ) (answer : Result Called CallFault) (q : Part) → CallStep d p request moment answer q → PartMeets d c q
  call_knows lawful numbered request moment (Ok (answers.Done seq)) q step =
      let m = step.makes in
      let f = call_fits d c step.journal lawful (at_journal d c p step.journal h m.at.journal_is) numbered request moment step.op
      (ap (λ t. plan_of (fold_ops step.journal.queue t) request d (last_seq step.journal + 1) moment) (sym (at_session d c p step.journal h m.at).base) ∙ m.plan) in
      subst (PartMeets d c) (sym step.part) (adds_part d c p step.journal step.op h m.at f.1 f.2 step.takes.seq step.takes.few f.0 f.3 step.takes.fits step.left)
  call_knows lawful numbered request moment (Ok answers.Same) q step = same q step.0
  call_knows lawful numbered request moment (Err answers.CallFault.Closed) q step = same q step.0
  call_knows lawful numbered request moment (Err answers.CallFault.ReadOnly) q step = same q step.0
  call_knows lawful numbered request moment (Err (answers.CallFault.ByPlan fault)) q step = same q step.0
  call_knows lawful numbered request moment (Err (answers.CallFault.ByQueue fault)) q step = same q step.0
  call_knows lawful numbered request moment (Err answers.CallFault.Stopped) q step =
      let m = step.makes in
      let f = call_fits d c step.journal lawful (at_journal d c p step.journal h m.at.journal_is) numbered request moment step.op
      (ap (λ t. plan_of (fold_ops step.journal.queue t) request d (last_seq step.journal + 1) moment) (sym (at_session d c p step.journal h m.at).base) ∙ m.plan) in
      subst (PartMeets d c) (sym step.part) (breaks_part d c p step.journal step.op h m.at f.1 f.2 step.takes.seq step.takes.few f.0 f.3 step.takes.fits)

  pub pick_knows : (most : ℕ) (name : List ℕ) (answer : Result (Flight × Ask) PickFault) (q : Part) → 0 < most → most ≤ most_in_step → PickStep most d name p answer q → PartMeets d c q
  pick_knows most name (Ok (flight, ask)) q positive bound step =
      let part : q ≡ record p { flight = Some (flight_of most step.journal) } = subst (λ f. q ≡ record p { flight = Some f }) step.flight_is step.part in
      subst (PartMeets d c) (sym part) (picks_part d c most p step.journal positive bound h step.at step.free step.clear step.some)
  pick_knows most name (Err answers.PickFault.Closed) q positive bound step = same q step.0
  pick_knows most name (Err answers.PickFault.InFlight) q positive bound step = same q step.0
  pick_knows most name (Err answers.PickFault.Branched) q positive bound step = same q step.0
  pick_knows most name (Err answers.PickFault.Idle) q positive bound step = same q step.0

  stops : (put : Result ℕ PutFault) (q : Part) → PutMeets d c p put → NoteStops put p q → PartMeets d c q
  stops (Ok number) q w step =
      let a = answer_at d c p (Ok number) step.journal step.flight w step.flies in
      subst (PartMeets d c) (sym step.part)
      (ended_part d c p step.journal (taken number step.flight.count step.journal) (at_journal d c p step.journal h step.flies.at.journal_is) (lands_known d c p step.journal step.flight number h step.flies.at step.flies.flight_is a).meets (at_area d c p step.journal h step.flies.at.journal_is) (at_drop d c p step.journal step.flight.count number h step.flies.at.journal_is))
  stops (Err (folder_says.PutFault.Stale len)) q w step =
      subst (PartMeets d c) (sym step.part)
      (ended_part d c p step.journal (record step.journal { mark = true }) (at_journal d c p step.journal h step.flies.at.journal_is)
      (marked d c p step.journal step.flight h step.flies.at step.flies.flight_is (answer_at d c p (Err (folder_says.PutFault.Stale len)) step.journal step.flight w step.flies)) (at_area d c p step.journal h step.flies.at.journal_is) (at_area d c p step.journal h step.flies.at.journal_is))
  stops (Err folder_says.PutFault.NotWriter) q w step = absurd step
  stops (Err folder_says.PutFault.ChainEnd) q w step = absurd step
  stops (Err (folder_says.PutFault.Collision id)) q w step = absurd step

  pub note_knows : (put : Result ℕ PutFault) (answer : Result Noted NoteFault) (q : Part) → PutMeets d c p put → NoteStep p put answer q → PartMeets d c q
  note_knows put (Ok (answers.Landed n)) q w (number, is, step) =
      subst (PartMeets d c) (sym step.part)
      (lands_part d c p step.journal step.flight number h step.flies.at step.flies.flight_is (answer_at d c p (Ok number) step.journal step.flight (subst (PutMeets d c p) is w) step.flies) step.left)
  note_knows put (Ok (answers.Noted.Branched at)) q w (len, is, step) =
      subst (PartMeets d c) (sym step.part)
      (parts_part d c p step.journal step.flight h step.flies.at step.flies.flight_is (answer_at d c p (Err (folder_says.PutFault.Stale len)) step.journal step.flight (subst (PutMeets d c p) is w) step.flies) step.left)
  note_knows put (Ok answers.Kept) q w (is, step) =
      let k = keeps d c p put is w in
      subst (PartMeets d c) (sym step.part) (kept_part d c p k.0 k.1 h k.2 k.3 k.4)
  note_knows put (Err answers.NoteFault.Closed) q w step = same q step.0
  note_knows put (Err answers.NoteFault.NoFlight) q w step = same q step.0
  note_knows put (Err answers.NoteFault.Stopped) q w step = stops put q w step

  pub pull_knows : (answer : Result ℕ PullFault) (q : Part) → PullStep d c p answer q → PartMeets d c q
  pull_knows (Ok n) q step =
      let role : roles_of c d ≡ roles_at c (length c) d = ap (λ l. roles_after nobody l d) (sym (take_all (length c) c (omega arith))) in
      let part = subst (λ m. q ≡ record p { may = record step.journal { known = m } ∷ []; base = tree_at c m; role = roles_of c d; left = step.left }) step.number step.part in
      subst (PartMeets d c) (sym part) (pulls_part d c p step.journal (roles_of c d) step.left h step.at step.flushed role)
  pull_knows (Err answers.PullFault.Closed) q step = same q step.0
  pull_knows (Err answers.PullFault.NotMember) q step = same q step.0
  pull_knows (Err answers.PullFault.Unflushed) q step = same q step.0
  pull_knows (Err answers.PullFault.Stopped) q step =
      subst (PartMeets d c) (sym step.part)
      (ended_part d c p step.journal (record step.journal { known = length c }) (at_journal d c p step.journal h step.at.journal_is) (head_meets d c p step.journal h step.at step.flushed).meets (at_area d c p step.journal h step.at.journal_is) (at_area d c p step.journal h step.at.journal_is))

  pub fetch_knows : (answer : Result ℕ FetchFault) (q : Part) → FetchStep d c p answer q → PartMeets d c q
  fetch_knows (Ok n) q step =
      let m = at_journal d c p step.journal h step.at.journal_is in
      let fits : (k : ℕ) → Some n ≡ Some k → (step.journal.mark ≡ true) × (step.journal.known ≤ k) × (k ≤ length c) = λ k e. (
      let same : n ≡ k = cc in
      (step.marked, (let w = m.within in let n_is = step.number in omega arith), (let n_is = step.number in omega arith))) in
      subst (PartMeets d c) (sym step.part) (planned_part d c p step.journal (Some n) h step.at fits)
  fetch_knows (Err answers.FetchFault.Closed) q step = same q step.0
  fetch_knows (Err answers.FetchFault.NotMember) q step = same q step.0
  fetch_knows (Err answers.FetchFault.NoBranch) q step = same q step.0

  pub open_knows : (answer : Result Status OpenFault) (q : Part) → OpenStep d c p answer q → PartMeets d c q
  open_knows (Ok status) q step = subst (PartMeets d c) (sym step.part) (opened_part d c p step.found step.left h step.may (member_length c step.member)) where
    member_length : (c : Chain) → (IsStranger c d → ⊥) → 1 ≤ length c
    member_length [] member = absurd (member refl)
    member_length (x ∷ c) member = omega arith
  open_knows (Err answers.AlreadyOpen) q step = same q step.0
  open_knows (Err answers.OpenFault.NotMember) q step = same q step.0
  open_knows (Err answers.OpenFault.Stopped) q step = subst (PartMeets d c) (sym step.part) (not_opened_part d c p h step.closed)
  open_knows (Err answers.BadDisk) q step = absurd step
  open_knows (Err (answers.Foreign known)) q step = absurd step
  open_knows (Err (answers.BadFolder number)) q step = absurd step

  pub settle_knows : (by : Merger) (answer : Result (ℕ × Report) SettleFault) (c' : Chain) (q : Part) → SettleStep d by c p answer c' q → PartMeets d c' q
  settle_knows by (Ok (n, did)) c' q step =
      let j = step.journal in
      let x = (merge_ask d by j step.plan).revision in
      let longer : c' ≡ c ++ x ∷ [] = step.put.3 in
      let part : q ≡ record p { may = taken (step.plan + 1) (length j.queue) j ∷ []; plan = None; base = tree_at (c ++ x ∷ []) (step.plan + 1); role = roles_of (c ++ x ∷ []) d; left = step.left } =
      subst (λ k. q ≡ record p { may = taken k (length j.queue) j ∷ []; plan = None; base = tree_at (c ++ x ∷ []) k; role = roles_of (c ++ x ∷ []) d; left = step.left }) step.put.2
      (subst (λ l. q ≡ record p { may = taken n (length j.queue) j ∷ []; plan = None; base = tree_at l n; role = roles_of l d; left = step.left }) longer step.part) in
      subst (λ l. PartMeets d l q) (sym longer)
      (subst (PartMeets d (c ++ x ∷ [])) (sym part) (settle_part d c by p j step.plan h step.planned.at step.planned.plan_is step.put.0 step.put.1 step.left))
  settle_knows by (Err answers.SettleFault.Closed) c' q step = subst (λ l. PartMeets d l q) (sym step.0) (same q step.1)
  settle_knows by (Err answers.SettleFault.NoPlan) c' q step = subst (λ l. PartMeets d l q) (sym step.0) (same q step.1)
  settle_knows by (Err (answers.SettleFault.LinkFault None)) c' q step = subst (λ l. PartMeets d l q) (sym step.put) (subst (PartMeets d c) (sym step.part) (closed_part d c p h))
  settle_knows by (Err (answers.SettleFault.LinkFault (Some (Err fault)))) c' q step =
      subst (λ l. PartMeets d l q) (sym (refused c (merge_ask d by step.journal step.plan) fault c' step.put)) (subst (PartMeets d c) (sym step.part) (closed_part d c p h))
  settle_knows by (Err (answers.SettleFault.LinkFault (Some (Ok n)))) c' q step =
      let x = (merge_ask d by step.journal step.plan).revision in
      subst (λ l. PartMeets d l q) (sym step.put.3)
      (subst (PartMeets d (c ++ x ∷ [])) (sym step.part) (settle_lost d c by p step.journal step.plan h step.planned.at step.planned.plan_is step.put.0 step.put.1))
  settle_knows by (Err (answers.SettleFault.ByPut fault)) c' q step =
      subst (λ l. PartMeets d l q) (sym (refused c (merge_ask d by step.journal step.plan) fault c' step.put))
      (subst (PartMeets d c) (sym step.part) (planned_part d c p step.journal None h step.planned.at (λ k e. cc)))
  settle_knows by (Err answers.SettleFault.Stopped) c' q step =
      let j = step.journal in
      let x = (merge_ask d by j step.plan).revision in
      subst (λ l. PartMeets d l q) (sym step.put.3)
      (subst (PartMeets d (c ++ x ∷ [])) (sym step.part)
      (ended_part d (c ++ x ∷ []) p j (taken (step.plan + 1) (length j.queue) j)
      (long d c by p j step.plan h step.planned.at step.planned.plan_is step.put.0 step.put.1)
      (settle_known d c by p j step.plan h step.planned.at step.planned.plan_is step.put.0 step.put.1).meets (at_area d c p j h step.planned.at.journal_is) (at_drop d c p j (length j.queue) (step.plan + 1) h step.planned.at.journal_is)))
