-- What each step of a device keeps, whatever it answers.
use Rattle.std.proofs.Common.{◌≡◌, ◌⊎◌, ℕ, ◌+◌, ◌≤◌, ◌<◌, Bool, true, false, List, [], ◌∷◌, ◌++◌, length, drop, Option, Some, None, Result, Ok, Err, inl, inr, refl, sym, ap, ◌∙◌, subst, arith}
use Rattle.std.proofs.lemmas.List.{take_all}
use Rattle.kb_ops.specs.declared.rows.Op.{Op}
use Rattle.kb_ops.specs.declared.requests.Request.{Request}
use Rattle.kb_ops.specs.Trees.{Fits, fold_ops}
use Rattle.kb_ops.specs.Grammar.{IsProper}
use Rattle.kb_ops.specs.Plan.{plan_of}
use Rattle.kb_rules.specs.declared.report.Report.{Report}
use Rattle.kb_snap.specs.Chains.{most_in_step, Revision, Chain, tree_at}
use Rattle.kb_keys.specs.Members.{nobody}
use Rattle.kb_snap.specs.Members.{roles_after, roles_at, roles_of, IsStranger, IsNamed}
use Rattle.kb_device.specs.Answers.{Called, CallFault, PickFault, Noted, NoteFault, PullFault, FetchFault, SettleFault, OpenFault, BackupFault, RestoreFault, Status}
use Rattle.kb_snap.specs.Answers.{PutFault}
use Rattle.kb_device.specs.Answers as answers
use Rattle.kb_snap.specs.Answers as folder_says
use Rattle.kb_snap.specs.Puts.{Ask, PutStep, LostPut}
use Rattle.kb_device.specs.Journals.{Journal, last_seq, taken}
use Rattle.kb_device.specs.Parts.{Merger, IsMerger, Flight, Part, IsOpenAt, HasPlan, tree_shown, closed, Makes, CallStep, PickStep, NoteStep, PullStep, FetchStep, SettleStep, OpenStep, BackupStep, RestoreStep, merge_ask, ask_of, flight_of, Flies, NoteStops, IsRefused}
use Rattle.kb_snap.specs.Lawful.{AreFew, Follows, IsLawful}
use Rattle.kb_device.specs.Meets.{NoneOf, AnswerMeets, PartMeets, Acknowledges, PutMeets}
use Rattle.kb_device.specs.Waits.{Waiting, Nothing, Asked, Answered, waiting_if, WaitingMeets}
use Rattle.kb_device.proofs.Calls.{call_fits}
use Rattle.kb_device.proofs.PartSteps.{Stands, at_session, at_journal, one_is, no_waiting, adds_keeps, breaks_keeps, picks_keeps, lands_keeps, land_breaks, parts_keeps, part_breaks, kept_keeps, pulls_keeps, pull_breaks, planned_keeps, closed_keeps, shelved_keeps, opened_keeps, not_opened_keeps}
use Rattle.kb_device.proofs.Returns.{restored_keeps}
use Rattle.kb_device.proofs.Puts.{settle_follows, settle_keeps, settle_breaks, settle_lost_keeps, no_flight, land_follows, land_keeps}

-- what waits may be dropped
pub dropped : (d : ℕ) (c : Chain) (name : List ℕ) (p : Part) (w : Waiting) (b : Bool) → Stands d c name p w → Stands d c name p (waiting_if b w)
dropped d c name p w true h = h
dropped d c name p w false h = record { part = h.part; acknowledged = h.acknowledged; waiting = tt }

-- the chain stays, or it is followed by a revision of the device
abbrev pub Grows : ℕ → Chain → List ℕ → Part → Waiting → Chain → Type 0
Grows d c name q w c' = ((c' ≡ c) × Stands d c name q w) ⊎ ((x : Revision) × (c' ≡ c ++ x ∷ []) × (x.writer ≡ d) × (x.name ≡ name) × ((n : ℕ) → IsNamed n x.deed) × Follows c x × Stands d c' name q w)

-- a refused put changes nothing
pub refused : (c : Chain) (ask : Ask) (fault : PutFault) (c' : Chain) → PutStep c ask (Err fault) c' → c' ≡ c
refused c ask folder_says.PutFault.NotWriter c' step = step.1
refused c ask (folder_says.PutFault.Stale len) c' step = step.3
refused c ask folder_says.PutFault.ChainEnd c' step = step.2
refused c ask (folder_says.PutFault.Collision id) c' step = step.2

-- what waits is of a session
pub closed_waiting : (d : ℕ) (c : Chain) (name : List ℕ) (p : Part) (w : Waiting) → WaitingMeets d c name p w → p.is_open ≡ false → w ≡ Nothing
closed_waiting d c name p Nothing m e = refl
closed_waiting d c name p (Asked ask) m e = absurd (let no : true ≡ false = sym m.at.session ∙ e in cc)
closed_waiting d c name p (Answered answer) m e = absurd (let no : true ≡ false = sym m.at.session ∙ e in cc)

-- under a name that is the same
named : (d : ℕ) (c : Chain) (a b : List ℕ) (p : Part) (w : Waiting) → a ≡ b → Stands d c a p w → Stands d c b p w
named d c a b p w e h = subst (λ n. Stands d c n p w) e h

module _ (d : ℕ) (c : Chain) (name : List ℕ) (p : Part) (w : Waiting) (h : Stands d c name p w) where
  -- the part stays
  stays : (q : Part) → q ≡ p → Stands d c name q (waiting_if q.is_open w)
  stays q e = subst (λ (x : Part). Stands d c name x (waiting_if x.is_open w)) (sym e) (dropped d c name p w p.is_open h)

  -- it is this part, whose session is open or ended
  becomes : (q x : Part) (v : Waiting) → q ≡ x → waiting_if x.is_open w ≡ v → Stands d c name x v → Stands d c name q (waiting_if q.is_open w)
  becomes q x v e is s = subst (λ (y : Part). Stands d c name y (waiting_if y.is_open w)) (sym e) (subst (Stands d c name x) (sym is) s)

  open_waits : (b : Bool) → b ≡ true → waiting_if b w ≡ w
  open_waits true e = refl
  open_waits false e = cc

  -- what a file call comes to
  makes_fits : IsLawful c → 1 ≤ d → (request : Request) (moment : ℕ) (j : Journal) (op : Op) → Makes d p request moment j op → Fits op (fold_ops j.queue (tree_at c j.known)) × (op.device ≡ d) × (op.seq ≡ last_seq j + 1) × IsProper op
  makes_fits lawful numbered request moment j op m =
      let s = at_session d c p j h.part m.at in
      call_fits d c j lawful (at_journal d c p j h.part m.at.journal_is) numbered request moment op
      (ap (λ t. plan_of (fold_ops j.queue t) request d (last_seq j + 1) moment) (sym s.base) ∙ m.plan)

  pub call_keeps : IsLawful c → 1 ≤ d → (request : Request) (moment : ℕ) (answer : Result Called CallFault) (q : Part) → CallStep d p request moment answer q → Stands d c name q (waiting_if q.is_open w)
  call_keeps lawful numbered request moment (Ok (answers.Done seq)) q step =
      let f = makes_fits lawful numbered request moment step.journal step.op step.makes in
      becomes q _ w step.part (open_waits p.is_open step.makes.at.session) (adds_keeps d c p step.journal step.op h.part step.makes.at f.1 f.2 step.takes.seq step.takes.few f.0 f.3 step.takes.fits name w step.left h)
  call_keeps lawful numbered request moment (Ok answers.Same) q step = stays q step.0
  call_keeps lawful numbered request moment (Err answers.CallFault.Closed) q step = stays q step.0
  call_keeps lawful numbered request moment (Err answers.CallFault.ReadOnly) q step = stays q step.0
  call_keeps lawful numbered request moment (Err (answers.CallFault.ByPlan fault)) q step = stays q step.0
  call_keeps lawful numbered request moment (Err (answers.CallFault.ByQueue fault)) q step = stays q step.0
  call_keeps lawful numbered request moment (Err answers.CallFault.Stopped) q step =
      let f = makes_fits lawful numbered request moment step.journal step.op step.makes in
      becomes q _ Nothing step.part refl (breaks_keeps d c p step.journal step.op h.part step.makes.at f.1 f.2 step.takes.seq step.takes.few f.0 f.3 step.takes.fits name w h)

  -- ---- flights

  pub pick_keeps : (most : ℕ) → 0 < most → most ≤ most_in_step → (flight : Flight) (ask : Ask) (q : Part) → PickStep most d name p (Ok (flight, ask)) q → Stands d c name q (Asked ask)
  pick_keeps most positive bound flight ask q step =
      let j = step.journal in
      let k = picks_keeps d c most name p w j positive bound h step.at step.free step.clear step.some in
      let part : q ≡ record p { flight = Some (flight_of most j) } = subst (λ f. q ≡ record p { flight = Some f }) step.flight_is step.part in
      let asked : ask ≡ ask_of d name j (flight_of most j) = step.ask_is ∙ ap (ask_of d name j) step.flight_is in
      subst (λ (x : Part). Stands d c name x (Asked ask)) (sym part) (subst (λ (a : Ask). Stands d c name (record p { flight = Some (flight_of most j) }) (Asked a)) (sym asked) k)

  pub no_pick_keeps : (most : ℕ) (fault : PickFault) (q : Part) → PickStep most d name p (Err fault) q → Stands d c name q (waiting_if q.is_open w)
  no_pick_keeps most answers.PickFault.Closed q step = stays q step.0
  no_pick_keeps most answers.PickFault.InFlight q step = stays q step.0
  no_pick_keeps most answers.PickFault.Branched q step = stays q step.0
  no_pick_keeps most answers.PickFault.Idle q step = stays q step.0

  -- ---- what others did

  pub pull_keeps : (answer : Result ℕ PullFault) (q : Part) → PullStep d c p answer q → Stands d c name q (waiting_if q.is_open w)
  pull_keeps (Ok n) q step =
      let role : roles_of c d ≡ roles_at c (length c) d = ap (λ l. roles_after nobody l d) (sym (take_all (length c) c (omega arith))) in
      let k = pulls_keeps d c name p w step.journal (roles_of c d) step.left h step.at step.flushed role in
      let part = subst (λ m. q ≡ record p { may = record step.journal { known = m } ∷ []; base = tree_at c m; role = roles_of c d; left = step.left }) step.number step.part in
      becomes q _ w part (open_waits p.is_open step.at.session) k
  pull_keeps (Err answers.PullFault.Closed) q step = stays q step.0
  pull_keeps (Err answers.PullFault.NotMember) q step = stays q step.0
  pull_keeps (Err answers.PullFault.Unflushed) q step = stays q step.0
  pull_keeps (Err answers.PullFault.Stopped) q step = becomes q _ Nothing step.part refl (pull_breaks d c name p w step.journal h step.at step.flushed)

  pub fetch_keeps : (answer : Result ℕ FetchFault) (q : Part) → FetchStep d c p answer q → Stands d c name q (waiting_if q.is_open w)
  fetch_keeps (Ok n) q step =
      let m = at_journal d c p step.journal h.part step.at.journal_is in
      let fits : (k : ℕ) → Some n ≡ Some k → (step.journal.mark ≡ true) × (step.journal.known ≤ k) × (k ≤ length c) = λ k e.
      (let same : n ≡ k = cc in (step.marked, (let w = m.within in let n_is = step.number in omega arith), (let n_is = step.number in omega arith))) in
      becomes q _ w step.part (open_waits p.is_open step.at.session) (planned_keeps d c name p w step.journal (Some n) h step.at fits)
  fetch_keeps (Err answers.FetchFault.Closed) q step = stays q step.0
  fetch_keeps (Err answers.FetchFault.NotMember) q step = stays q step.0
  fetch_keeps (Err answers.FetchFault.NoBranch) q step = stays q step.0

  -- ---- openings

  some_revision : (c : Chain) → (IsStranger c d → ⊥) → 1 ≤ length c
  some_revision [] h = absurd (h refl)
  some_revision (x ∷ c) h = omega arith

  closed_waits : waiting_if false w ≡ Nothing
  closed_waits = refl

  pub open_keeps : (answer : Result Status OpenFault) (q : Part) → OpenStep d c p answer q → (p.is_open ≡ false → w ≡ Nothing) → Stands d c name q (waiting_if q.is_open w)
  open_keeps (Ok status) q step none =
      becomes q _ Nothing step.part (none step.closed) (opened_keeps d c name p step.found step.left h.part h.acknowledged step.may (some_revision c step.member))
  open_keeps (Err answers.AlreadyOpen) q step none = stays q step.0
  open_keeps (Err answers.OpenFault.NotMember) q step none = stays q step.0
  open_keeps (Err answers.OpenFault.Stopped) q step none = becomes q _ Nothing step.part (ap (λ b. waiting_if b w) step.closed) (not_opened_keeps d c name p h.part h.acknowledged step.closed)
  open_keeps (Err answers.BadDisk) q step none = absurd step
  open_keeps (Err (answers.Foreign known)) q step none = absurd step
  open_keeps (Err (answers.BadFolder number)) q step none = absurd step

  -- ---- backups

  pub backup_keeps : (answer : Result (ℕ × ℕ) BackupFault) (q : Part) → BackupStep d c p answer q → Stands d c name q (waiting_if q.is_open w)
  backup_keeps (Ok told) q step = becomes q _ w step.part (open_waits p.is_open step.at.session) (shelved_keeps d c name p w step.journal h step.at)
  backup_keeps (Err answers.BackupFault.Closed) q step = stays q step.0
  backup_keeps (Err answers.BackupFault.NotMember) q step = stays q step.0

  pub restore_keeps : IsLawful c → (size : ℕ) (answer : Result (ℕ × ℕ) RestoreFault) (q : Part) → RestoreStep d c size p answer q → Stands d c name q (waiting_if q.is_open w)
  restore_keeps lawful size (Ok told) q step =
      becomes q _ Nothing step.part (ap (λ b. waiting_if b w) step.has.closed) (restored_keeps d c p step.kept lawful h.part h.acknowledged step.has.shelved step.has.whole name size step.has.closed step.fits)
  restore_keeps lawful size (Err answers.RestoreFault.AlreadyOpen) q step = stays q step.0
  restore_keeps lawful size (Err answers.RestoreFault.NotMember) q step = stays q step.0
  restore_keeps lawful size (Err answers.NoBackup) q step = stays q step.0
  restore_keeps lawful size (Err (answers.Behind last other)) q step = stays q step.0
  restore_keeps lawful size (Err (answers.RestoreFault.Full need room)) q step = stays q step.0

  -- ---- resolutions

  pub settle_grows : IsLawful c → ((j : Journal) (plan : ℕ) → HasPlan p j plan → AreFew (tree_at c plan) (tree_shown p j)) → (by : Merger) → IsMerger by → by.name ≡ name → (answer : Result (ℕ × Report) SettleFault) (c' : Chain) (q : Part) → SettleStep d by c p answer c' q
      → Grows d c name q (waiting_if q.is_open w) c'
  settle_grows lawful few by is same (Ok (n, did)) c' q step =
      let j = step.journal in
      let at = step.planned.at in
      let next = step.put.0 in
      let plan_is = step.planned.plan_is in
      let x = (merge_ask d by j step.plan).revision in
      let long : c' ≡ c ++ x ∷ [] = step.put.3 in
      let idle = no_waiting d c name p w h.waiting (no_flight d c by p j step.plan h.part at plan_is next step.put.1) in
      let part : q ≡ record p { may = taken (step.plan + 1) (length j.queue) j ∷ []; plan = None; base = tree_at (c ++ x ∷ []) (step.plan + 1); role = roles_of (c ++ x ∷ []) d; left = step.left } =
      subst (λ k. q ≡ record p { may = taken k (length j.queue) j ∷ []; plan = None; base = tree_at (c ++ x ∷ []) k; role = roles_of (c ++ x ∷ []) d; left = step.left }) step.put.2
      (subst (λ l. q ≡ record p { may = taken n (length j.queue) j ∷ []; plan = None; base = tree_at l n; role = roles_of l d; left = step.left }) long step.part) in
      let k = settle_keeps d c by p j step.plan h.part at plan_is next step.put.1 step.left h.acknowledged in
      inr (
        x,
        long,
        refl,
        same,
        λ n. tt,
        settle_follows d c by p j step.plan h.part at plan_is next step.put.1 lawful is (few j step.plan step.planned),
        subst (λ l. Stands d l name q (waiting_if q.is_open w)) (sym long)
            (subst (λ (y : Part). Stands d (c ++ x ∷ []) name y (waiting_if y.is_open w)) (sym part)
            (subst (Stands d (c ++ x ∷ []) name _) (sym (open_waits p.is_open at.session ∙ idle)) (named d (c ++ x ∷ []) by.name name _ Nothing same k))),
      )
  settle_grows lawful few by is same (Err answers.SettleFault.Closed) c' q step = inl (step.0, stays q step.1)
  settle_grows lawful few by is same (Err answers.SettleFault.NoPlan) c' q step = inl (step.0, stays q step.1)
  settle_grows lawful few by is same (Err (answers.SettleFault.LinkFault None)) c' q step = inl (step.put, becomes q _ Nothing step.part refl (closed_keeps d c name p w h))
  settle_grows lawful few by is same (Err (answers.SettleFault.LinkFault (Some (Err fault)))) c' q step =
      inl (refused c (merge_ask d by step.journal step.plan) fault c' step.put, becomes q _ Nothing step.part refl (closed_keeps d c name p w h))
  settle_grows lawful few by is same (Err (answers.SettleFault.LinkFault (Some (Ok n)))) c' q step =
      let j = step.journal in
      let at = step.planned.at in
      let plan_is = step.planned.plan_is in
      let x = (merge_ask d by j step.plan).revision in
      let k = settle_lost_keeps d c by p j step.plan h.part at plan_is step.put.0 step.put.1 h.acknowledged in
      inr (
        x,
        step.put.3,
        refl,
        same,
        λ n. tt,
        settle_follows d c by p j step.plan h.part at plan_is step.put.0 step.put.1 lawful is (few j step.plan step.planned),
        subst (λ l. Stands d l name q (waiting_if q.is_open w)) (sym step.put.3) (subst (λ (y : Part). Stands d (c ++ x ∷ []) name y (waiting_if y.is_open w)) (sym step.part) (named d (c ++ x ∷ []) by.name name _ Nothing same k)),
      )
  settle_grows lawful few by is same (Err (answers.SettleFault.ByPut fault)) c' q step =
      inl (
        refused c (merge_ask d by step.journal step.plan) fault c' step.put,
        becomes q _ w step.part (open_waits p.is_open step.planned.at.session) (planned_keeps d c name p w step.journal None h step.planned.at (λ k e. cc)),
      )
  settle_grows lawful few by is same (Err answers.SettleFault.Stopped) c' q step =
      let j = step.journal in
      let at = step.planned.at in
      let next = step.put.0 in
      let plan_is = step.planned.plan_is in
      let x = (merge_ask d by j step.plan).revision in
      let long : c' ≡ c ++ x ∷ [] = step.put.3 in
      let k = settle_breaks d c by p j step.plan h.part at plan_is next step.put.1 h.acknowledged in
      inr (
        x,
        long,
        refl,
        same,
        λ n. tt,
        settle_follows d c by p j step.plan h.part at plan_is next step.put.1 lawful is (few j step.plan step.planned),
        subst (λ l. Stands d l name q (waiting_if q.is_open w)) (sym long)
            (subst (λ (y : Part). Stands d (c ++ x ∷ []) name y (waiting_if y.is_open w)) (sym step.part) (named d (c ++ x ∷ []) by.name name _ Nothing same k)),
      )

-- ---- notes

module _ (d : ℕ) (c : Chain) (p : Part) where
  -- the answer is that of the flight that is noted
  pub answer_at : (put : Result ℕ PutFault) (j : Journal) (f : Flight) → PutMeets d c p put → Flies p j f → AnswerMeets d c j f put
  answer_at put j f w flies =
      let same : w.flight ≡ f = some_same w.flight f p.flight w.flight_is flies.flight_is in
      subst (λ k. AnswerMeets d c k f put) (one_is w.journal j p.may w.at.journal_is flies.at.journal_is) (subst (λ g. AnswerMeets d c w.journal g put) same w.answers)
    where
      some_same : {A : Type 0} (x y : A) (o : Option A) → o ≡ Some x → o ≡ Some y → x ≡ y
      some_same x y o a b = cc

  pub keeps : (put : Result ℕ PutFault) → IsRefused put → PutMeets d c p put → (j : Journal) × (f : Flight) × IsOpenAt p j × (p.flight ≡ Some f) × NoneOf d (drop j.known c)
  keeps (Ok number) is w = absurd is
  keeps (Err (folder_says.PutFault.Stale len)) is w = absurd is
  keeps (Err folder_says.PutFault.NotWriter) is w = (w.journal, w.flight, w.at, w.flight_is, w.answers)
  keeps (Err folder_says.PutFault.ChainEnd) is w = (w.journal, w.flight, w.at, w.flight_is, w.answers)
  keeps (Err (folder_says.PutFault.Collision id)) is w = (w.journal, w.flight, w.at, w.flight_is, w.answers)

module _ (d : ℕ) (c : Chain) (name : List ℕ) (p : Part) (part : PartMeets d c p) (acked : Acknowledges d c p) where
  stops : (put : Result ℕ PutFault) (q : Part) → PutMeets d c p put → NoteStops put p q → Stands d c name q Nothing
  stops (Ok number) q w step = subst (λ (x : Part). Stands d c name x Nothing) (sym step.part) (land_breaks d c p step.journal step.flight number part step.flies.at step.flies.flight_is (answer_at d c p (Ok number) step.journal step.flight w step.flies) name acked)
  stops (Err (folder_says.PutFault.Stale len)) q w step = subst (λ (x : Part). Stands d c name x Nothing) (sym step.part)
      (part_breaks d c p step.journal step.flight part step.flies.at step.flies.flight_is (answer_at d c p (Err (folder_says.PutFault.Stale len)) step.journal step.flight w step.flies) name acked)
  stops (Err folder_says.PutFault.NotWriter) q w step = absurd step
  stops (Err folder_says.PutFault.ChainEnd) q w step = absurd step
  stops (Err (folder_says.PutFault.Collision id)) q w step = absurd step

  -- the note of the answer that waits
  pub note_keeps : (put : Result ℕ PutFault) (answer : Result Noted NoteFault) (q : Part) → PutMeets d c p put → NoteStep p put answer q → Stands d c name q Nothing
  note_keeps put (Ok (answers.Landed n)) q w (number, is, step) =
      subst (λ (x : Part). Stands d c name x Nothing) (sym step.part)
      (lands_keeps d c p step.journal step.flight number part step.flies.at step.flies.flight_is (answer_at d c p (Ok number) step.journal step.flight (subst (PutMeets d c p) is w) step.flies) name step.left acked)
  note_keeps put (Ok (answers.Noted.Branched at)) q w (len, is, step) =
      subst (λ (x : Part). Stands d c name x Nothing) (sym step.part)
      (parts_keeps d c p step.journal step.flight part step.flies.at step.flies.flight_is (answer_at d c p (Err (folder_says.PutFault.Stale len)) step.journal step.flight (subst (PutMeets d c p) is w) step.flies) name step.left acked)
  note_keeps put (Ok answers.Kept) q w (is, step) =
      let k = keeps d c p put is w in
      subst (λ (x : Part). Stands d c name x Nothing) (sym step.part) (kept_keeps d c p k.0 k.1 part k.2 k.3 k.4 name acked)
  note_keeps put (Err answers.NoteFault.Closed) q w step = absurd (let no : true ≡ false = sym w.at.session ∙ step.1 in cc)
  note_keeps put (Err answers.NoteFault.NoFlight) q w step = absurd (let no : None ≡ Some w.flight = sym step.2 ∙ w.flight_is in cc)
  note_keeps put (Err answers.NoteFault.Stopped) q w step = stops put q w step

-- ---- puts

-- the put of the request that waits
pub put_grows : (d : ℕ) (c : Chain) (name : List ℕ) (p : Part) (ask : Ask) (answer : Result ℕ PutFault) (c' : Chain) → Stands d c name p (Asked ask)
    → PutStep c ask answer c' → Grows d c name p (Answered answer) c'
put_grows d c name p ask (Ok n) c' h step =
    inr (
      ask.revision,
      step.3,
      ap (λ (a : Ask). a.revision.writer) h.waiting.ask_is,
      ap (λ (a : Ask). a.revision.name) h.waiting.ask_is,
      λ n. subst (IsNamed n) (sym (ap (λ (a : Ask). a.revision.deed) h.waiting.ask_is)) tt,
      land_follows d c name p ask h.part h.waiting step.0 step.1,
      subst (λ l. Stands d l name p (Answered (Ok n))) (sym step.3) (land_keeps d c name p ask h.part h.waiting step.0 step.1 n step.2 h.acknowledged),
    )
put_grows d c name p ask (Err fault) c' h step =
    inl (
      refused c ask fault c' step,
      record {
        part = h.part;
        acknowledged = h.acknowledged;
        waiting = record { journal = h.waiting.journal; flight = h.waiting.flight; at = h.waiting.at; flight_is = h.waiting.flight_is; answers = h.waiting.none };
      },
    )

-- the put whose request or answer is lost
pub lost_grows : (d : ℕ) (c : Chain) (name : List ℕ) (p : Part) (ask : Ask) (lost : Option (Result ℕ PutFault)) (c' : Chain) → Stands d c name p (Asked ask) → LostPut c ask lost c' → Grows d c name (closed p) Nothing c'
lost_grows d c name p ask None c' h step = inl (step, closed_keeps d c name p (Asked ask) h)
lost_grows d c name p ask (Some answer) c' h step = elim (put_grows d c name p ask answer c' h step) [
  | inl (stays, s) ↦ inl (stays, closed_keeps d c name p (Answered answer) s)
  | inr (x, long, writer, named, who, follows, s) ↦ inr (x, long, writer, named, who, follows, closed_keeps d c' name p (Answered answer) s)
]
