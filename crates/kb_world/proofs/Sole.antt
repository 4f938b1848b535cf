-- The one outcome of each step of a device whose session has one journal, where its disk doesn't stop, but for what is left of the
-- disk's steps: it is computed here, and each step comes to it.
use Rattle.std.proofs.Common.{◌≡◌, ◌≢◌, ℕ, ◌+◌, ◌^◌, ◌≤◌, ◌<◌, ◌==◌, Bool, true, false, List, [], ◌∷◌, ◌++◌, length, take, All, Option, Some, None, IsSome, Result, Ok, Err, refl, sym, ap, ◌∙◌, subst, arith}
use Rattle.std.specs.Prelude.{Contains, nat_lt, nat_le}
use Rattle.std.proofs.lemmas.List.Elements.{All-contains}
use Rattle.std.proofs.lemmas.Bool.Decides.{nat_tests}
use Rattle.kb_edge.specs.declared.link.Side.{Side}
use Rattle.kb_edge.specs.declared.link.Side.TheVariants.{Request as AtRequest, Reply as AtReply}
use Rattle.kb_ops.specs.declared.rows.Op.{Op}
use Rattle.kb_ops.specs.declared.requests.PlanFault.{PlanFault}
use Rattle.kb_ops.specs.declared.requests.Planned.{Planned}
use Rattle.kb_ops.specs.declared.requests.Planned.TheVariants as planned
use Rattle.kb_ops.specs.declared.requests.Request.{Request}
use Rattle.kb_ops.specs.declared.requests.Show.{Show}
use Rattle.kb_ops.specs.declared.requests.Shown.{Shown}
use Rattle.kb_ops.specs.Trees.{fold_ops}
use Rattle.kb_apply.specs.declared.shows.ShowFault.{ShowFault}
use Rattle.kb_log.specs.LogList.{area_size}
use Rattle.kb_journal.specs.State.{use_of}
use Rattle.kb_keys.specs.declared.policy.Role.{Role}
use Rattle.kb_rules.specs.declared.report.Report.{Report}
use Rattle.kb_ops.specs.Trees.{Tree}
use Rattle.kb_snap.specs.Answers.{ReclaimFault, PastFault, PutFault}
use Rattle.kb_snap.specs.PastViews.{PastStep, ReclaimStep}
use Rattle.kb_snap.specs.Chains.{Chain, most_revisions, tree_at}
use Rattle.kb_snap.specs.Members.{IsStranger, roles_of, is_allowed}
use Rattle.kb_keys.specs.Members.{is_writer}
use Rattle.kb_device.specs.Answers.{Called, CallFault, LookFault, TellFault, PickFault, Noted, NoteFault, PullFault, FetchFault, SettleFault, OpenFault, BackupFault, RestoreFault, Status}
use Rattle.kb_device.specs.Answers as answers
use Rattle.kb_snap.specs.Answers as folder_says
use Rattle.kb_snap.specs.Puts.{Ask, PutStep}
use Rattle.kb_device.specs.Journals.{Journal, last_seq, queued, taken, branched, resumed, returned}
use Rattle.kb_device.specs.Parts.{Merger, Flight, Part, IsOpenAt, HasPlan, closed, opened, plan_at, shown_at, status_of, CallStep, LookStep, TellStep, PickStep, NoteStep, PullStep, FetchStep, SettleStep, OpenStep, BackupStep, RestoreStep, last_acknowledged, restored, flight_of, ask_of, merge_ask, report_at}
use Rattle.kb_world.specs.Statements.{ByCall, ByNote, ByPull, BySettle, ByOpen}
use Rattle.kb_device.specs.Links.{LinkAfter}
use Rattle.kb_world.specs.RunLaws.{hides_apart, IsPlain}
use Rattle.kb_world.specs.RunReplies.{disarmed_part}
use Rattle.kb_device.proofs.PartSteps.{one_is, all_one}
use Rattle.kb_world.proofs.PartAnswers.{PutApart}

-- ---- tests

pub below : (a b : ℕ) → a < b → nat_lt a b ≡ true
below a b h = grind (arith, nat_tests)

pub not_below : (a b : ℕ) → b ≤ a → nat_lt a b ≡ false
not_below a b h = grind (arith, nat_tests)

fits : (a b : ℕ) → a ≤ b → nat_le a b ≡ true
fits a b h = grind (arith, nat_tests)

not_fits : (a b : ℕ) → b < a → nat_le a b ≡ false
not_fits a b h = grind (arith, nat_tests)

same : (a b : ℕ) → a ≡ b → (a == b) ≡ true
same a b h = grind (arith, nat_tests)

not_same : (a b : ℕ) → a ≢ b → (a == b) ≡ false
not_same a b h = grind (arith, nat_tests)

pub value : {A : Type 0} (o : Option A) → IsSome o → (x : A) × (o ≡ Some x)
value (Some x) h = (x, refl)
value None h = cc

pub by_value : {A : Type 0} (o : Option A) {P : Type 0} → IsSome o → ((x : A) → o ≡ Some x → P) → P
by_value (Some x) some f = f x refl
by_value None some f = cc

value_or : {A : Type 0} (o : Option A) → (o ≡ None → ⊥) → (x : A) × (o ≡ Some x)
value_or (Some x) h = (x, refl)
value_or None h = absurd (h refl)

first : {A : Type 0} (xs : List A) → 0 < length xs → (x : A) × (rest : List A) × (xs ≡ x ∷ rest)
first [] h = absurd (omega arith)
first (x ∷ xs) h = (x, xs, refl)

-- ---- puts

abbrev put_by : Chain → Ask → Bool → Bool → Bool → Result ℕ PutFault × Chain
put_by c ask false next room = (Err folder_says.PutFault.NotWriter, c)
put_by c ask true false room = (Err (folder_says.PutFault.Stale (length c)), c)
put_by c ask true true false = (Err folder_says.PutFault.ChainEnd, c)
put_by c ask true true true = (Ok ask.number, c ++ ask.revision ∷ [])

pub put_of : Chain → Ask → Result ℕ PutFault × Chain
put_of c ask = put_by c ask (is_allowed c ask.revision.writer) (ask.number == length c + 1) (nat_lt (length c) most_revisions)

pub put_is : (c : Chain) (ask : Ask) (answer : Result ℕ PutFault) (c' : Chain) → PutStep c ask answer c' → PutApart answer → put_of c ask ≡ (answer, c')
unfolding put_of
put_is c ask (Ok n) c' (next, room, n_is, chain) apart =
    let a = next.allowed in
    let b = same ask.number (length c + 1) next.number in
    let r = below (length c) most_revisions room in
    cc
put_is c ask (Err folder_says.PutFault.NotWriter) c' (refused, chain) apart = cc
put_is c ask (Err (folder_says.PutFault.Stale len)) c' (allowed, late, len_is, chain) apart =
    let b = not_same ask.number (length c + 1) late in
    cc
put_is c ask (Err folder_says.PutFault.ChainEnd) c' (next, end, chain) apart =
    let a = next.allowed in
    let b = same ask.number (length c + 1) next.number in
    let r = not_below (length c) most_revisions end in
    cc
put_is c ask (Err (folder_says.PutFault.Collision id)) c' h apart = cc

-- a lost answer is no collision
pub told : (answer : Result ℕ PutFault) → hides_apart (Some answer) ≡ true → PutApart answer
told (Ok n) apart = refl
told (Err fault) apart = apart

-- ---- file calls

abbrev by_queue : Part → Journal → Op → Bool → Bool → Bool → Result Called CallFault × Part
by_queue p j op false few fits = (Err (answers.CallFault.ByQueue answers.Spent), disarmed_part p)
by_queue p j op true false fits = (Err (answers.CallFault.ByQueue answers.QueueFull), disarmed_part p)
by_queue p j op true true false = (Err (answers.CallFault.ByQueue (answers.Full (use_of (j.queue ++ op ∷ [])) p.area)), disarmed_part p)
by_queue p j op true true true = (Ok (answers.Done (last_seq j + 1)), record p { may = queued op j ∷ []; plan = None; left = None; acknowledged = p.acknowledged ++ op ∷ [] })

abbrev by_plan : Part → Journal → Result Planned PlanFault → Result Called CallFault × Part
by_plan p j (Err fault) = (Err (answers.CallFault.ByPlan fault), disarmed_part p)
by_plan p j (Ok planned.Same) = (Ok answers.Same, disarmed_part p)
by_plan p j (Ok (planned.Made op)) = by_queue p j op (nat_lt (last_seq j + 1) (2 ^ 32)) (nat_lt (length j.queue) 4096) (nat_le (use_of (j.queue ++ op ∷ [])) p.area)

abbrev call_by : Part → Journal → Result Planned PlanFault → Bool → Bool → Result Called CallFault × Part
call_by p j plan false writes = (Err answers.CallFault.Closed, disarmed_part p)
call_by p j plan true false = (Err answers.CallFault.ReadOnly, disarmed_part p)
call_by p j plan true true = by_plan p j plan

pub call_of : ℕ → Part → Journal → Request → ℕ → Result Called CallFault × Part
call_of d p j request moment = call_by p j (plan_at d p j request moment) p.is_open (is_writer p.role)

-- ---- shows and status

abbrev look_by : Result Shown ShowFault → Bool → Result Shown LookFault
look_by shown false = Err answers.LookFault.Closed
look_by (Ok shown) true = Ok shown
look_by (Err fault) true = Err (answers.LookFault.ByShow fault)

pub look_of : Part → Journal → Show → Result Shown LookFault
look_of p j show = look_by (shown_at p j show) p.is_open

abbrev tell_by : Part → Journal → Bool → Result Status TellFault
tell_by p j false = Err answers.TellFault.Closed
tell_by p j true = Ok (status_of p.flight j)

pub tell_of : Part → Journal → Result Status TellFault
tell_of p j = tell_by p j p.is_open

-- ---- flights

abbrev pick_by : ℕ → ℕ → List ℕ → Part → Journal → Bool → Option Flight → Bool → List Op → Result (Flight × Ask) PickFault × Part
pick_by most d name p j false flight mark queue = (Err answers.PickFault.Closed, disarmed_part p)
pick_by most d name p j true (Some flight) mark queue = (Err answers.PickFault.InFlight, disarmed_part p)
pick_by most d name p j true None true queue = (Err answers.PickFault.Branched, disarmed_part p)
pick_by most d name p j true None false [] = (Err answers.PickFault.Idle, disarmed_part p)
pick_by most d name p j true None false (op ∷ ops) = (Ok (flight_of most j, ask_of d name j (flight_of most j)), record p { flight = Some (flight_of most j); left = None })

pub pick_of : ℕ → ℕ → List ℕ → Part → Journal → Result (Flight × Ask) PickFault × Part
pick_of most d name p j = pick_by most d name p j p.is_open p.flight j.mark j.queue

abbrev note_put : Part → Journal → Flight → Result ℕ PutFault → Result Noted NoteFault × Part
note_put p j flight (Ok n) = (Ok (answers.Landed n), record p { may = taken n flight.count j ∷ []; flight = None; base = fold_ops (take flight.count j.queue) p.base; left = None })
note_put p j flight (Err (folder_says.PutFault.Stale len)) = (Ok (answers.Noted.Branched j.known), record p { may = branched j ∷ []; flight = None; left = None })
note_put p j flight (Err fault) = (Ok answers.Kept, record p { flight = None; left = None })

abbrev note_by : Part → Journal → Result ℕ PutFault → Bool → Option Flight → Result Noted NoteFault × Part
note_by p j put false flight = (Err answers.NoteFault.Closed, disarmed_part p)
note_by p j put true None = (Err answers.NoteFault.NoFlight, disarmed_part p)
note_by p j put true (Some flight) = note_put p j flight put

pub note_of : Part → Journal → Result ℕ PutFault → Result Noted NoteFault × Part
note_of p j put = note_by p j put p.is_open p.flight

-- ---- what others did

abbrev pull_by : ℕ → Chain → Part → Journal → Bool → Option Role → List Op → Result ℕ PullFault × Part
pull_by d c p j false role queue = (Err answers.PullFault.Closed, disarmed_part p)
pull_by d c p j true None queue = (Err answers.PullFault.NotMember, disarmed_part p)
pull_by d c p j true (Some role) (op ∷ ops) = (Err answers.PullFault.Unflushed, disarmed_part p)
pull_by d c p j true (Some role) [] = (Ok (length c), record p { may = record j { known = length c } ∷ []; base = tree_at c (length c); role = roles_of c d; left = None })

pub pull_of : ℕ → Chain → Part → Journal → Result ℕ PullFault × Part
pull_of d c p j = pull_by d c p j p.is_open (roles_of c d) j.queue

abbrev fetch_by : Chain → Part → Bool → Option Role → Bool → Result ℕ FetchFault × Part
fetch_by c p false role mark = (Err answers.FetchFault.Closed, disarmed_part p)
fetch_by c p true None mark = (Err answers.FetchFault.NotMember, disarmed_part p)
fetch_by c p true (Some role) false = (Err answers.FetchFault.NoBranch, disarmed_part p)
fetch_by c p true (Some role) true = (Ok (length c), record p { plan = Some (length c); left = None })

pub fetch_of : ℕ → Chain → Part → Journal → Result ℕ FetchFault × Part
fetch_of d c p j = fetch_by c p p.is_open (roles_of c d) j.mark

-- ---- resolutions

abbrev settle_put : ℕ → Merger → Chain → Part → Journal → ℕ → Option Side → Result ℕ PutFault → Chain → Result (ℕ × Report) SettleFault × Chain × Part × Option Side
settle_put d by c p j plan (Some AtRequest) put c' = (Err (answers.SettleFault.LinkFault None), c, disarmed_part (closed p), None)
settle_put d by c p j plan (Some AtReply) put c' = (Err (answers.SettleFault.LinkFault (Some put)), c', disarmed_part (closed p), None)
settle_put d by c p j plan None (Ok n) c' =
    (Ok (n, report_at d by p c j plan), c', record p { may = taken n (length j.queue) j ∷ []; plan = None; base = tree_at c' n; role = roles_of c' d; left = None }, None)
settle_put d by c p j plan None (Err fault) c' = (Err (answers.SettleFault.ByPut fault), c', record p { plan = None; left = None }, None)

abbrev settle_by : ℕ → Merger → Chain → Part → Journal → Option Side → Bool → Option ℕ → Result (ℕ × Report) SettleFault × Chain × Part × Option Side
settle_by d by c p j link false plan = (Err answers.SettleFault.Closed, c, disarmed_part p, link)
settle_by d by c p j link true None = (Err answers.SettleFault.NoPlan, c, disarmed_part p, link)
settle_by d by c p j link true (Some plan) = (let put = put_of c (merge_ask d by j plan) in settle_put d by c p j plan link put.0 put.1)

pub settle_of : ℕ → Merger → Chain → Part → Journal → Option Side → Result (ℕ × Report) SettleFault × Chain × Part × Option Side
settle_of d by c p j link = settle_by d by c p j link p.is_open p.plan

-- ---- openings

abbrev open_by : ℕ → Chain → Part → Journal → Bool → Option Role → Result Status OpenFault × Part
open_by d c p j true role = (Err answers.AlreadyOpen, disarmed_part p)
open_by d c p j false None = (Err answers.OpenFault.NotMember, disarmed_part p)
open_by d c p j false (Some role) = (Ok (status_of None (resumed d c j)), opened d c p j None)

pub open_of : ℕ → Chain → Part → Journal → Result Status OpenFault × Part
open_of d c p j = open_by d c p j p.is_open (roles_of c d)

-- ---- backups

abbrev backup_by : Part → Journal → Bool → Option Role → Result (ℕ × ℕ) BackupFault × Part
backup_by p j false role = (Err answers.BackupFault.Closed, disarmed_part p)
backup_by p j true None = (Err answers.BackupFault.NotMember, disarmed_part p)
backup_by p j true (Some role) = (Ok (length j.queue, last_seq j), record p { shelved = Some j; left = None })

pub backup_of : ℕ → Chain → Part → Journal → Result (ℕ × ℕ) BackupFault × Part
backup_of d c p j = backup_by p j p.is_open (roles_of c d)

abbrev restore_kept : ℕ → Chain → ℕ → Part → Journal → Bool → Bool → Result (ℕ × ℕ) RestoreFault × Part
restore_kept d c size p kept false fits = (Err (answers.Behind (last_seq kept) (last_acknowledged p)), disarmed_part p)
restore_kept d c size p kept true false = (Err (answers.RestoreFault.Full (use_of (returned d c kept).queue) (area_size size)), disarmed_part p)
restore_kept d c size p kept true true = (Ok (length (returned d c kept).queue, last_seq (returned d c kept)), restored size (returned d c kept) p)

abbrev restore_by : ℕ → Chain → ℕ → Part → Bool → Option Role → Option Journal → Result (ℕ × ℕ) RestoreFault × Part
restore_by d c size p true role shelved = (Err answers.RestoreFault.AlreadyOpen, disarmed_part p)
restore_by d c size p false None shelved = (Err answers.RestoreFault.NotMember, disarmed_part p)
restore_by d c size p false (Some role) None = (Err answers.NoBackup, disarmed_part p)
restore_by d c size p false (Some role) (Some kept) = restore_kept d c size p kept (nat_le (last_acknowledged p) (last_seq kept)) (nat_le (use_of (returned d c kept).queue) (area_size size))

pub restore_of : ℕ → Chain → ℕ → Part → Result (ℕ × ℕ) RestoreFault × Part
restore_of d c size p = restore_by d c size p p.is_open (roles_of c d) p.shelved

-- ---- the past, and reclamations

abbrev past_by : Chain → ℕ → Option Role → Bool → Result Tree PastFault
past_by c r None there = Err folder_says.PastFault.NotMember
past_by c r (Some role) true = Ok (tree_at c r)
past_by c r (Some role) false = Err (folder_says.NoRevision (length c))

pub past_of : Chain → ℕ → ℕ → Result Tree PastFault
past_of c d r = past_by c r (roles_of c d) (nat_le r (length c))

pub past_is : (c : Chain) (d r : ℕ) (answer : Result Tree PastFault) → PastStep c d r answer → past_of c d r ≡ answer
unfolding past_of
past_is c d r (Ok t) (member, le, t_is) = (let role = (value_or (roles_of c d) member).1 in let there = fits r (length c) le in let e = sym t_is in (λ i. past_by c r (role i) (there i)) ∙ ap Ok e)
past_is c d r (Err folder_says.PastFault.NotMember) none = (λ i. past_by c r (none i) (nat_le r (length c)))
past_is c d r (Err (folder_says.NoRevision len)) (member, lt, len_is) =
    let role = (value_or (roles_of c d) member).1 in
    let there = not_fits r (length c) lt in
    (λ i. past_by c r (role i) (there i)) ∙ ap (λ n. Err (folder_says.NoRevision n)) (sym len_is)

abbrev reclaim_by : Chain → Bool → Bool → Result (Unit {0}) ReclaimFault
reclaim_by c false there = Err folder_says.ReclaimFault.NotWriter
reclaim_by c true true = Ok tt
reclaim_by c true false = Err (folder_says.ReclaimFault.Past (length c))

pub reclaim_of : Chain → ℕ → ℕ → Result (Unit {0}) ReclaimFault
reclaim_of c by from = reclaim_by c (is_writer (roles_of c by)) (nat_le from (length c))

pub reclaim_is : (c : Chain) (by from : ℕ) (answer : Result (Unit {0}) ReclaimFault) → ReclaimStep c by from answer → reclaim_of c by from ≡ answer
unfolding reclaim_of
reclaim_is c by from (Ok done) (writes, le) = (let there = fits from (length c) le in (λ i. reclaim_by c (writes i) (there i)))
reclaim_is c by from (Err folder_says.ReclaimFault.NotWriter) reads = (λ i. reclaim_by c (reads i) (nat_le from (length c)))
reclaim_is c by from (Err (folder_says.ReclaimFault.Past len)) (writes, lt, len_is) =
    let there = not_fits from (length c) lt in
    (λ i. reclaim_by c (writes i) (there i)) ∙ ap (λ n. Err (folder_says.ReclaimFault.Past n)) (sym len_is)

-- ---- all of it is the same where no disk is armed

pub call_same : (d : ℕ) (p : Part) (j : Journal) (request : Request) (moment : ℕ) → call_of d (disarmed_part p) j request moment ≡ call_of d p j request moment
unfolding call_of
call_same d p j request moment = refl

pub look_same : (p : Part) (j : Journal) (show : Show) → look_of (disarmed_part p) j show ≡ look_of p j show
unfolding look_of
look_same p j show = refl

pub tell_same : (p : Part) (j : Journal) → tell_of (disarmed_part p) j ≡ tell_of p j
unfolding tell_of
tell_same p j = refl

pub pick_same : (most d : ℕ) (name : List ℕ) (p : Part) (j : Journal) → pick_of most d name (disarmed_part p) j ≡ pick_of most d name p j
unfolding pick_of
pick_same most d name p j = refl

pub note_same : (p : Part) (j : Journal) (put : Result ℕ PutFault) → note_of (disarmed_part p) j put ≡ note_of p j put
unfolding note_of
note_same p j put = refl

pub pull_same : (d : ℕ) (c : Chain) (p : Part) (j : Journal) → pull_of d c (disarmed_part p) j ≡ pull_of d c p j
unfolding pull_of
pull_same d c p j = refl

pub fetch_same : (d : ℕ) (c : Chain) (p : Part) (j : Journal) → fetch_of d c (disarmed_part p) j ≡ fetch_of d c p j
unfolding fetch_of
fetch_same d c p j = refl

pub settle_same : (d : ℕ) (by : Merger) (c : Chain) (p : Part) (j : Journal) (link : Option Side) → settle_of d by c (disarmed_part p) j link ≡ settle_of d by c p j link
unfolding settle_of
settle_same d by c p j link = refl

pub backup_same : (d : ℕ) (c : Chain) (p : Part) (j : Journal) → backup_of d c (disarmed_part p) j ≡ backup_of d c p j
unfolding backup_of
backup_same d c p j = refl

pub restore_same : (d : ℕ) (c : Chain) (size : ℕ) (p : Part) → restore_of d c size (disarmed_part p) ≡ restore_of d c size p
unfolding restore_of
restore_same d c size p = refl

pub open_same : (d : ℕ) (c : Chain) (p : Part) (j : Journal) → open_of d c (disarmed_part p) j ≡ open_of d c p j
unfolding open_of
open_same d c p j = refl

-- ---- each step comes to it

module _ (p : Part) (j : Journal) (one : p.is_open ≡ true → p.may ≡ j ∷ []) where
  -- the journal of a session
  on : (k : Journal) → IsOpenAt p k → k ≡ j
  on k at = one_is k j p.may at.journal_is (one at.session)

  pub call_is : (d : ℕ) (request : Request) (moment : ℕ) (answer : Result Called CallFault) (q : Part) → CallStep d p request moment answer q → IsPlain (ByCall answer) → call_of d p j request moment ≡ (answer, disarmed_part q)
  unfolding call_of
  call_is d request moment (Ok (answers.Done seq)) q h plain =
      let k = on h.journal h.makes.at in
      let a = below (last_seq h.journal + 1) (2 ^ 32) h.takes.seq in
      let b = below (length h.journal.queue) 4096 h.takes.few in
      let f = fits (use_of (h.journal.queue ++ h.op ∷ [])) p.area h.takes.fits in
      let first : call_of d p j request moment ≡ (Ok (answers.Done seq), record p { may = queued h.op h.journal ∷ []; plan = None; left = None; acknowledged = p.acknowledged ++ h.op ∷ [] }) = cc in
      first ∙ ap (λ (x : Part). (Ok (answers.Done seq), disarmed_part x)) (sym h.part)
  call_is d request moment (Ok answers.Same) q (stays, h) plain = (let k = on h.journal h.at in cc)
  call_is d request moment (Err answers.CallFault.Closed) q h plain = cc
  call_is d request moment (Err answers.CallFault.ReadOnly) q h plain = cc
  call_is d request moment (Err (answers.CallFault.ByPlan fault)) q (stays, h) plain = (let k = on h.journal h.at in cc)
  call_is d request moment (Err (answers.CallFault.ByQueue answers.Spent)) q (stays, h) plain =
      let k = on h.journal h.makes.at in
      let spent = h.refuses in
      let a = not_below (last_seq h.journal + 1) (2 ^ 32) (omega arith) in
      cc
  call_is d request moment (Err (answers.CallFault.ByQueue answers.QueueFull)) q (stays, h) plain =
      let k = on h.journal h.makes.at in
      let a = below (last_seq h.journal + 1) (2 ^ 32) h.refuses.0 in
      let b = not_below (length h.journal.queue) 4096 h.refuses.1 in
      cc
  call_is d request moment (Err (answers.CallFault.ByQueue (answers.Full need room))) q (stays, h) plain =
      let k = on h.journal h.makes.at in
      let a = below (last_seq h.journal + 1) (2 ^ 32) h.refuses.0 in
      let b = below (length h.journal.queue) 4096 h.refuses.1 in
      let need_is = h.refuses.2 in
      let room_is = h.refuses.3 in
      let over = h.refuses.4 in
      let f = not_fits (use_of (h.journal.queue ++ h.op ∷ [])) p.area (omega arith) in
      cc
  call_is d request moment (Err answers.CallFault.Stopped) q h plain = cc

  pub look_is : (show : Show) (answer : Result Shown LookFault) → LookStep p show answer → look_of p j show ≡ answer
  unfolding look_of
  look_is show (Ok shown) (k, at, e) = (let s = at.session in let same = on k at in cc)
  look_is show (Err answers.LookFault.Closed) h = cc
  look_is show (Err (answers.LookFault.ByShow fault)) (k, at, e) = (let s = at.session in let same = on k at in cc)

  pub tell_is : (answer : Result Status TellFault) → TellStep p answer → tell_of p j ≡ answer
  unfolding tell_of
  tell_is (Ok status) (k, at, e) = (let s = at.session in let same = on k at in cc)
  tell_is (Err answers.TellFault.Closed) h = cc

  pub pick_is : (most d : ℕ) (name : List ℕ) (answer : Result (Flight × Ask) PickFault) (q : Part) → PickStep most d name p answer q → pick_of most d name p j ≡ (answer, disarmed_part q)
  unfolding pick_of
  pick_is most d name (Ok (flight, ask)) q h =
      let k = on h.journal h.at in
      let some = first h.journal.queue h.some in
      let there = some.2 in
      let to : pick_of most d name p j ≡ (Ok (flight, ask), record p { flight = Some flight; left = None }) = cc in
      to ∙ ap (λ (x : Part). (Ok (flight, ask), disarmed_part x)) (sym h.part)
  pick_is most d name (Err answers.PickFault.Closed) q h = cc
  pick_is most d name (Err answers.PickFault.InFlight) q (stays, session, some) =
      let flight = (value p.flight some).1 in
      (λ i. pick_by most d name p j (session i) (flight i) j.mark j.queue) ∙ ap (λ (x : Part). (Err answers.PickFault.InFlight, disarmed_part x)) (sym stays)
  pick_is most d name (Err answers.PickFault.Branched) q (stays, free, (k, at, mark)) = (let s = at.session in let is = on k at in cc)
  pick_is most d name (Err answers.PickFault.Idle) q (stays, free, (k, at, mark, none)) = (let s = at.session in let is = on k at in cc)

  pub note_is : (put : Result ℕ PutFault) (answer : Result Noted NoteFault) (q : Part) → NoteStep p put answer q → IsPlain (ByNote answer) → note_of p j put ≡ (answer, disarmed_part q)
  unfolding note_of
  note_is put (Ok (answers.Landed n)) q (number, landed, h) plain =
      let k = on h.journal h.flies.at in
      let s = h.flies.at.session in
      let f = h.flies.flight_is in
      let to : note_of p j put ≡ (Ok (answers.Landed n), record p { may = taken number h.flight.count h.journal ∷ []; flight = None; base = fold_ops (take h.flight.count h.journal.queue) p.base; left = None }) = cc in
      to ∙ ap (λ (x : Part). (Ok (answers.Landed n), disarmed_part x)) (sym h.part)
  note_is put (Ok (answers.Noted.Branched at)) q (len, late, h) plain =
      let k = on h.journal h.flies.at in
      let s = h.flies.at.session in
      let f = h.flies.flight_is in
      let to : note_of p j put ≡ (Ok (answers.Noted.Branched at), record p { may = branched h.journal ∷ []; flight = None; left = None }) = cc in
      to ∙ ap (λ (x : Part). (Ok (answers.Noted.Branched at), disarmed_part x)) (sym h.part)
  note_is (Ok n) (Ok answers.Kept) q (refused, h) plain = absurd refused
  note_is (Err (folder_says.PutFault.Stale len)) (Ok answers.Kept) q (refused, h) plain = absurd refused
  note_is (Err folder_says.PutFault.NotWriter) (Ok answers.Kept) q (refused, h) plain =
      let session = h.session in
      let flight = (value p.flight h.flies).1 in
      (λ i. note_by p j (Err folder_says.PutFault.NotWriter) (session i) (flight i)) ∙ ap (λ (x : Part). (Ok answers.Kept, disarmed_part x)) (sym h.part)
  note_is (Err folder_says.PutFault.ChainEnd) (Ok answers.Kept) q (refused, h) plain =
      let session = h.session in
      let flight = (value p.flight h.flies).1 in
      (λ i. note_by p j (Err folder_says.PutFault.ChainEnd) (session i) (flight i)) ∙ ap (λ (x : Part). (Ok answers.Kept, disarmed_part x)) (sym h.part)
  note_is (Err (folder_says.PutFault.Collision id)) (Ok answers.Kept) q (refused, h) plain =
      let session = h.session in
      let flight = (value p.flight h.flies).1 in
      (λ i. note_by p j (Err (folder_says.PutFault.Collision id)) (session i) (flight i)) ∙ ap (λ (x : Part). (Ok answers.Kept, disarmed_part x)) (sym h.part)
  note_is put (Err answers.NoteFault.Closed) q h plain = cc
  note_is put (Err answers.NoteFault.NoFlight) q h plain = cc
  note_is put (Err answers.NoteFault.Stopped) q h plain = cc

  pub pull_is : (d : ℕ) (c : Chain) (answer : Result ℕ PullFault) (q : Part) → PullStep d c p answer q → IsPlain (ByPull answer) → pull_of d c p j ≡ (answer, disarmed_part q)
  unfolding pull_of
  pull_is d c (Ok n) q h plain =
      let k = h.journal in
      let same = sym (on k h.at) in
      let session = h.at.session in
      let role = value_or (roles_of c d) h.member in
      let there = role.1 in
      (λ i. pull_by d c p (same i) (session i) (there i) (same i).queue) ∙ ap (pull_by d c p k true (Some role.0)) h.flushed
      ∙ ap (λ m. (Ok m, record p { may = record k { known = m } ∷ []; base = tree_at c m; role = roles_of c d; left = None })) (sym h.number) ∙ ap (λ (x : Part). (Ok n, disarmed_part x)) (sym h.part)
  pull_is d c (Err answers.PullFault.Closed) q h plain = cc
  pull_is d c (Err answers.PullFault.NotMember) q h plain = cc
  pull_is d c (Err answers.PullFault.Unflushed) q (stays, member, (k, at, some)) plain =
      let is = on k at in
      let s = at.session in
      let role = value_or (roles_of c d) member in
      let there = role.1 in
      let queue = first k.queue some in
      let behind = queue.2 in
      cc
  pull_is d c (Err answers.PullFault.Stopped) q h plain = cc

  pub fetch_is : (d : ℕ) (c : Chain) (answer : Result ℕ FetchFault) (q : Part) → FetchStep d c p answer q → fetch_of d c p j ≡ (answer, disarmed_part q)
  unfolding fetch_of
  fetch_is d c (Ok n) q h =
      let k = h.journal in
      let session = h.at.session in
      let there = (value_or (roles_of c d) h.member).1 in
      let marked = ap (λ (x : Journal). x.mark) (sym (on k h.at)) ∙ h.marked in
      (λ i. fetch_by c p (session i) (there i) (marked i)) ∙ ap (λ m. (Ok m, record p { plan = Some m; left = None })) (sym h.number) ∙ ap (λ (x : Part). (Ok n, disarmed_part x)) (sym h.part)
  fetch_is d c (Err answers.FetchFault.Closed) q h = cc
  fetch_is d c (Err answers.FetchFault.NotMember) q h = cc
  fetch_is d c (Err answers.FetchFault.NoBranch) q (stays, member, (k, at, clear)) =
      let is = on k at in
      let s = at.session in
      let role = value_or (roles_of c d) member in
      let there = role.1 in
      cc

  -- where a plan is there, the link and the put of its merge decide
  by_put : (d : ℕ) (by : Merger) (c : Chain) (k : Journal) (plan : ℕ) (was to : Option Side) → HasPlan p k plan → was ≡ to
      → settle_of d by c p j was ≡ settle_put d by c p k plan to (put_of c (merge_ask d by k plan)).0 (put_of c (merge_ask d by k plan)).1
  unfolding settle_of
  by_put d by c k plan was to h link =
      let session = h.at.session in
      let plan_is = h.plan_is in
      let same = sym (on k h.at) in
      (λ i. settle_by d by c p (same i) (link i) (session i) (plan_is i))

  pub settle_is : (d : ℕ) (by : Merger) (c : Chain) (was : Option Side) (answer : Result (ℕ × Report) SettleFault) (c' : Chain) (q : Part) (is : Option Side) → SettleStep d by c p answer c' q → LinkAfter was answer is
      → IsPlain (BySettle answer) → settle_of d by c p j was ≡ (answer, c', disarmed_part q, is)
  unfolding settle_of
  settle_is d by c was (Ok (n, did)) c' q is h (link, after) apart =
      let k = h.journal in
      let put = put_is c (merge_ask d by k h.plan) (Ok n) c' h.put refl in
      let did_is = sym h.report in
      let part_is : record p { may = taken n (length k.queue) k ∷ []; plan = None; base = tree_at c' n; role = roles_of c' d; left = None } ≡ disarmed_part q = ap disarmed_part (sym h.part)
      in
      let end = sym after in
      by_put d by c k h.plan was None h.planned link ∙ (λ i. settle_put d by c p k h.plan None (put i).0 (put i).1) ∙ (λ i. (Ok (n, did_is i), c', part_is i, end i))
  settle_is d by c was (Err answers.SettleFault.Closed) c' q is h after apart = cc
  settle_is d by c was (Err answers.SettleFault.NoPlan) c' q is h after apart = cc
  settle_is d by c was (Err (answers.SettleFault.LinkFault None)) c' q is h (link, after) apart =
      let part_is = ap disarmed_part (sym h.part) in
      let chain_is = sym h.put in
      let end = sym after in
      by_put d by c h.journal h.plan was (Some AtRequest) h.planned link ∙ (λ i. (Err (answers.SettleFault.LinkFault None), chain_is i, part_is i, end i))
  settle_is d by c was (Err (answers.SettleFault.LinkFault (Some lost))) c' q is h (link, after) apart =
      let k = h.journal in
      let put = put_is c (merge_ask d by k h.plan) lost c' h.put (told lost apart) in
      let part_is = ap disarmed_part (sym h.part) in
      let end = sym after in
      by_put d by c k h.plan was (Some AtReply) h.planned link ∙ (λ i. settle_put d by c p k h.plan (Some AtReply) (put i).0 (put i).1)
      ∙ (λ i. (Err (answers.SettleFault.LinkFault (Some lost)), c', part_is i, end i))
  settle_is d by c was (Err (answers.SettleFault.ByPut fault)) c' q is h (link, after) apart =
      let k = h.journal in
      let put = put_is c (merge_ask d by k h.plan) (Err fault) c' h.put apart in
      let part_is = ap disarmed_part (sym h.part) in
      let end = sym after in
      by_put d by c k h.plan was None h.planned link ∙ (λ i. settle_put d by c p k h.plan None (put i).0 (put i).1) ∙ (λ i. (Err (answers.SettleFault.ByPut fault), c', part_is i, end i))
  settle_is d by c was (Err answers.SettleFault.Stopped) c' q is h after apart = cc

  found_is : p.may ≡ j ∷ [] → (found : Journal) → Contains p.may found → found ≡ j
  found_is lone found may = All-contains (λ k. k ≡ j) p.may found (subst (All (λ k. k ≡ j)) (sym lone) (all_one (λ k. k ≡ j) j refl)) may

  pub open_is : p.may ≡ j ∷ [] → (d : ℕ) (c : Chain) (answer : Result Status OpenFault) (q : Part) → OpenStep d c p answer q → IsPlain (ByOpen answer) → open_of d c p j ≡ (answer, disarmed_part q)
  unfolding open_of
  open_is lone d c (Ok status) q h plain =
      let same = sym (found_is lone h.found h.may) in
      let shut = h.closed in
      let there = (value_or (roles_of c d) h.member).1 in
      let status_is = sym h.status_is in
      let part_is = ap disarmed_part (sym h.part) in
      (λ i. open_by d c p (same i) (shut i) (there i)) ∙ (λ i. (Ok (status_is i), part_is i))
  open_is lone d c (Err answers.AlreadyOpen) q h plain = cc
  open_is lone d c (Err answers.OpenFault.NotMember) q h plain = cc
  open_is lone d c (Err answers.OpenFault.Stopped) q h plain = cc
  open_is lone d c (Err answers.BadDisk) q h plain = absurd h
  open_is lone d c (Err (answers.Foreign known)) q h plain = absurd h
  open_is lone d c (Err (answers.BadFolder number)) q h plain = absurd h

  pub backup_is : (d : ℕ) (c : Chain) (answer : Result (ℕ × ℕ) BackupFault) (q : Part) → BackupStep d c p answer q → backup_of d c p j ≡ (answer, disarmed_part q)
  unfolding backup_of
  backup_is d c (Ok told) q h =
      let same = sym (on h.journal h.at) in
      let session = h.at.session in
      let there = (value_or (roles_of c d) h.member).1 in
      let told_is = sym h.told_is in
      let part_is = ap disarmed_part (sym h.part) in
      (λ i. backup_by p (same i) (session i) (there i)) ∙ (λ i. (Ok (told_is i), part_is i))
  backup_is d c (Err answers.BackupFault.Closed) q h = cc
  backup_is d c (Err answers.BackupFault.NotMember) q h = cc

  -- where the shelf has a journal, it decides
  by_kept : (d : ℕ) (c : Chain) (size : ℕ) (kept : Journal) → p.is_open ≡ false → (IsStranger c d → ⊥) → p.shelved ≡ Some kept
      → restore_of d c size p ≡ restore_kept d c size p kept (nat_le (last_acknowledged p) (last_seq kept)) (nat_le (use_of (returned d c kept).queue) (area_size size))
  unfolding restore_of
  by_kept d c size kept shut member shelved = (let role = (value_or (roles_of c d) member).1 in (λ i. restore_by d c size p (shut i) (role i) (shelved i)))

  restore_opens : (d : ℕ) (c : Chain) (size : ℕ) → p.is_open ≡ true → restore_of d c size p ≡ (Err answers.RestoreFault.AlreadyOpen, disarmed_part p)
  unfolding restore_of
  restore_opens d c size is = (λ i. restore_by d c size p (is i) (roles_of c d) p.shelved)

  restore_strange : (d : ℕ) (c : Chain) (size : ℕ) → p.is_open ≡ false → IsStranger c d → restore_of d c size p ≡ (Err answers.RestoreFault.NotMember, disarmed_part p)
  unfolding restore_of
  restore_strange d c size shut none = (λ i. restore_by d c size p (shut i) (none i) p.shelved)

  restore_empty : (d : ℕ) (c : Chain) (size : ℕ) → p.is_open ≡ false → (IsStranger c d → ⊥) → p.shelved ≡ None → restore_of d c size p ≡ (Err answers.NoBackup, disarmed_part p)
  unfolding restore_of
  restore_empty d c size shut member none = (let role = (value_or (roles_of c d) member).1 in (λ i. restore_by d c size p (shut i) (role i) (none i)))

  pub restore_is : (d : ℕ) (c : Chain) (size : ℕ) (answer : Result (ℕ × ℕ) RestoreFault) (q : Part) → RestoreStep d c size p answer q → restore_of d c size p ≡ (answer, disarmed_part q)
  restore_is d c size (Ok told) q h =
      let a = fits (last_acknowledged p) (last_seq h.kept) h.has.whole in
      let b = fits (use_of (returned d c h.kept).queue) (area_size size) h.fits in
      let told_is = sym h.told_is in
      let part_is = ap disarmed_part (sym h.part) in
      by_kept d c size h.kept h.has.closed h.has.member h.has.shelved ∙ (λ i. restore_kept d c size p h.kept (a i) (b i)) ∙ (λ i. (Ok (told_is i), part_is i))
  restore_is d c size (Err answers.RestoreFault.AlreadyOpen) q h = restore_opens d c size h.1 ∙ ap (λ (x : Part). (Err answers.RestoreFault.AlreadyOpen, disarmed_part x)) (sym h.0)
  restore_is d c size (Err answers.RestoreFault.NotMember) q h = restore_strange d c size h.1 h.2 ∙ ap (λ (x : Part). (Err answers.RestoreFault.NotMember, disarmed_part x)) (sym h.0)
  restore_is d c size (Err answers.NoBackup) q h = restore_empty d c size h.1 h.2 h.3 ∙ ap (λ (x : Part). (Err answers.NoBackup, disarmed_part x)) (sym h.0)
  restore_is d c size (Err (answers.Behind last other)) q (same, h) =
      let last_is = h.kept_is in
      let other_is = h.last_is in
      let less = h.less in
      let a = not_fits (last_acknowledged p) (last_seq h.kept) (omega arith) in
      let b = nat_le (use_of (returned d c h.kept).queue) (area_size size) in
      let part_is = ap disarmed_part (sym same) in
      let l = sym last_is in
      let o = sym other_is in
      by_kept d c size h.kept h.closed h.member h.shelved ∙ (λ i. restore_kept d c size p h.kept (a i) b) ∙ (λ i. (Err (answers.Behind (l i) (o i)), part_is i))
  restore_is d c size (Err (answers.RestoreFault.Full need room)) q (same, h) =
      let need_is = h.need_is in
      let room_is = h.room_is in
      let over = h.over in
      let a = fits (last_acknowledged p) (last_seq h.kept) h.has.whole in
      let b = not_fits (use_of (returned d c h.kept).queue) (area_size size) (omega arith) in
      let part_is = ap disarmed_part (sym same) in
      let n = sym need_is in
      let r = sym room_is in
      by_kept d c size h.kept h.has.closed h.has.member h.has.shelved ∙ (λ i. restore_kept d c size p h.kept (a i) (b i)) ∙ (λ i. (Err (answers.RestoreFault.Full (n i) (r i)), part_is i))
