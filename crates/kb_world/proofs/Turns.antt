-- A declared device goes on as its device does.
use Rattle.std.proofs.Common.{◌≡◌, ◌⊎◌, ℕ, ◌+◌, ◌-◌, Bool, true, false, List, Some, None, Result, Ok, Err, inl, inr, refl, sym, ap, ◌∙◌, subst, arith}
use Rattle.std.specs.Option.{ForSome}
use Rattle.kb_edge.specs.declared.disk.Disk.{Ghosts}
use Rattle.kb_edge.specs.declared.link.Side.{Side}
use Rattle.kb_seal.specs.declared.sealer.Sealer.{Ghosts as Seals}
use Rattle.kb_blocks.specs.declared.hashing.BlockHash.{Ghosts as Hashes}
use Rattle.kb_ops.specs.declared.requests.Request.{Request}
use Rattle.kb_device.specs.Answers as says
use Rattle.kb_snap.specs.Answers as folder_says
use Rattle.kb_snap.specs.Chains.{Chain}
use Rattle.kb_snap.specs.Lawful.{IsLawful}
use Rattle.kb_device.specs.Parts.{Flight, Part, IsOpenAt, CallStep, PickStep, NoteStep, PullStep, OpenStep, Lowered, armed, powered}
use Rattle.kb_world.specs.Statements.{Reply, ByCall, ByPick, ByNote, ByPull, ByOpen}
use Rattle.kb_device.specs.Waits.{Waiting, Nothing, Asked, Answered, waiting_if, WaitingMeets}
use Rattle.kb_world.specs.Machine.{went, Member, IsNotAnswered, Does, PicksFlight, PicksNone, NotesAnswer, NotesNone}
use Rattle.kb_device.specs.Meets.{PartMeets, PutMeets}
use Rattle.kb_world.specs.Good.{MemberMeets}
use Rattle.kb_folder.specs.Chains.{Names}
use Rattle.kb_folder.specs.Puts.{Held}
use Rattle.kb_folder.specs.Goes.{HasChain, IsFor, Means}
use Rattle.kb_device.specs.Stands as inner
use Rattle.kb_device.specs.Stands.{DeviceStands}
use Rattle.kb_device.specs.Forms.{DeviceGoes, DeviceStays, PickGoes}
use Rattle.kb_device.specs.Devices.{IsView, Runs, GoesOn}
use Rattle.kb_device.specs.Serving.{CallAnswers, WaitsOn}
use Rattle.kb_device.specs.Answering.{PickAnswers, PickRefuses, PickSends}
use Rattle.kb_device.specs.Noting.{NoteGoes, told, AnswerStands}
use Rattle.kb_device.specs.Pulling.{PullGoes, PullAnswers}
use Rattle.kb_device.specs.Opened.{OpenGoes, Never, OpenAnswers, OpenDoes}
use Rattle.kb_device.specs.Picking.{flight_in}
use Rattle.kb_device.specs.Telling.{told_status, TellAnswers}
use Rattle.kb_device.specs.Calling as calling
use Rattle.kb_device.specs.Pulling as pulling
use Rattle.kb_device.specs.declared.called.Called.{Called}
use Rattle.kb_device.specs.declared.called.Called.TheVariants as called
use Rattle.kb_device.specs.declared.called.CallFault.{CallFault}
use Rattle.kb_device.specs.declared.called.CallFault.TheVariants as call
use Rattle.kb_device.specs.declared.called.Closed.{Closed}
use Rattle.kb_device.specs.declared.called.Status.{Status}
use Rattle.kb_device.specs.declared.answers.Picked.{Picked}
use Rattle.kb_device.specs.declared.answers.PickFault.{PickFault}
use Rattle.kb_device.specs.declared.answers.PickFault.TheVariants as pick
use Rattle.kb_device.specs.declared.answers.PullFault.{PullFault}
use Rattle.kb_device.specs.declared.answers.PullFault.TheVariants as pull
use Rattle.kb_device.specs.declared.answers.OpenFault.{OpenFault}
use Rattle.kb_device.specs.declared.answers.OpenFault.TheVariants as opening
use Rattle.kb_device.specs.declared.answers.Noted.{Noted}
use Rattle.kb_device.specs.declared.answers.NoteFault.{NoteFault}
use Rattle.kb_device.specs.declared.answers.NoteFault.TheVariants as note
use Rattle.kb_device.specs.declared.answers.PutAnswer.{PutAnswer}
use Rattle.kb_world.specs.Told.{told_call, told_pick, told_pull, told_open}
use Rattle.kb_world.specs.Turning.{IsNoteless, CallTurns, PickTurns, NoteTurns, PullTurns, OpenTurns}
use Rattle.kb_world.specs.Standing.{DeclaredStands, WaitsFor}
use Rattle.kb_world.specs.declared.declared.Declared.{Declared}
use Rattle.kb_world.specs.declared.declared.Waiting as waits
use Rattle.kb_world.specs.declared.declared.Waiting.TheVariants as kept
use Rattle.kb_world.proofs.Waits.{nothing_if, waiting_open, waiting_closed, waits_on, waits_none}

-- a call that doesn't stop leaves a session as it is
still_open : (d : ℕ) (p q : Part) (request : Request) (moment : ℕ) (answer : Result Called CallFault) → CallStep d p request moment (told_call answer) q → calling.is_stopped answer ≡ false → (answer ≡ Err call.Memory → ⊥) → q.is_open ≡ p.is_open
still_open d p q request moment (Ok (called.Done seq)) step e m = ap (λ (r : Part). r.is_open) step.part
still_open d p q request moment (Ok called.Same) step e m = ap (λ (r : Part). r.is_open) step.0
still_open d p q request moment (Err call.Closed) step e m = ap (λ (r : Part). r.is_open) step.0
still_open d p q request moment (Err call.ReadOnly) step e m = ap (λ (r : Part). r.is_open) step.0
still_open d p q request moment (Err (call.ByPlan why)) step e m = ap (λ (r : Part). r.is_open) step.0
still_open d p q request moment (Err call.Spent) step e m = ap (λ (r : Part). r.is_open) step.0
still_open d p q request moment (Err call.QueueFull) step e m = ap (λ (r : Part). r.is_open) step.0
still_open d p q request moment (Err (call.Full need room)) step e m = ap (λ (r : Part). r.is_open) step.0
still_open d p q request moment (Err call.Memory) step e m = absurd (m refl)
still_open d p q request moment (Err call.Stopped) step e m = cc

memory_or : (r : Result Called CallFault) → (r ≡ Err call.Memory) ⊎ (r ≡ Err call.Memory → ⊥)
memory_or (Ok x) = inr (λ e. cc)
memory_or (Err call.Closed) = inr (λ e. cc)
memory_or (Err call.ReadOnly) = inr (λ e. cc)
memory_or (Err (call.ByPlan why)) = inr (λ e. cc)
memory_or (Err call.Spent) = inr (λ e. cc)
memory_or (Err call.QueueFull) = inr (λ e. cc)
memory_or (Err (call.Full need room)) = inr (λ e. cc)
memory_or (Err call.Stopped) = inr (λ e. cc)
memory_or (Err call.Memory) = inl refl

call_stopped : (r : Result Called CallFault) → calling.is_stopped r ≡ true → r ≡ Err call.Stopped
call_stopped (Ok x) e = cc
call_stopped (Err call.Closed) e = cc
call_stopped (Err call.ReadOnly) e = cc
call_stopped (Err (call.ByPlan why)) e = cc
call_stopped (Err call.Spent) e = cc
call_stopped (Err call.QueueFull) e = cc
call_stopped (Err (call.Full need room)) e = cc
call_stopped (Err call.Memory) e = cc
call_stopped (Err call.Stopped) e = refl

stopped_some : (r : Result Called CallFault) → calling.is_stopped r ≡ true → r ≡ Err call.Memory → ⊥
stopped_some r stopped e = let no_ : Err call.Stopped ≡ Err call.Memory = sym (call_stopped r stopped) ∙ e in cc

stopped_closed : (d : ℕ) (p q : Part) (request : Request) (moment : ℕ) (r : Result Called CallFault) → calling.is_stopped r ≡ true → CallStep d p request moment (told_call r) q → q.is_open ≡ false
stopped_closed d p q request moment r stopped step =
    let breaks : CallStep d p request moment (Err says.CallFault.Stopped) q = subst (λ e. CallStep d p request moment (told_call e) q) (call_stopped r stopped) step in
    ap (λ (o : Part). o.is_open) breaks.part

pull_stopped : (r : Result ℕ PullFault) → pulling.is_stopped r ≡ true → r ≡ Err pull.Stopped
pull_stopped (Ok n) e = cc
pull_stopped (Err pull.Closed) e = cc
pull_stopped (Err pull.NotMember) e = cc
pull_stopped (Err pull.Unflushed) e = cc
pull_stopped (Err (pull.BadFolder bad)) e = cc
pull_stopped (Err pull.Memory) e = cc
pull_stopped (Err pull.Stopped) e = refl

module _ {D S H : Type 0} {disks : Ghosts D} {sealers : Seals S} {hashes : Hashes H} (seed : List ℕ) (names : Names) (d : ℕ) (f : Held) (c : Chain) (x y : Declared D S H disks sealers hashes) (m : Member)
    (meets : MemberMeets d c m) (chain : HasChain sealers.sealed sealers.signed hashes.hashed seed names f c) (h : DeclaredStands seed names d f c x m) (name : y.name ≡ x.name) (runs : ForSome y.device.session (Runs y.device.number)) (linked : y.link ≡ x.link) where
  abbrev DS : inner.Member → Part → Type 0
  DS v p = DeviceStands sealers.sealed sealers.signed hashes.hashed seed names d f c v p

  abbrev WF : inner.Member → waits.Waiting → Waiting → Type 0
  WF v k w = WaitsFor sealers.sealed sealers.signed hashes.hashed seed names f v k w

  on : (w : inner.Member) → IsView y.device w → (n : Member) → DS w n.part → WF w y.waiting n.waiting → n.name ≡ m.name → n.link ≡ m.link → n.batch ≡ m.batch → DeclaredStands seed names d f c y n
  on w is n part waiting named link batch = record { name = name ∙ h.name; named = named ∙ h.named; view = w; is = is; runs = runs; part = part; waits = waiting; link = link ∙ h.link ∙ ap (λ l. l.armed) (sym linked); batch = batch ∙ h.batch }

  number : h.view.number ≡ d
  number = h.part.number

  -- a call of the device, by its own number
  turn : (w : inner.Member) (step : ℕ → Part → Part → Type 0) → DeviceGoes sealers.sealed sealers.signed hashes.hashed seed names h.view.number h.view w (step h.view.number) → (q : Part) × step d m.part q × DS w q
  turn w step goes = subst (λ k. DeviceGoes sealers.sealed sealers.signed hashes.hashed seed names k h.view w (step k)) number goes f c m.part meets.part chain h.part

  open_waits : waiting_if m.part.is_open m.waiting ≡ m.waiting
  open_waits = waiting_open d c m.name m.part m.waiting meets.waiting

  -- what waits goes on waiting while a session stays as it is
  keeps : (w : inner.Member) (q : Part) → WaitsOn sealers.sealed hashes.hashed seed h.view w → y.waiting ≡ x.waiting → q.is_open ≡ m.part.is_open → WF w y.waiting (waiting_if q.is_open m.waiting)
  keeps w q waits_ same session =
      subst (λ u. WF w y.waiting u) (sym (ap (λ b. waiting_if b m.waiting) session ∙ open_waits))
      (subst (λ k. WF w k m.waiting) (sym same) (waits_on sealers.sealed sealers.signed hashes.hashed seed names f h.view w x.waiting m.waiting waits_ h.waits))

  -- nothing waits once it has ended
  drops : (w : inner.Member) (q : Part) → y.waiting ≡ kept.Nothing → q.is_open ≡ false → WF w y.waiting (waiting_if q.is_open m.waiting)
  drops w q none closed = subst (λ u. WF w y.waiting u) (sym (ap (λ b. waiting_if b m.waiting) closed)) (subst (λ k. WF w k Nothing) (sym none) tt)

  went_on : (w : inner.Member) → IsView y.device w → (q : Part) → DS w q → WF w y.waiting (waiting_if q.is_open m.waiting) → DeclaredStands seed names d f c y (went m q)
  went_on w is q part waiting = on w is (went m q) part waiting refl refl refl

  -- want of memory changes nothing
  stays : (w : inner.Member) → DeviceStays sealers.sealed sealers.signed hashes.hashed seed names h.view.number h.view w → DS w m.part
  stays w goes = subst (λ k. DeviceStays sealers.sealed sealers.signed hashes.hashed seed names k h.view w) number goes f c m.part h.part

  unchanged : (w : inner.Member) → IsView y.device w → DS w m.part → WaitsOn sealers.sealed hashes.hashed seed h.view w → y.waiting ≡ x.waiting → DeclaredStands seed names d f c y m
  unchanged w is part waits_ same = on w is m part (subst (λ k. WF w k m.waiting) (sym same) (waits_on sealers.sealed sealers.signed hashes.hashed seed names f h.view w x.waiting m.waiting waits_ h.waits)) refl refl refl

  -- ---- file calls

  abbrev CA : inner.Member → Request → ℕ → Result Called CallFault → Type 0
  CA w request moment result = CallAnswers sealers.sealed sealers.signed hashes.hashed seed names h.view w request moment result

  calls : (w : inner.Member) (request : Request) (moment : ℕ) (result : Result Called CallFault) → CA w request moment result → (result ≡ Err call.Memory → ⊥) → (q : Part) × CallStep d m.part request moment (told_call result) q × DS w q
  calls w request moment (Ok (called.Done seq)) goes some = turn w (λ k p q. CallStep k p request moment (Ok (says.Done seq)) q) goes
  calls w request moment (Ok called.Same) goes some = turn w (λ k p q. CallStep k p request moment (Ok says.Same) q) goes
  calls w request moment (Err call.Closed) goes some = turn w (λ k p q. CallStep k p request moment (Err says.CallFault.Closed) q) goes
  calls w request moment (Err call.ReadOnly) goes some = turn w (λ k p q. CallStep k p request moment (Err says.ReadOnly) q) goes
  calls w request moment (Err (call.ByPlan why)) goes some = turn w (λ k p q. CallStep k p request moment (Err (says.ByPlan why)) q) goes
  calls w request moment (Err call.Spent) goes some = turn w (λ k p q. CallStep k p request moment (Err (says.ByQueue says.Spent)) q) goes
  calls w request moment (Err call.QueueFull) goes some = turn w (λ k p q. CallStep k p request moment (Err (says.ByQueue says.QueueFull)) q) goes
  calls w request moment (Err (call.Full need room)) goes some = turn w (λ k p q. CallStep k p request moment (Err (says.ByQueue (says.Full need room))) q) goes
  calls w request moment (Err call.Stopped) goes some = turn w (λ k p q. CallStep k p request moment (Err says.CallFault.Stopped) q) goes
  calls w request moment (Err call.Memory) goes some = absurd (some refl)

  call_shape : (request : Request) (moment : ℕ) (result : Result Called CallFault) (n : Member) → (result ≡ Err call.Memory → ⊥) → Does (CallStep d m.part request moment) ByCall (ByCall (told_call result)) m n → CallTurns request moment result d c m n
  call_shape request moment (Ok x) n some does = does
  call_shape request moment (Err call.Closed) n some does = does
  call_shape request moment (Err call.ReadOnly) n some does = does
  call_shape request moment (Err (call.ByPlan why)) n some does = does
  call_shape request moment (Err call.Spent) n some does = does
  call_shape request moment (Err call.QueueFull) n some does = does
  call_shape request moment (Err (call.Full need room)) n some does = does
  call_shape request moment (Err call.Stopped) n some does = does
  call_shape request moment (Err call.Memory) n some does = absurd (some refl)

  -- with an answer
  call_answered : (w : inner.Member) → IsView y.device w → (request : Request) (moment : ℕ) (result : Result Called CallFault) → CA w request moment result → WaitsOn sealers.sealed hashes.hashed seed h.view w
      → (result ≡ Err call.Memory → ⊥) → ((q : Part) → CallStep d m.part request moment (told_call result) q → WF w y.waiting (waiting_if q.is_open m.waiting)) → (n : Member) × CallTurns request moment result d c m n × DeclaredStands seed names d f c y n
  call_answered w is request moment result goes waits_ some waiting =
      let to = calls w request moment result goes some in
      (went m to.0, call_shape request moment result (went m to.0) some (record { answer = told_call result; part = to.0; step = to.1; reply_is = refl; member = refl }), went_on w is to.0 to.2 (waiting to.0 to.1))

  -- a session goes on
  pub call_goes_on : (w : inner.Member) → IsView y.device w → (request : Request) (moment : ℕ) (result : Result Called CallFault) → CA w request moment result → WaitsOn sealers.sealed hashes.hashed seed h.view w
      → y.waiting ≡ x.waiting → calling.is_stopped result ≡ false → (n : Member) × CallTurns request moment result d c m n × DeclaredStands seed names d f c y n
  call_goes_on w is request moment result goes waits_ same going = elim (memory_or result) [
    | inl e ↦ (m, subst (λ r. CallTurns request moment r d c m m) (sym e) refl, unchanged w is (stays w (subst (λ r. CA w request moment r) e goes)) waits_ same)
    | inr some ↦ call_answered w is request moment result goes waits_ some (λ q step. keeps w q waits_ same (still_open d m.part q request moment result step going some))
  ]

  -- it ends
  pub call_ends : (w : inner.Member) → IsView y.device w → (request : Request) (moment : ℕ) (result : Result Called CallFault) → CA w request moment result → WaitsOn sealers.sealed hashes.hashed seed h.view w
      → y.waiting ≡ kept.Nothing → calling.is_stopped result ≡ true → (n : Member) × CallTurns request moment result d c m n × DeclaredStands seed names d f c y n
  call_ends w is request moment result goes waits_ none stopped =
      call_answered w is request moment result goes waits_ (stopped_some result stopped) (λ q step. drops w q none (stopped_closed d m.part q request moment result stopped step))

  -- ---- picks

  named : h.view.name ≡ m.name
  named = h.part.name ∙ sym h.named

  -- a pick that was not refused
  pub picks : (w : inner.Member) → IsView y.device w → (picked : Picked) → PickAnswers sealers.sealed sealers.signed hashes.hashed seed names h.view w (Ok picked) → y.waiting ≡ kept.Request picked.request
      → (n : Member) × PickTurns (Ok (picked.seq, picked.number)) d c m n × DeclaredStands seed names d f c y n
  picks w is picked goes waiting =
      let G : ℕ → Type 0 = λ k. PickGoes sealers.sealed sealers.signed hashes.hashed seed names k h.view.name h.view w (flight_in picked) picked.request × PickSends sealers.sealed sealers.signed hashes.hashed seed names k h.view w picked.request in
      let at : G d = subst G number goes in
      let to = at.0 f c m.part meets.part chain h.part in
      let step : PickStep m.batch d m.name m.part (Ok (flight_in picked, to.1)) to.0 = subst (λ k. PickStep k d m.name m.part (Ok (flight_in picked, to.1)) to.0) (sym h.batch) (subst (λ l. PickStep 1 d l m.part (Ok (flight_in picked, to.1)) to.0) named to.2) in
      let n : Member = record m { part = to.0; waiting = Asked to.1 } in
      let one : picked.seq ≡ picked.seq + 1 - 1 = omega arith in
      let sent = at.1 f c m.part h.part in (
        n,
        record { flight = flight_in picked; ask = to.1; part = to.0; step = step; reply_is = ap (λ k. ByPick (Ok (picked.seq, k, picked.number))) one; member = refl },
        on w is n to.4 (subst (λ k. WF w k (Asked to.1)) (sym waiting) (to.3, sent)) refl refl refl,
      )

  -- one that was
  refused_pick : (w : inner.Member) (fault : says.PickFault) → PickRefuses sealers.sealed sealers.signed hashes.hashed seed names h.view w fault → (q : Part) × PickStep m.batch d m.name m.part (Err fault) q × DS w q
  refused_pick w fault goes =
      let to = turn w (λ k p q. PickStep 1 k h.view.name p (Err fault) q) goes in
      (to.0, subst (λ k. PickStep k d m.name m.part (Err fault) to.0) (sym h.batch) (subst (λ l. PickStep 1 d l m.part (Err fault) to.0) named to.1), to.2)

  still_picking : (fault : says.PickFault) (q : Part) → PickStep m.batch d m.name m.part (Err fault) q → q.is_open ≡ m.part.is_open
  still_picking says.PickFault.Closed q step = ap (λ (r : Part). r.is_open) step.0
  still_picking says.InFlight q step = ap (λ (r : Part). r.is_open) step.0
  still_picking says.PickFault.Branched q step = ap (λ (r : Part). r.is_open) step.0
  still_picking says.Idle q step = ap (λ (r : Part). r.is_open) step.0

  pick_answered : (w : inner.Member) → IsView y.device w → WaitsOn sealers.sealed hashes.hashed seed h.view w → y.waiting ≡ x.waiting → (fault : says.PickFault) → PickRefuses sealers.sealed sealers.signed hashes.hashed seed names h.view w fault
      → (n : Member) × PicksNone d (ByPick (Err fault)) m n × DeclaredStands seed names d f c y n
  pick_answered w is waits_ same fault goes =
      let to = refused_pick w fault goes in
      (went m to.0, record { answer = fault; part = to.0; step = to.1; reply_is = refl; member = refl }, went_on w is to.0 to.2 (keeps w to.0 waits_ same (still_picking fault to.0 to.1)))

  pub picks_none : (w : inner.Member) → IsView y.device w → (fault : PickFault) → PickAnswers sealers.sealed sealers.signed hashes.hashed seed names h.view w (Err fault) → WaitsOn sealers.sealed hashes.hashed seed h.view w → y.waiting ≡ x.waiting
      → (n : Member) × PickTurns (Err fault) d c m n × DeclaredStands seed names d f c y n
  picks_none w is pick.Closed goes waits_ same = pick_answered w is waits_ same says.PickFault.Closed goes
  picks_none w is pick.InFlight goes waits_ same = pick_answered w is waits_ same says.InFlight goes
  picks_none w is pick.Branched goes waits_ same = pick_answered w is waits_ same says.PickFault.Branched goes
  picks_none w is pick.Idle goes waits_ same = pick_answered w is waits_ same says.Idle goes
  picks_none w is pick.Memory goes waits_ same = (m, refl, unchanged w is (stays w goes) waits_ same)

  -- ---- notes

  -- what an answer that is kept waits for
  answered_by : (k : waits.Waiting) (answer : PutAnswer) (u : Waiting) → k ≡ kept.Answer answer → WF h.view k u → (put : Result ℕ folder_says.PutFault) × (u ≡ Answered put) × Means answer.number put × AnswerStands sealers.sealed hashes.hashed seed f h.view answer
  answered_by k answer u is waits_ = by u (subst (λ l. WF h.view l u) is waits_) where
    by : (u : Waiting) → WF h.view (kept.Answer answer) u → (put : Result ℕ folder_says.PutFault) × (u ≡ Answered put) × Means answer.number put × AnswerStands sealers.sealed hashes.hashed seed f h.view answer
    by Nothing h = absurd h
    by (Asked ask) h = absurd h
    by (Answered put) h = (put, refl, h.0, h.1)

  pub notes : (w : inner.Member) → IsView y.device w → (answer : PutAnswer) (result : Result Noted NoteFault) → NoteGoes sealers.sealed sealers.signed hashes.hashed seed names h.view.number h.view w answer result
      → x.waiting ≡ kept.Answer answer → y.waiting ≡ kept.Nothing → (n : Member) × NoteTurns result d c m n × DeclaredStands seed names d f c y n
  notes w is answer result goes was none =
      let at : NoteGoes sealers.sealed sealers.signed hashes.hashed seed names d h.view w answer result = subst (λ k. NoteGoes sealers.sealed sealers.signed hashes.hashed seed names k h.view w answer result) number goes in
      let by = answered_by x.waiting answer m.waiting was h.waits in
      let put : PutMeets d c m.part by.0 = subst (WaitingMeets d c m.name m.part) by.1 meets.waiting in
      let to = at f c m.part by.0 meets.part put chain h.part by.2 by.3 in
      let n : Member = record m { part = to.0; waiting = Nothing } in (
        n,
        inl (record { session = put.at.session; put = by.0; waits = by.1; answer = told result; part = to.0; step = to.1; reply_is = refl; member = refl }),
        on w is n to.2 (subst (λ k. WF w k Nothing) (sym none) tt) refl refl refl,
      )

  unanswered : (k : waits.Waiting) (u : Waiting) → ((answer : PutAnswer) → k ≡ kept.Answer answer → ⊥) → WF h.view k u → IsNotAnswered u
  unanswered k Nothing other waits_ = tt
  unanswered k (Asked ask) other waits_ = tt
  unanswered kept.Nothing (Answered put) other waits_ = waits_
  unanswered (kept.Request request) (Answered put) other waits_ = waits_
  unanswered (kept.Answer answer) (Answered put) other waits_ = other answer refl

  -- the device and what waits are as they were
  same_device : (y ≡ x) → DeclaredStands seed names d f c y m
  same_device e = subst (λ z. DeclaredStands seed names d f c z m) (sym e) h

  -- nothing waits to be noted
  pub notes_none : (status : Result Status Closed) → ((v : inner.Member) (p : Part) → IsView x.device v → DeviceStands sealers.sealed sealers.signed hashes.hashed seed names v.number f c v p → TellAnswers p status) → ((answer : PutAnswer) → x.waiting ≡ kept.Answer answer → ⊥) → y ≡ x
      → (fault : NoteFault) → IsNoteless status fault → (n : Member) × NoteTurns (Err fault) d c m n × DeclaredStands seed names d f c y n
  notes_none (Ok status) tells other same note.NoFlight tt =
      let told_ = tells h.view m.part h.is (subst (λ k. DeviceStands sealers.sealed sealers.signed hashes.hashed seed names k f c h.view m.part) (sym number) h.part) in
      (m, inr (record { fault = says.NoteFault.NoFlight; cause = (told_.1.session, unanswered x.waiting m.waiting other h.waits); reply_is = refl; member = refl }), same_device same)
  notes_none (Err closed) tells other same note.Closed tt =
      let told_ = tells h.view m.part h.is (subst (λ k. DeviceStands sealers.sealed sealers.signed hashes.hashed seed names k f c h.view m.part) (sym number) h.part) in
      (m, inr (record { fault = says.NoteFault.Closed; cause = told_; reply_is = refl; member = refl }), same_device same)
  notes_none (Ok status) tells other same note.Closed bad = absurd bad
  notes_none (Ok status) tells other same note.Stopped bad = absurd bad
  notes_none (Err closed) tells other same note.NoFlight bad = absurd bad
  notes_none (Err closed) tells other same note.Stopped bad = absurd bad

  -- ---- pulls

  abbrev PU : inner.Member → Result ℕ PullFault → Type 0
  PU w result = PullAnswers sealers.sealed sealers.signed hashes.hashed seed names f h.view w result

  pulls : (w : inner.Member) → IsView y.device w → (answer : Result ℕ says.PullFault) → PullGoes sealers.sealed sealers.signed hashes.hashed seed names h.view.number f h.view w answer → ((q : Part) → PullStep d c m.part answer q → WF w y.waiting (waiting_if q.is_open m.waiting))
      → (n : Member) × Does (PullStep d c m.part) ByPull (ByPull answer) m n × DeclaredStands seed names d f c y n
  pulls w is answer goes waiting =
      let at : PullGoes sealers.sealed sealers.signed hashes.hashed seed names d f h.view w answer = subst (λ k. PullGoes sealers.sealed sealers.signed hashes.hashed seed names k f h.view w answer) number goes in
      let to = at c m.part meets.part chain h.part in
      (went m to.0, record { answer = answer; part = to.0; step = to.1; reply_is = refl; member = refl }, went_on w is to.0 to.2 (waiting to.0 to.1))

  pull_never : (w : inner.Member) (bad : ℕ) → PU w (Err (pull.BadFolder bad)) → ⊥
  pull_never w bad goes =
      subst (λ k. (e : Chain) (p : Part) → PartMeets k e p → HasChain sealers.sealed sealers.signed hashes.hashed seed names f e → DeviceStands sealers.sealed sealers.signed hashes.hashed seed names k f e h.view p → ⊥) number goes c m.part meets.part chain h.part

  pull_stays : (w : inner.Member) → PU w (Err pull.Memory) → DS w m.part
  pull_stays w goes =
      subst (λ k. (e : Chain) (p : Part) → DeviceStands sealers.sealed sealers.signed hashes.hashed seed names k f e h.view p → DeviceStands sealers.sealed sealers.signed hashes.hashed seed names k f e w p) number goes c m.part h.part

  -- a session goes on
  pub pull_goes_on : (w : inner.Member) → IsView y.device w → (result : Result ℕ PullFault) → PU w result → WaitsOn sealers.sealed hashes.hashed seed h.view w → y.waiting ≡ x.waiting → pulling.is_stopped result ≡ false
      → (n : Member) × PullTurns result d c m n × DeclaredStands seed names d f c y n
  pull_goes_on w is (Ok head) goes waits_ same going = pulls w is (Ok head) goes (λ q step. keeps w q waits_ same (ap (λ (r : Part). r.is_open) step.part))
  pull_goes_on w is (Err pull.Closed) goes waits_ same going = pulls w is (Err says.PullFault.Closed) goes (λ q step. keeps w q waits_ same (ap (λ (r : Part). r.is_open) step.0))
  pull_goes_on w is (Err pull.NotMember) goes waits_ same going = pulls w is (Err says.PullFault.NotMember) goes (λ q step. keeps w q waits_ same (ap (λ (r : Part). r.is_open) step.0))
  pull_goes_on w is (Err pull.Unflushed) goes waits_ same going = pulls w is (Err says.PullFault.Unflushed) goes (λ q step. keeps w q waits_ same (ap (λ (r : Part). r.is_open) step.0))
  pull_goes_on w is (Err (pull.BadFolder bad)) goes waits_ same going = absurd (pull_never w bad goes)
  pull_goes_on w is (Err pull.Memory) goes waits_ same going = (m, refl, unchanged w is (pull_stays w goes) waits_ same)
  pull_goes_on w is (Err pull.Stopped) goes waits_ same going = absurd (let no_ : true ≡ false = going in cc)

  -- it ends
  pub pull_ends : (w : inner.Member) → IsView y.device w → (result : Result ℕ PullFault) → PU w result → y.waiting ≡ kept.Nothing → pulling.is_stopped result ≡ true
      → (n : Member) × PullTurns result d c m n × DeclaredStands seed names d f c y n
  pull_ends w is result goes none stopped =
      let e = pull_stopped result stopped in
      subst (λ r. (n : Member) × PullTurns r d c m n × DeclaredStands seed names d f c y n) (sym e)
      (pulls w is (Err says.PullFault.Stopped) (subst (λ r. PU w r) e goes) (λ q step. drops w q none (ap (λ (r : Part). r.is_open) step.part)))

  -- ---- openings

  -- nothing waits for a closed device, whatever it is then
  rests : (w : inner.Member) (b : Bool) → y.waiting ≡ x.waiting → m.part.is_open ≡ false → WF w y.waiting (waiting_if b m.waiting)
  rests w b same closed =
      let none : m.waiting ≡ Nothing = waiting_closed d c m.name m.part m.waiting meets.waiting closed in
      let here : WF w x.waiting Nothing = waits_none sealers.sealed sealers.signed hashes.hashed seed names f h.view w x.waiting (subst (λ u. WF h.view x.waiting u) none h.waits) in
      subst (λ u. WF w y.waiting u) (sym (ap (λ u. waiting_if b u) none ∙ nothing_if b)) (subst (λ k. WF w k Nothing) (sym same) here)

  abbrev OP : inner.Member → Result says.Status says.OpenFault → Type 0
  OP w answer = OpenGoes sealers.sealed sealers.signed hashes.hashed seed names f h.view w answer

  opens : IsLawful c → (w : inner.Member) → IsView y.device w → (answer : Result says.Status says.OpenFault) → OP w answer → y.waiting ≡ x.waiting → ((q : Part) → OpenStep d c m.part answer q → m.part.is_open ≡ false)
      → (n : Member) × Does (OpenStep d c m.part) ByOpen (ByOpen answer) m n × DeclaredStands seed names d f c y n
  opens lawful w is answer goes same closed =
      let at = subst (λ k. (c : Chain) (p : Part) → IsLawful c → PartMeets k c p → HasChain sealers.sealed sealers.signed hashes.hashed seed names f c → DeviceStands sealers.sealed sealers.signed hashes.hashed seed names k f c h.view p
      → (q : Part) × OpenStep k c p answer q × DeviceStands sealers.sealed sealers.signed hashes.hashed seed names k f c w q) number goes in
      let to = at c m.part lawful meets.part chain h.part in
      (went m to.0, record { answer = answer; part = to.0; step = to.1; reply_is = refl; member = refl }, went_on w is to.0 to.2 (rests w to.0.is_open same (closed to.0 to.1)))

  never : IsLawful c → (w : inner.Member) → Never sealers.sealed sealers.signed hashes.hashed seed names f h.view w → ⊥
  never lawful w goes =
      subst (λ k. (c : Chain) (p : Part) → IsLawful c → PartMeets k c p → HasChain sealers.sealed sealers.signed hashes.hashed seed names f c → DeviceStands sealers.sealed sealers.signed hashes.hashed seed names k f c h.view p → ⊥) number goes c m.part lawful meets.part chain h.part

  pub opens_device : IsLawful c → (w u : inner.Member) → IsView y.device w → IsView y.device u → (result : Result Status OpenFault) → OpenAnswers sealers.sealed sealers.signed hashes.hashed seed names f h.view w result
      → OpenDoes sealers.sealed sealers.signed hashes.hashed f h.view u result → y.waiting ≡ x.waiting → (n : Member) × OpenTurns result d c m n × DeclaredStands seed names d f c y n
  opens_device lawful w u is also (Ok status) goes does same = opens lawful w is (Ok (told_status status)) goes same (λ q step. step.closed)
  opens_device lawful w u is also (Err opening.AlreadyOpen) goes does same =
      let at = subst (λ k. (c : Chain) (p : Part) → IsLawful c → PartMeets k c p → HasChain sealers.sealed sealers.signed hashes.hashed seed names f c → DeviceStands sealers.sealed sealers.signed hashes.hashed seed names k f c h.view p
      → (q : Part) × OpenStep k c p (Err says.AlreadyOpen) q × DeviceStands sealers.sealed sealers.signed hashes.hashed seed names k f c w q) number goes in
      let to = at c m.part lawful meets.part chain h.part in (
        went m m.part,
        record { answer = Err says.AlreadyOpen; part = m.part; step = (refl, to.1.1); reply_is = refl; member = refl },
        on h.view (subst (λ v. IsView y.device v) does.1 also) (went m m.part) h.part
            (subst (λ t. WF h.view y.waiting t) (sym open_waits) (subst (λ k. WF h.view k m.waiting) (sym same) h.waits)) refl refl refl,
      )
  opens_device lawful w u is also (Err opening.NotMember) goes does same = opens lawful w is (Err says.OpenFault.NotMember) goes same (λ q step. step.1)
  opens_device lawful w u is also (Err opening.Stopped) goes does same = opens lawful w is (Err says.OpenFault.Stopped) goes same (λ q step. step.closed)
  opens_device lawful w u is also (Err opening.BadDisk) goes does same = absurd (never lawful w goes)
  opens_device lawful w u is also (Err (opening.Foreign known)) goes does same = absurd (never lawful w goes)
  opens_device lawful w u is also (Err (opening.BadFolder bad)) goes does same = absurd (never lawful w goes)
  opens_device lawful w u is also (Err opening.Memory) goes does same =
      let at = subst (λ k. (c : Chain) (p : Part) → DeviceStands sealers.sealed sealers.signed hashes.hashed seed names k f c h.view p → (q : Part) × Lowered p q × DeviceStands sealers.sealed sealers.signed hashes.hashed seed names k f c w q) number goes in
      let to = at c m.part h.part in
      let n : Member = record m { part = to.0 } in
      (n, (to.1, refl), on w is n to.2 (subst (λ t. WF w y.waiting t) open_waits (rests w m.part.is_open same to.1.closed)) refl refl refl)

  -- ---- fuse and power

  pub fuses : (steps : ℕ) (w : inner.Member) → IsView y.device w → DeviceGoes sealers.sealed sealers.signed hashes.hashed seed names h.view.number h.view w (λ p q. q ≡ armed steps p) → WaitsOn sealers.sealed hashes.hashed seed h.view w → y.waiting ≡ x.waiting
      → (n : Member) × (n ≡ record m { part = armed steps m.part }) × DeclaredStands seed names d f c y n
  fuses steps w is goes waits_ same =
      let to = turn w (λ k p q. q ≡ armed steps p) goes in
      let n : Member = record m { part = armed steps m.part } in
      (n, refl, on w is n (subst (λ q. DS w q) to.1 to.2) (subst (λ k. WF w k m.waiting) (sym same) (waits_on sealers.sealed sealers.signed hashes.hashed seed names f h.view w x.waiting m.waiting waits_ h.waits)) refl refl refl)

  pub powers : (w : inner.Member) → IsView y.device w → DeviceGoes sealers.sealed sealers.signed hashes.hashed seed names h.view.number h.view w (λ p q. q ≡ powered p) → y.waiting ≡ kept.Nothing
      → (n : Member) × (n ≡ went m (powered m.part)) × DeclaredStands seed names d f c y n
  powers w is goes none =
      let to = turn w (λ k p q. q ≡ powered p) goes in
      (went m (powered m.part), refl, went_on w is (powered m.part) (subst (λ q. DS w q) to.1 to.2) (drops w (powered m.part) none refl))

-- ---- a link is armed

module _ {D S H : Type 0} {disks : Ghosts D} {sealers : Seals S} {hashes : Hashes H} (seed : List ℕ) (names : Names) (d : ℕ) (f : Held) (c : Chain) (x y : Declared D S H disks sealers hashes) (m : Member) (h : DeclaredStands seed names d f c x m) where
  pub loses : (side : Side) → y.name ≡ x.name → y.device ≡ x.device → y.waiting ≡ x.waiting → y.link.armed ≡ Some side → (n : Member) × (n ≡ record m { link = Some side }) × DeclaredStands seed names d f c y n
  loses side name device waiting armed = (
    record m { link = Some side },
    refl,
    record {
      name = name ∙ h.name;
      named = h.named;
      view = h.view;
      is = subst (λ e. IsView e h.view) (sym device) h.is;
      runs = subst (λ e. ForSome e.session (Runs e.number)) (sym device) h.runs;
      part = h.part;
      waits = subst (λ k. WaitsFor sealers.sealed sealers.signed hashes.hashed seed names f h.view k m.waiting) (sym waiting) h.waits;
      link = sym armed;
      batch = h.batch;
    },
  )
