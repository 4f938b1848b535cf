-- What a file call does to a session is what the machine's call does.
use Rattle.std.proofs.Common.{◌≡◌, ℕ, ◌+◌, ◌≤◌, ◌<◌, true, false, Bool, List, [], ◌∷◌, ◌++◌, length, Option, None, Some, Result, Ok, Err, refl, sym, ap, subst, ◌∙◌, arith}
use Rattle.std.specs.Prelude.{IsSomeAnd}
use Rattle.std.proofs.lemmas.List.{take-append-le}
use Rattle.kb_edge.specs.Disk.{FallsBy}
use Rattle.kb_ops.specs.declared.rows.Op.{Op}
use Rattle.kb_ops.specs.declared.requests.Planned.TheVariants as planned
use Rattle.kb_ops.specs.declared.requests.Request.{Request}
use Rattle.kb_ops.specs.Trees.{Tree, apply, fold_ops}
use Rattle.kb_ops.specs.Plan.{plan_of}
use Rattle.kb_journal.specs.State.{State, last_seq}
use Rattle.kb_snap.specs.Chains.{Chain}
use Rattle.kb_keys.specs.Members.{is_writer}
use Rattle.kb_device.specs.Answers.{QueueFault}
use Rattle.kb_device.specs.Answers as says
use Rattle.kb_device.specs.Journals.{Journal, plain}
use Rattle.kb_device.specs.Journals as journal
use Rattle.kb_device.specs.Disks as front
use Rattle.kb_device.specs.Parts.{Part, Takes, QueueRefuses, CallStep, ended, plan_at}
use Rattle.kb_device.specs.Parts as parts
use Rattle.kb_device.specs.Meets.{Meets, PartMeets}
use Rattle.kb_device.proofs.PartSteps.{at_journal}
use Rattle.kb_folder.specs.Chains.{Names}
use Rattle.kb_folder.specs.Puts.{Held}
use Rattle.kb_folder.specs.Goes.{HasChain}
use Rattle.kb_device.specs.Inside.{Plan, Inside, IsRunning}
use Rattle.kb_device.specs.Stands.{Platter, Member, hashes_of, DiskStands, SessionStands, DeviceStands}
use Rattle.kb_device.specs.Noting.{IsRequestOf, HasLanded}
use Rattle.kb_device.specs.Calling.{queued, with_queued, area_of, plan_in, Stays, Adds, Breaks, CallDoes, UnlessStopped, is_stopped}
use Rattle.kb_device.specs.Serving.{member_after, CallAnswers, WaitsOn}
use Rattle.kb_device.specs.declared.called.Called.{Called}
use Rattle.kb_device.specs.declared.called.Called.TheVariants as called
use Rattle.kb_device.specs.declared.called.CallFault.{CallFault}
use Rattle.kb_device.specs.declared.called.CallFault.TheVariants as fault
use Rattle.kb_device.proofs.Longer.{chain_length}
use Rattle.kb_device.proofs.Hashes.{same_hash}
use Rattle.kb_device.proofs.Picks.{inside_at, closed_at}
use Rattle.kb_device.proofs.Notings.{writes_stand, stops_stand, stands_with, stands_closed}
use Rattle.kb_device.proofs.Queuing.{fold_push, first_pushed}

some_is : {A : Type 0} (x y : A) → Some x ≡ Some y → x ≡ y
some_is x y e = cc

module _ (sealed signed : List ℕ → List ℕ → List ℕ) (hashed : List ℕ → List ℕ) (seed : List ℕ) (names : Names) where
  module _ (old : Member) (s t : Inside) (was : old.inside ≡ Some s) (request : Request) (moment : ℕ) (now : Platter) where
    abbrev d : ℕ
    d = old.number

    abbrev j : Journal
    j = plain s.journal

    abbrev on : Member
    on = record old { disk = now; inside = Some t }

    module _ (f : Held) (c : Chain) (p : Part) (part : PartMeets old.number c p) (has : HasChain sealed signed hashed seed names f c) (h : DeviceStands sealed signed hashed seed names old.number f c old p) where
      session : SessionStands sealed signed hashed seed names f c s p
      session = inside_at sealed signed hashed seed names d f c old p s was h

      m : Meets d c j
      m = at_journal d c p j part session.at.journal_is

      short : j.known ≤ length f.revisions
      short = let e = chain_length sealed signed hashed seed names f c has in let le = m.within in omega (arith, e, le)

      hash_was : s.journal.hash ≡ front.hash_at (hashes_of f.revisions) s.journal.known
      hash_was = session.remembers.hash_is ∙ same_hash f.revisions s.journal.known short

      at_plan : plan_at d p j request moment ≡ plan_in d s request moment
      at_plan = λ i. plan_of (sym session.shown i) request d (last_seq s.journal + 1) moment

      may_write : (b : Bool) → is_writer s.role ≡ b → is_writer p.role ≡ b
      may_write b e = ap is_writer (sym session.role) ∙ e

      makes : (op : Op) → is_writer s.role ≡ true → plan_in d s request moment ≡ Ok (planned.Made op) → parts.Makes d p request moment j op
      makes op writes plan = record { at = session.at; writes = may_write true writes; plan = at_plan ∙ plan }

      takes : (op : Op) → Takes j (area_of old.disk) op → Takes j p.area op
      takes op h' = subst (λ a. Takes j a op) (sym h.disk.area) h'

      queued_session : (op : Op) (left : Option ℕ) → IsRunning (with_queued s op) → SessionStands sealed signed hashed seed names f c (with_queued s op) (record p { may = journal.queued op j ∷ []; plan = None; left = left; acknowledged = p.acknowledged ++ op ∷ [] })
      queued_session op left running =
          let r = session.remembers in
          record {
            at = record { session = session.at.session; journal_is = refl };
            running = running;
            base = session.base ∙ ap (λ l. fold_ops l p.base) (sym (take-append-le s.ahead s.journal.queue (op ∷ []) session.running.ahead));
            shown = ap (apply op) session.shown ∙ sym (fold_push s.journal.queue op p.base);
            role = session.role;
            remembers = record { within = r.within; hash_is = r.hash_is; generation_is = r.generation_is; held = r.held };
            held = session.held;
            written = λ first rest old queue one is.
                let le = session.running.ahead in
                let some : 1 ≤ length s.journal.queue = omega (arith, one, le) in
                let was = first_pushed s.journal.queue op first rest some queue in
                session.written first was.0 old was.1 one is;
            ring = session.ring;
            flight = session.flight;
            plan = refl;
            planned = λ x is. cc;
          }

      adds_go : (op : Op) (seq : ℕ) → is_writer s.role ≡ true → plan_in d s request moment ≡ Ok (planned.Made op) → Adds s old.disk op t now seq → IsRunning t
          → (q : Part) × CallStep d p request moment (Ok (says.Done seq)) q × DeviceStands sealed signed hashed seed names d f c on q
      adds_go op seq writes plan a running =
          let q : Part = record p { may = journal.queued op j ∷ []; plan = None; left = now.left; acknowledged = p.acknowledged ++ op ∷ [] } in (
            q,
            record {
              journal = j;
              op = op;
              makes = makes op writes plan;
              takes = takes op a.takes;
              seq_is = a.seq_is;
              left = now.left;
              falls = subst (λ l. FallsBy 4 l now.left) (sym h.disk.left) a.disk.left;
              part = refl;
            },
            stands_with sealed signed hashed seed names d f c old p q now t h (writes_stand f.revisions old.disk now p q (queued s.journal op) h.disk a.disk refl hash_was refl refl)
                (subst (λ x. SessionStands sealed signed hashed seed names f c x q) (sym a.session) (queued_session op now.left (subst IsRunning a.session running))),
          )

      breaks_go : (op : Op) → is_writer s.role ≡ true → plan_in d s request moment ≡ Ok (planned.Made op) → Breaks s old.disk op t now
          → (q : Part) × CallStep d p request moment (Err says.CallFault.Stopped) q × DeviceStands sealed signed hashed seed names d f c (record old { disk = now; inside = None }) q
      breaks_go op writes plan b =
          let q : Part = record (ended p) { may = j ∷ journal.queued op j ∷ []; stopped = Some op } in (
            q,
            record { journal = j; op = op; makes = makes op writes plan; takes = takes op b.takes; low = subst (λ l. IsSomeAnd l (λ n. n < 4)) (sym h.disk.left) b.disk.ran_out.0; part = refl },
            stands_closed sealed signed hashed seed names d f c old p q now h (stops_stand f.revisions old.disk now p q s.journal (queued s.journal op) h.disk b.disk refl hash_was hash_was refl refl) refl,
          )

      rejects_go : (op : Op) (why : QueueFault) → is_writer s.role ≡ true → plan_in d s request moment ≡ Ok (planned.Made op) → QueueRefuses j (area_of old.disk) op why → parts.Rejects d p request moment why
      rejects_go op why writes plan refuses = record { journal = j; op = op; makes = makes op writes plan; refuses = subst (λ a. QueueRefuses j a op why) (sym h.disk.area) refuses }

    stays_at : (f : Held) (c : Chain) (p : Part) → Stays s old.disk t now → DeviceStands sealed signed hashed seed names d f c old p → DeviceStands sealed signed hashed seed names d f c on p
    stays_at f c p k h =
        let session = inside_at sealed signed hashed seed names d f c old p s was h in
        stands_with sealed signed hashed seed names d f c old p p now t h (subst (λ (x : Platter). DiskStands f.revisions x p) (sym k.disk) h.disk) (subst (λ x. SessionStands sealed signed hashed seed names f c x p) (sym k.session) session)

    pub call_answers : (r : Result Called CallFault) → CallDoes d s old.disk request moment t now r → UnlessStopped r (IsRunning t) → CallAnswers sealed signed hashed seed names old (member_after old t now r) request moment r
    call_answers (Ok (called.Done seq)) does running = λ f c p part has h. adds_go f c p part has h does.op seq does.writes does.plan does.adds running
    call_answers (Ok called.Same) does running = λ f c p part has h.
        let session = inside_at sealed signed hashed seed names d f c old p s was h in
        (p, (refl, record { journal = j; at = session.at; writes = may_write f c p part has h true does.writes; plan = at_plan f c p part has h ∙ does.plan_is }), stays_at f c p does.stays h)
    call_answers (Err fault.Closed) does running = absurd does
    call_answers (Err fault.ReadOnly) does running = λ f c p part has h.
        let session = inside_at sealed signed hashed seed names d f c old p s was h in
        (p, (refl, record { session = session.at.session; reads = may_write f c p part has h false does.1 }), stays_at f c p does.0 h)
    call_answers (Err (fault.ByPlan why)) does running = λ f c p part has h.
        let session = inside_at sealed signed hashed seed names d f c old p s was h in
        (p, (refl, record { journal = j; at = session.at; writes = may_write f c p part has h true does.writes; plan = at_plan f c p part has h ∙ does.plan_is }), stays_at f c p does.stays h)
    call_answers (Err fault.Spent) does running = λ f c p part has h. (p, (refl, rejects_go f c p part has h does.op says.Spent does.writes does.plan does.adds.refuses), stays_at f c p does.adds.stays h)
    call_answers (Err fault.QueueFull) does running = λ f c p part has h. (p, (refl, rejects_go f c p part has h does.op says.QueueFull does.writes does.plan does.adds.refuses), stays_at f c p does.adds.stays h)
    call_answers (Err (fault.Full need room)) does running = λ f c p part has h. (p, (refl, rejects_go f c p part has h does.op (says.Full need room) does.writes does.plan does.adds.refuses), stays_at f c p does.adds.stays h)
    call_answers (Err fault.Memory) does running = λ f c p h. stays_at f c p does h
    call_answers (Err fault.Stopped) does running = λ f c p part has h. breaks_go f c p part has h does.op does.writes does.plan does.adds

    -- ---- what waits

    -- a session that differs in its journal, the table that it shows and its plan
    waits_by : (k : State) (shown : Tree) (plan : Option Plan) → t ≡ record s { journal = k; shown = shown; plan = plan } → WaitsOn sealed hashed seed old on
    waits_by k shown plan same =
        let y : Inside = record s { journal = k; shown = shown; plan = plan } in
        record {
          sent = λ f request h x a is flies.
              let to : y ≡ x = sym same ∙ some_is t x is in
              let r = h s a was (ap (λ (z : Inside). z.aloft) to ∙ flies) in
              subst (λ z. IsRequestOf sealed hashed seed f request z a) to (record { few = r.few; within = r.within; cached = r.cached; holds = r.holds });
          answer = λ f answer h x a n is flies ok.
              let to : y ≡ x = sym same ∙ some_is t x is in
              let l = h s a n was (ap (λ (z : Inside). z.aloft) to ∙ flies) ok in
              subst (λ z. HasLanded sealed hashed seed f z a answer.hash) to (record { hash_is = l.hash_is; held = l.held });
        }

    stays_waiting : Stays s old.disk t now → WaitsOn sealed hashed seed old on
    stays_waiting k = waits_by s.journal s.shown s.plan k.session

    pub call_waits : (r : Result Called CallFault) → CallDoes d s old.disk request moment t now r → WaitsOn sealed hashed seed old (member_after old t now r)
    call_waits (Ok (called.Done seq)) does = waits_by (queued s.journal does.op) (apply does.op s.shown) None does.adds.session
    call_waits (Ok called.Same) does = stays_waiting does.stays
    call_waits (Err fault.Closed) does = absurd does
    call_waits (Err fault.ReadOnly) does = stays_waiting does.0
    call_waits (Err (fault.ByPlan why)) does = stays_waiting does.stays
    call_waits (Err fault.Spent) does = stays_waiting does.adds.stays
    call_waits (Err fault.QueueFull) does = stays_waiting does.adds.stays
    call_waits (Err (fault.Full need room)) does = stays_waiting does.adds.stays
    call_waits (Err fault.Memory) does = stays_waiting does
    call_waits (Err fault.Stopped) does = record { sent = λ f request h x a is flies. cc; answer = λ f answer h x a n is flies ok. cc }

-- ---- where the disk stopped, and where it didn't

after_on : (v : Member) (t : Inside) (now : Platter) (r : Result Called CallFault) → is_stopped r ≡ false → member_after v t now r ≡ record v { disk = now; inside = Some t }
after_on v t now (Ok x) on = refl
after_on v t now (Err fault.Closed) on = refl
after_on v t now (Err fault.ReadOnly) on = refl
after_on v t now (Err (fault.ByPlan why)) on = refl
after_on v t now (Err fault.Spent) on = refl
after_on v t now (Err fault.QueueFull) on = refl
after_on v t now (Err (fault.Full need room)) on = refl
after_on v t now (Err fault.Memory) on = refl
after_on v t now (Err fault.Stopped) on = cc

stopped_is : (r : Result Called CallFault) → is_stopped r ≡ true → r ≡ Err fault.Stopped
stopped_is (Ok x) on = cc
stopped_is (Err fault.Closed) on = cc
stopped_is (Err fault.ReadOnly) on = cc
stopped_is (Err (fault.ByPlan why)) on = cc
stopped_is (Err fault.Spent) on = cc
stopped_is (Err fault.QueueFull) on = cc
stopped_is (Err (fault.Full need room)) on = cc
stopped_is (Err fault.Memory) on = cc
stopped_is (Err fault.Stopped) on = refl

module _ (sealed signed : List ℕ → List ℕ → List ℕ) (hashed : List ℕ → List ℕ) (seed : List ℕ) (names : Names) where
  abbrev pub Calls : Member → Member → Request → ℕ → Result Called CallFault → Type 0
  Calls v w request moment r = CallAnswers sealed signed hashed seed names v w request moment r × WaitsOn sealed hashed seed v w

  pub closed_call : (old : Member) (request : Request) (moment : ℕ) → old.inside ≡ None → Calls old old request moment (Err fault.Closed)
  closed_call old request moment none = (
    λ f c p part has h. (p, (refl, closed_at sealed signed hashed seed names old.number f c old p none h), h),
    record { sent = λ f request h. h; answer = λ f answer h. h },
  )

  -- a call of a session on this disk, of the device with this number
  module _ (old : Member) (s t : Inside) (was : old.inside ≡ Some s) (number : ℕ) (number_is : old.number ≡ number) (request : Request) (moment : ℕ) (disk now : Platter) (disk_is : old.disk ≡ disk) (r : Result Called CallFault)
      (does : CallDoes number s disk request moment t now r) (running : UnlessStopped r (IsRunning t)) where
    did : CallDoes old.number s old.disk request moment t now r
    did = subst (λ n. CallDoes n s old.disk request moment t now r) (sym number_is) (subst (λ (x : Platter). CallDoes number s x request moment t now r) (sym disk_is) does)

    went : Calls old (member_after old t now r) request moment r
    went = (call_answers sealed signed hashed seed names old s t was request moment now r did running, call_waits sealed signed hashed seed names old s t was request moment now r did)

    pub calls_on : is_stopped r ≡ false → Calls old (record old { disk = now; inside = Some t }) request moment r
    calls_on on = subst (λ (w : Member). Calls old w request moment r) (after_on old t now r on) went

    pub calls_stop : is_stopped r ≡ true → Calls old (record old { disk = now; inside = None }) request moment r
    calls_stop on = subst (λ (w : Member). Calls old w request moment r) (ap (member_after old t now) (stopped_is r on)) went
