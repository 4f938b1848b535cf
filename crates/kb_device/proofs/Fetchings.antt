-- What a fetch does to a session is what the machine's fetch does.
use Rattle.std.proofs.Common.{◌≡◌, ℕ, true, false, List, length, Option, Some, None, Result, Ok, Err, is_some, refl, sym, ap, subst, ◌∙◌}
use Rattle.kb_keys.specs.Policies.{role_at}
use Rattle.kb_snap.specs.Chains.{Chain}
use Rattle.kb_snap.specs.Members.{roles_of, IsStranger}
use Rattle.kb_device.specs.Journals.{plain}
use Rattle.kb_device.specs.Meets.{PartMeets}
use Rattle.kb_device.specs.Parts.{Part}
use Rattle.kb_device.proofs.Owned.{landed_length}
use Rattle.kb_device.proofs.PartSteps.{at_journal}
use Rattle.kb_folder.specs.Chains.{Names}
use Rattle.kb_folder.specs.Puts.{Held}
use Rattle.kb_folder.specs.Held.{is_member}
use Rattle.kb_folder.specs.Goes.{HasChain}
use Rattle.kb_device.specs.Inside.{Plan, Inside, IsRunning}
use Rattle.kb_device.specs.Stands.{Member, PlanStands, SessionStands, DeviceStands}
use Rattle.kb_device.specs.Noting.{IsRequestOf, HasLanded}
use Rattle.kb_device.specs.Pulling.{InChain}
use Rattle.kb_device.specs.Fetching.{with_plan, FetchDoes, FetchAnswers}
use Rattle.kb_device.specs.Serving.{WaitsOn}
use Rattle.kb_device.specs.declared.fetched.FetchFault.{FetchFault}
use Rattle.kb_device.specs.declared.fetched.FetchFault.TheVariants as fault
use Rattle.kb_device.proofs.Options.{none_of}
use Rattle.kb_device.proofs.Picks.{inside_at, closed_at}

-- a session with another plan goes on
pub runs_planned : (s : Inside) (x : Plan) → IsRunning s → IsRunning (with_plan s x)
runs_planned s x r = record {
  known = r.known;
  proper = r.proper;
  few = r.few;
  ahead = r.ahead;
  fit = r.fit;
  shown = r.shown;
  pointed = r.pointed;
  first = r.first;
  last = r.last;
  keyed = r.keyed;
  aloft = λ a is. (let f = r.aloft a is in record { number = f.number; count = f.count; ahead = f.ahead; clear = f.clear; all = f.all });
}

some_is : {A : Type 0} (x y : A) → Some x ≡ Some y → x ≡ y
some_is x y e = cc

module _ (sealed signed : List ℕ → List ℕ → List ℕ) (hashed : List ℕ → List ℕ) (seed : List ℕ) (names : Names) (f : Held) (old : Member) where
  pub closed_fetch : old.inside ≡ None → FetchAnswers sealed signed hashed seed names f old old (Err fault.Closed)
  closed_fetch none = λ c p part has h. (p, (refl, closed_at sealed signed hashed seed names old.number f c old p none h), h)

  pub same_waits : WaitsOn sealed hashed seed old old
  same_waits = record { sent = λ f request h. h; answer = λ f answer h. h }

  module _ (s t : Inside) (was : old.inside ≡ Some s) where
    abbrev new : Member
    new = record old { inside = Some t }

    role_here : (c : Chain) → HasChain sealed signed hashed seed names f c → role_at f.state.policy.0 old.number ≡ roles_of c old.number
    role_here c has = has.stands.policy.roles old.number ∙ ap (λ l. roles_of l old.number) (sym has.turned)

    no_stranger : (c : Chain) → HasChain sealed signed hashed seed names f c → is_member f old.number ≡ true → ¬ IsStranger c old.number
    no_stranger c has member stranger = let bad : true ≡ false = sym member ∙ ap is_some (role_here c has ∙ stranger) in cc

    -- what is so in the device's chain
    in_chain : (P : List ℕ → Chain → Type 0) → InChain sealed signed hashed f old.number old.secret s P → (c : Chain) (p : Part) → PartMeets old.number c p → HasChain sealed signed hashed seed names f c → DeviceStands sealed signed hashed seed names old.number f c old p → P seed c
    in_chain P all c p part has h =
        let session = inside_at sealed signed hashed seed names old.number f c old p s was h in
        all seed names c has h.secret session.remembers.generation_is session.ring session.remembers.within (landed_length old.number c (plain s.journal) (at_journal old.number c p (plain s.journal) part session.at.journal_is))

    with_inside : (c : Chain) (p : Part) (plan : Option ℕ) → DeviceStands sealed signed hashed seed names old.number f c old p → SessionStands sealed signed hashed seed names f c t (record p { plan = plan })
        → DeviceStands sealed signed hashed seed names old.number f c new (record p { plan = plan })
    with_inside c p plan h session = record {
      number = h.number;
      name = h.name;
      secret = h.secret;
      registered = h.registered;
      disk = record { images = h.disk.images; area = h.disk.area; left = h.disk.left };
      session = session;
    }

    same : t ≡ s → (c : Chain) (p : Part) → DeviceStands sealed signed hashed seed names old.number f c old p → DeviceStands sealed signed hashed seed names old.number f c new p
    same e c p h =
        let session = inside_at sealed signed hashed seed names old.number f c old p s was h in
        with_inside c p p.plan h (subst (λ x. SessionStands sealed signed hashed seed names f c x p) (sym e) session)

    planned_session : (c : Chain) (p : Part) (x : Plan) (n : ℕ) → n ≡ x.number → PlanStands sealed hashed seed f c s.journal.known x → IsRunning (with_plan s x) → SessionStands sealed signed hashed seed names f c s p
        → SessionStands sealed signed hashed seed names f c (with_plan s x) (record p { plan = Some n })
    planned_session c p x n is stands running session = record {
      at = record { session = session.at.session; journal_is = session.at.journal_is };
      running = running;
      base = session.base;
      shown = session.shown;
      role = session.role;
      remembers = session.remembers;
      held = session.held;
      written = session.written;
      ring = session.ring;
      flight = session.flight;
      plan = ap Some is;
      planned = λ y at. subst (PlanStands sealed hashed seed f c s.journal.known) (some_is x y at) stands;
    }

    pub fetch_answers : (r : Result ℕ FetchFault) → FetchDoes sealed signed hashed f old.number old.secret s t r → IsRunning t → FetchAnswers sealed signed hashed seed names f old new r
    fetch_answers (Ok n) d running = λ c p part has h.
        let session = inside_at sealed signed hashed seed names old.number f c old p s was h in
        let head = in_chain (λ seed c. PlanStands sealed hashed seed f c s.journal.known d.plan × (d.plan.number ≡ length c)) d.head c p part has h in (
          record p { plan = Some n },
          record { journal = plain s.journal; at = session.at; member = no_stranger c has d.member; marked = d.marked; number = d.n_is ∙ head.1; part = refl },
          with_inside c p (Some n) h (subst (λ x. SessionStands sealed signed hashed seed names f c x (record p { plan = Some n })) (sym d.session) (planned_session c p d.plan n d.n_is head.0 (subst IsRunning d.session running) session)),
        )
    fetch_answers (Err fault.Closed) d running = absurd d
    fetch_answers (Err fault.NotMember) d running = λ c p part has h.
        let session = inside_at sealed signed hashed seed names old.number f c old p s was h in
        (p, (refl, session.at.session, sym (role_here c has) ∙ none_of (role_at f.state.policy.0 old.number) d.1), same d.0 c p h)
    fetch_answers (Err fault.NoBranch) d running = λ c p part has h.
        let session = inside_at sealed signed hashed seed names old.number f c old p s was h in
        (p, (refl, no_stranger c has d.1, (plain s.journal, session.at, d.2)), same d.0 c p h)
    fetch_answers (Err (fault.BadFolder number)) d running = λ c p part has h. in_chain (λ seed c. ⊥) d.2 c p part has h
    fetch_answers (Err fault.Memory) d running = λ c p h. same d c p h

    -- what is in flight stays so
    waits_by : (plan : Option Plan) → t ≡ record s { plan = plan } → WaitsOn sealed hashed seed old new
    waits_by plan e =
        let y : Inside = record s { plan = plan } in
        record {
          sent = λ f request h x a is flies.
              let to : y ≡ x = sym e ∙ some_is t x is in
              let r = h s a was (ap (λ (z : Inside). z.aloft) to ∙ flies) in
              subst (λ z. IsRequestOf sealed hashed seed f request z a) to (record { few = r.few; within = r.within; cached = r.cached; holds = r.holds });
          answer = λ f answer h x a n is flies ok.
              let to : y ≡ x = sym e ∙ some_is t x is in
              let l = h s a n was (ap (λ (z : Inside). z.aloft) to ∙ flies) ok in
              subst (λ z. HasLanded sealed hashed seed f z a answer.hash) to (record { hash_is = l.hash_is; held = l.held });
        }

    pub fetch_waits : (r : Result ℕ FetchFault) → FetchDoes sealed signed hashed f old.number old.secret s t r → WaitsOn sealed hashed seed old new
    fetch_waits (Ok n) d = waits_by (Some d.plan) d.session
    fetch_waits (Err fault.Closed) d = absurd d
    fetch_waits (Err fault.NotMember) d = waits_by s.plan d.0
    fetch_waits (Err fault.NoBranch) d = waits_by s.plan d.0
    fetch_waits (Err (fault.BadFolder number)) d = waits_by s.plan d.0
    fetch_waits (Err fault.Memory) d = waits_by s.plan d

  -- a fetch of a session of the device with this number and secret
  pub fetches : (s t : Inside) (was : old.inside ≡ Some s) (d : ℕ) (secret : List ℕ) (number_is : old.number ≡ d) (secret_is : old.secret ≡ secret) (r : Result ℕ FetchFault) → FetchDoes sealed signed hashed f d secret s t r → IsRunning t
      → FetchAnswers sealed signed hashed seed names f old (record old { inside = Some t }) r × WaitsOn sealed hashed seed old (record old { inside = Some t })
  fetches s t was d secret number_is secret_is r does running =
      let did : FetchDoes sealed signed hashed f old.number old.secret s t r = subst (λ n. FetchDoes sealed signed hashed f n old.secret s t r) (sym number_is) (subst (λ k. FetchDoes sealed signed hashed f d k s t r) (sym secret_is) does) in
      (fetch_answers s t was r did running, fetch_waits s t was r did)
