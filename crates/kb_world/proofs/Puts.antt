-- A request that waits is put, and its answer waits then.
use Rattle.std.proofs.Common.{◌≡◌, ◌≢◌, ◌⊎◌, ℕ, zero, suc, ◌+◌, ◌-◌, ◌≤◌, ◌<◌, true, false, List, [], ◌∷◌, ◌++◌, length, drop, Option, Some, None, Result, Ok, Err, inl, inr, refl, sym, ap, ◌∙◌, subst, arith}
use Rattle.std.specs.Prelude.{slice_get, slice_set}
use Rattle.std.specs.Option.{option_map, ForSome}
use Rattle.sha2.specs.Sha256.{sha256}
use Rattle.kb_edge.specs.declared.disk.Disk.{Ghosts}
use Rattle.kb_seal.specs.declared.sealer.Sealer.{Ghosts as Seals}
use Rattle.kb_blocks.specs.declared.hashing.BlockHash.{Ghosts as Hashes}
use Rattle.kb_chain.specs.declared.states.FolderRequest.{FolderRequest}
use Rattle.kb_chain.specs.declared.states.PutRefusal.{PutRefusal}
use Rattle.kb_chain.specs.declared.states.PutRefusal.TheVariants as why
use Rattle.kb_device.specs.Answers as says
use Rattle.kb_snap.specs.Answers.{PutFault}
use Rattle.kb_snap.specs.Chains.{Chain, most_revisions}
use Rattle.kb_device.specs.Journals.{Journal}
use Rattle.kb_snap.specs.Lawful.{IsLawful, Extends}
use Rattle.kb_device.specs.Meets.{PartMeets, AskMeets, PutMeets, AnswerMeets, FlightMeets, IsStep}
use Rattle.kb_device.specs.Parts.{Flight, Part, closed}
use Rattle.kb_snap.specs.Puts.{Ask, IsNext, PutStep, LostPut}
use Rattle.kb_world.specs.Statements.{LandFault, ByLand}
use Rattle.kb_world.specs.Statements as statements
use Rattle.kb_device.specs.Waits.{Waiting, Nothing, Asked, Answered, WaitingMeets}
use Rattle.kb_world.specs.Machine.{Member, IsNotAsked, PutsAsk, LosesAsk, PutsNone, cut_off, landed}
use Rattle.kb_world.specs.Good.{MemberMeets}
use Rattle.kb_snap.proofs.Lists.{append_none}
use Rattle.kb_device.proofs.Sent.{sent_stays}
use Rattle.kb_device.proofs.PartSteps.{at_session, closed_part}
use Rattle.kb_device.proofs.Puts.{land_follows}
use Rattle.kb_device.proofs.Steps.{refused}
use Rattle.kb_folder.specs.Chains.{Names}
use Rattle.kb_folder.specs.Puts.{Held, Puts}
use Rattle.kb_folder.specs.Goes.{HasChain, IsFor, Means, Grows, PutsGo, PutsMean, RequestsStay}
use Rattle.kb_device.specs.Forms.{DeviceGoes, StandsLonger}
use Rattle.kb_device.specs.Inside.{Aloft, Inside}
use Rattle.kb_device.specs.Stands as inner
use Rattle.kb_device.specs.Stands.{DeviceStands}
use Rattle.kb_device.specs.Devices.{IsView, Runs}
use Rattle.kb_device.specs.Noting.{Sent, AnswerStands}
use Rattle.kb_device.specs.Links.{Answers, Carries, PutsOver}
use Rattle.kb_device.specs.declared.linked.CarryFault.TheVariants as carry
use Rattle.kb_device.specs.Answering.{SentLands, AnswersStay}
use Rattle.kb_device.specs.declared.answers.PutAnswer.{PutAnswer}
use Rattle.kb_device.proofs.Picks.{inside_at}
use Rattle.kb_world.specs.Putting.{lacks_memory}
use Rattle.kb_world.specs.Standing.{DeclaredStands, WaitsFor}
use Rattle.kb_world.specs.Turning.{IsLanding, LandSteps, LandTurns}
use Rattle.kb_world.specs.declared.declared.Declared.{Declared}
use Rattle.kb_world.specs.declared.declared.Waiting as waits
use Rattle.kb_world.specs.declared.declared.Waiting.TheVariants as kept
use Rattle.kb_world.specs.declared.replies.LandFault as code
use Rattle.kb_world.specs.declared.replies.LandFault.TheVariants as land

-- the chain stays or is followed by more
abbrev pub Grew : Chain → Chain → Type 0
Grew c c' = (more : Chain) × (c' ≡ c ++ more)

pub put_grew : (c : Chain) (ask : Ask) (answer : Result ℕ PutFault) (c' : Chain) → PutStep c ask answer c' → Grew c c'
put_grew c ask (Ok n) c' step = (ask.revision ∷ [], step.3)
put_grew c ask (Err fault) c' step = ([], refused c ask fault c' step ∙ sym (append_none c))

pub lost_grew : (c : Chain) (ask : Ask) (lost : Option (Result ℕ PutFault)) (c' : Chain) → LostPut c ask lost c' → Grew c c'
lost_grew c ask None c' step = ([], step ∙ sym (append_none c))
lost_grew c ask (Some answer) c' step = put_grew c ask answer c' step

-- what a put's answer is as that of a landing
abbrev pub landing_of : Result ℕ PutRefusal → Result ℕ code.LandFault
landing_of (Ok n) = Ok n
landing_of (Err refusal) = Err (land.ByFolder refusal)

is_landing : (put : Result ℕ PutRefusal) (answer : Result ℕ PutFault) → Means put answer → IsLanding (landing_of put) (landed answer)
is_landing (Ok n) answer means = ap landed means
is_landing (Err refusal) answer means = (answer, means, refl)

-- what a landing did where memory didn't run out
abbrev pub Landed : Result ℕ code.LandFault → ℕ → Chain → Member → Member → Chain → Type 0
Landed r d c m n c' = (told : Result ℕ LandFault) × IsLanding r told × ((PutsAsk c (ByLand told) m n c' ⊎ LosesAsk c (ByLand told) m n c') ⊎ ((c' ≡ c) × PutsNone (ByLand told) m n))

land_shape : (put : Result ℕ PutRefusal) (d : ℕ) (c : Chain) (m n : Member) (c' : Chain) → put ≢ Err why.Memory → Landed (landing_of put) d c m n c' → LandSteps (landing_of put) d c m n c'
land_shape (Ok number) d c m n c' some h = h
land_shape (Err why.BadRevision) d c m n c' some h = h
land_shape (Err why.NotWriter) d c m n c' some h = h
land_shape (Err why.BadSignature) d c m n c' some h = h
land_shape (Err (why.Stale len head)) d c m n c' some h = h
land_shape (Err (why.SeqGap expected)) d c m n c' some h = h
land_shape (Err why.BadFit) d c m n c' some h = h
land_shape (Err why.ChainEnd) d c m n c' some h = h
land_shape (Err (why.Collision id)) d c m n c' some h = h
land_shape (Err why.Memory) d c m n c' some h = absurd (some refl)

pub lacking : (put : Result ℕ PutRefusal) → lacks_memory put ≡ true → put ≡ Err why.Memory
lacking (Ok n) e = cc
lacking (Err why.BadRevision) e = cc
lacking (Err why.NotWriter) e = cc
lacking (Err why.BadSignature) e = cc
lacking (Err (why.Stale len head)) e = cc
lacking (Err (why.SeqGap expected)) e = cc
lacking (Err why.BadFit) e = cc
lacking (Err why.ChainEnd) e = cc
lacking (Err (why.Collision id)) e = cc
lacking (Err why.Memory) e = refl

pub not_lacking : (put : Result ℕ PutRefusal) → lacks_memory put ≡ false → put ≢ Err why.Memory
not_lacking put e is = let no_ : true ≡ false = ap lacks_memory (sym is) ∙ e in cc

-- what was taken was taken under its own number
taken_number : (c c' : Chain) (ask : Ask) (put : Result ℕ PutRefusal) (answer : Result ℕ PutFault) (n : ℕ) → Means put answer → PutStep c ask answer c' → put ≡ Ok n → n ≡ ask.number
taken_number c c' ask put answer n means step ok =
    let is : answer ≡ Ok n = subst (λ r. Means r answer) ok means in
    let taken : PutStep c ask (Ok n) c' = subst (λ r. PutStep c ask r c') is step in
    taken.2

flight_once : (p : Part) (a b : Flight) → p.flight ≡ Some a → p.flight ≡ Some b → a ≡ b
flight_once p a b one other = cc

-- something is left behind so many
left_behind : (k : ℕ) (c : Chain) (rest : ℕ) → length (drop k c) ≡ suc rest → k < length c
left_behind zero [] rest e = absurd (omega (arith, e))
left_behind zero (x ∷ c) rest e = omega arith
left_behind (suc k) [] rest e = absurd (omega (arith, e))
left_behind (suc k) (x ∷ c) rest e = let lt = left_behind k c rest e in omega (arith, lt)

-- a flight that landed is within the chain
number_within : (d : ℕ) (c : Chain) (j : Journal) (flight : Flight) (n : ℕ) → FlightMeets d c j (Some flight) → AnswerMeets d c j flight (Ok n) → flight.number ≤ length c
number_within d c j flight n flying answer =
    let lt = left_behind j.known c (length answer.1.rest) (ap length answer.1.split) in
    let is = flying.number in
    omega (arith, lt, is)

module _ (sealed signed : List ℕ → List ℕ → List ℕ) (hashed : List ℕ → List ℕ) (seed : List ℕ) (names : Names) where
  abbrev DS : ℕ → Held → Chain → inner.Member → Part → Type 0
  DS d f c v p = DeviceStands sealed signed hashed seed names d f c v p

  -- the flight of a session that the device is in
  flight_at : (d : ℕ) (f : Held) (c : Chain) (v : inner.Member) (p : Part) (s : Inside) (a : Aloft) → DS d f c v p → v.inside ≡ Some s → s.aloft ≡ Some a → p.flight ≡ Some a.flight
  flight_at d f c v p s a h was flies = (inside_at sealed signed hashed seed names d f c v p s was h).flight ∙ ap (option_map (λ (b : Aloft). b.flight)) flies

  -- what a request that is kept waits for
  asked_by : (f : Held) (v : inner.Member) (k : waits.Waiting) (request : FolderRequest) (u : Waiting) → k ≡ kept.Request request → WaitsFor sealed signed hashed seed names f v k u → (ask : Ask) × (u ≡ Asked ask) × IsFor sealed signed hashed seed names f request ask × Sent sealed hashed seed f request v
  asked_by f v k request u is h = by u (subst (λ l. WaitsFor sealed signed hashed seed names f v l u) is h) where
    by : (u : Waiting) → WaitsFor sealed signed hashed seed names f v (kept.Request request) u → (ask : Ask) × (u ≡ Asked ask) × IsFor sealed signed hashed seed names f request ask × Sent sealed hashed seed f request v
    by Nothing h = absurd h
    by (Asked ask) h = (ask, refl, h.0, h.1)
    by (Answered put) h = absurd h

  pub unasked : (f : Held) (v : inner.Member) (k : waits.Waiting) (u : Waiting) → ((request : FolderRequest) → k ≡ kept.Request request → ⊥) → WaitsFor sealed signed hashed seed names f v k u → IsNotAsked u
  unasked f v k Nothing other h = tt
  unasked f v kept.Nothing (Asked ask) other h = h
  unasked f v (kept.Request request) (Asked ask) other h = other request refl
  unasked f v (kept.Answer answer) (Asked ask) other h = h
  unasked f v k (Answered put) other h = tt

  -- a flight whose put was taken is within the chain
  landed_within : (d : ℕ) (f : Held) (c : Chain) (v : inner.Member) (p : Part) (put : Result ℕ PutFault) (n : ℕ) → PartMeets d c p → PutMeets d c p put → put ≡ Ok n → DS d f c v p → (s : Inside) (a : Aloft) → v.inside ≡ Some s → s.aloft ≡ Some a → a.flight.number ≤ length c
  landed_within d f c v p put n part meets ok h s a was flies =
      let session = at_session d c p meets.journal part meets.at in
      let flying : FlightMeets d c meets.journal (Some meets.flight) = subst (FlightMeets d c meets.journal) meets.flight_is session.flight in
      let answer : AnswerMeets d c meets.journal meets.flight (Ok n) = subst (AnswerMeets d c meets.journal meets.flight) ok meets.answers in
      let same : meets.flight ≡ a.flight = flight_once p meets.flight a.flight meets.flight_is (flight_at d f c v p s a h was flies) in
      subst (λ (x : Flight). x.number ≤ length c) same (number_within d c meets.journal meets.flight n flying answer)

  module _ (f g : Held) (c c' : Chain) (grew : Grew c c') (grows : Grows f g) (has : HasChain sealed signed hashed seed names f c) (had : HasChain sealed signed hashed seed names g c')
      (longer : StandsLonger sealed signed hashed seed names) (request_stays : RequestsStay sealed signed hashed seed names) (answers_stay : AnswersStay sealed signed hashed seed names) where
    long : HasChain sealed signed hashed seed names g (c ++ grew.0)
    long = subst (HasChain sealed signed hashed seed names g) grew.1 had

    device_longer : (d : ℕ) (v : inner.Member) (p : Part) → PartMeets d c p → DS d f c v p → DS d g c' v p
    device_longer d v p part h = subst (λ l. DS d g l v p) (sym grew.1) (longer d f g c grew.0 v p grows has long part h)

    -- an answer that waits stays one
    answer_longer : (d : ℕ) (v : inner.Member) (p : Part) (answer : PutAnswer) (put : Result ℕ PutFault) → PartMeets d c p → PutMeets d c p put → Means answer.number put → DS d f c v p → AnswerStands sealed hashed seed f v answer → AnswerStands sealed hashed seed g v answer
    answer_longer d v p answer put part meets means h stands = by answer.number refl where
      by : (r : Result ℕ PutRefusal) → answer.number ≡ r → AnswerStands sealed hashed seed g v answer
      by (Ok n) ok =
          let told : put ≡ Ok n = subst (λ r. Means r put) ok means in
          answers_stay f g c v answer grows has stands (landed_within d f c v p put n part meets told h)
      by (Err refusal) no_ = λ s a n was flies ok. absurd (let e : Err refusal ≡ Ok n = sym no_ ∙ ok in cc)

    waits_longer : (d : ℕ) (name : List ℕ) (v : inner.Member) (p : Part) (k : waits.Waiting) (u : Waiting) → PartMeets d c p → WaitingMeets d c name p u → DS d f c v p → WaitsFor sealed signed hashed seed names f v k u → WaitsFor sealed signed hashed seed names g v k u
    waits_longer d name v p kept.Nothing Nothing part meets h stands = tt
    waits_longer d name v p (kept.Request request) (Asked ask) part meets h stands = (request_stays f g c grew.0 request ask grows has long stands.0, sent_stays sealed signed hashed seed names f g v request grows stands.1)
    waits_longer d name v p (kept.Answer answer) (Answered put) part meets h stands = (stands.0, answer_longer d v p answer put part meets stands.0 h stands.1)
    waits_longer d name v p kept.Nothing (Asked ask) part meets h stands = absurd stands
    waits_longer d name v p kept.Nothing (Answered put) part meets h stands = absurd stands
    waits_longer d name v p (kept.Request request) Nothing part meets h stands = absurd stands
    waits_longer d name v p (kept.Request request) (Answered put) part meets h stands = absurd stands
    waits_longer d name v p (kept.Answer answer) Nothing part meets h stands = absurd stands
    waits_longer d name v p (kept.Answer answer) (Asked ask) part meets h stands = absurd stands

module _ {D S H : Type 0} {disks : Ghosts D} {sealers : Seals S} {hashes : Hashes H} (seed : List ℕ) (names : Names) where
  -- a declared device stands on while the folder grows
  pub declared_longer : (f g : Held) (c c' : Chain) → Grew c c' → Grows f g → HasChain sealers.sealed sealers.signed hashes.hashed seed names f c → HasChain sealers.sealed sealers.signed hashes.hashed seed names g c'
      → StandsLonger sealers.sealed sealers.signed hashes.hashed seed names → RequestsStay sealers.sealed sealers.signed hashes.hashed seed names → AnswersStay sealers.sealed sealers.signed hashes.hashed seed names
      → (d : ℕ) (x : Declared D S H disks sealers hashes) (m : Member) → MemberMeets d c m → DeclaredStands seed names d f c x m → DeclaredStands seed names d g c' x m
  declared_longer f g c c' grew grows has had longer request_stays answers_stay d x m meets h = record {
    name = h.name;
    named = h.named;
    view = h.view;
    is = h.is;
    runs = h.runs;
    part = device_longer sealers.sealed sealers.signed hashes.hashed seed names f g c c' grew grows has had longer request_stays answers_stay d h.view m.part meets.part h.part;
    waits = waits_longer sealers.sealed sealers.signed hashes.hashed seed names f g c c' grew grows has had longer request_stays answers_stay d m.name h.view m.part x.waiting m.waiting meets.part meets.waiting h.part h.waits;
    link = h.link;
    batch = h.batch;
  }

  module _ (f g : Held) (x y : Declared D S H disks sealers hashes) (name : y.name ≡ x.name)
      (goes : PutsGo sealers.sealed sealers.signed hashes.hashed seed names) (means : PutsMean sealers.sealed sealers.signed hashes.hashed seed names)
      (longer : StandsLonger sealers.sealed sealers.signed hashes.hashed seed names) (request_stays : RequestsStay sealers.sealed sealers.signed hashes.hashed seed names) (answers_stay : AnswersStay sealers.sealed sealers.signed hashes.hashed seed names)
      (d : ℕ) (c : Chain) (m : Member) (lawful : IsLawful c) (meets : MemberMeets d c m) (has : HasChain sealers.sealed sealers.signed hashes.hashed seed names f c) (h : DeclaredStands seed names d f c x m)
      (request : FolderRequest) (was : x.waiting ≡ kept.Request request) where
    asked : (ask : Ask) × (m.waiting ≡ Asked ask) × IsFor sealers.sealed sealers.signed hashes.hashed seed names f request ask × Sent sealers.sealed hashes.hashed seed f request h.view
    asked = asked_by sealers.sealed sealers.signed hashes.hashed seed names f h.view x.waiting request m.waiting was h.waits

    abbrev ask : Ask
    ask = asked.0

    asks : AskMeets d c m.name m.part ask
    asks = subst (WaitingMeets d c m.name m.part) asked.1 meets.waiting

    -- the folder's put is the machine's
    record Gone (put : Result ℕ PutRefusal) : Type 0 where
      answer : Result ℕ PutFault
      told : Means put answer
      chain : Chain
      step : PutStep c ask answer chain
      grown : Grows f g
      had : HasChain sealers.sealed sealers.signed hashes.hashed seed names g chain

    gone : (put : Result ℕ PutRefusal) → Answers sealers.signed hashes.hashed f request g put → Gone put
    gone put made =
        let extends : Extends c ask = λ next room. land_follows d c m.name m.part ask meets.part asks next room in
        let told = means f g c request ask put has asked.2 made.0 made.1 in
        let to = goes f g request put told.0 made.0 told.1 c ask lawful extends has asked.2 in
        record { answer = told.0; told = told.1; chain = to.0; step = to.1; grown = to.2; had = to.3 }

    -- the request is put, and its answer comes back
    pub puts_request : SentLands sealers.sealed sealers.signed hashes.hashed seed names → (answer : PutAnswer) → Answers sealers.signed hashes.hashed f request g answer.number → Carries (Some x.link.armed) (Some y.link.armed) → answer.hash ≡ sha256 request.revision
        → y.device ≡ x.device → y.waiting ≡ kept.Answer answer
        → (n : Member) × (c' : Chain) × LandSteps (landing_of answer.number) d c m n c' × HasChain sealers.sealed sealers.signed hashes.hashed seed names g c' × Grows f g × DeclaredStands seed names d g c' y n
    puts_request lands answer made carries hash device waiting =
        let put = answer.number in
        let to = gone put made in
        let c' = to.chain in
        let grew = put_grew c ask to.answer c' to.step in
        let n : Member = record m { waiting = Answered to.answer } in
        let part = device_longer sealers.sealed sealers.signed hashes.hashed seed names f g c c' grew to.grown has to.had longer request_stays answers_stay d h.view m.part meets.part h.part in
        let number : (s : Inside) (a : Aloft) (k : ℕ) → h.view.inside ≡ Some s → s.aloft ≡ Some a → put ≡ Ok k → k ≡ a.flight.number =
        λ s a k is flies ok.
        taken_number c c' ask put to.answer k to.told to.step ok ∙ ap (λ (q : Ask). q.number) asks.ask_is
        ∙ ap (λ (q : Flight). q.number) (flight_once m.part asks.flight a.flight asks.flight_is (flight_at sealers.sealed sealers.signed hashes.hashed seed names d f c h.view m.part s a h.part is flies)) in
        let stands = lands d f g c h.view m.part request answer has h.part asked.3 made.0 hash number in (
          n,
          c',
          land_shape put d c m n c' made.1 (landed to.answer, is_landing put to.answer to.told, inl (inl (record { ask = ask; waits = asked.1; carried = h.link ∙ carries.0; answer = to.answer; step = to.step; reply_is = refl; member = refl }))),
          to.had,
          to.grown,
          record {
            name = name ∙ h.name;
            named = h.named;
            view = h.view;
            is = subst (λ e. IsView e h.view) (sym device) h.is;
            runs = subst (λ e. ForSome e.session (Runs e.number)) (sym device) h.runs;
            part = part;
            waits = subst (λ k. WaitsFor sealers.sealed sealers.signed hashes.hashed seed names g h.view k (Answered to.answer)) (sym waiting) (to.told, stands);
            link = h.link ∙ carries.0 ∙ sym carries.1;
            batch = h.batch;
          },
        )

    -- the request is lost, or its answer, and the device leaves
    module _ (w : inner.Member) (is : IsView y.device w) (runs : ForSome y.device.session (Runs y.device.number)) (leaves : DeviceGoes sealers.sealed sealers.signed hashes.hashed seed names h.view.number h.view w (λ p q. q ≡ closed p)) (waiting : y.waiting ≡ kept.Nothing) where
      left : DeviceStands sealers.sealed sealers.signed hashes.hashed seed names d f c w (closed m.part)
      left =
          let goes : DeviceGoes sealers.sealed sealers.signed hashes.hashed seed names d h.view w (λ p q. q ≡ closed p) = subst (λ k. DeviceGoes sealers.sealed sealers.signed hashes.hashed seed names k h.view w (λ p q. q ≡ closed p)) h.part.number leaves in
          let to = goes f c m.part meets.part has h.part in
          subst (λ q. DeviceStands sealers.sealed sealers.signed hashes.hashed seed names d f c w q) to.1 to.2

      gone_off : (c' : Chain) → y.link.armed ≡ None → DeviceStands sealers.sealed sealers.signed hashes.hashed seed names d g c' w (closed m.part) → DeclaredStands seed names d g c' y (cut_off m)
      gone_off c' unarmed part = record {
        name = name ∙ h.name;
        named = h.named;
        view = w;
        is = is;
        runs = runs;
        part = part;
        waits = subst (λ k. WaitsFor sealers.sealed sealers.signed hashes.hashed seed names g w k Nothing) (sym waiting) tt;
        link = sym unarmed;
        batch = h.batch;
      }

      pub loses_request : PutsOver sealers.signed hashes.hashed f request g (Some x.link.armed) (Some y.link.armed) (Err carry.Lost)
          → (n : Member) × (c' : Chain) × LandSteps (Err land.LinkFault) d c m n c' × HasChain sealers.sealed sealers.signed hashes.hashed seed names g c' × Grows f g × DeclaredStands seed names d g c' y n
      loses_request (inl lost) = (
        cut_off m,
        c,
        (Err (statements.LinkFault None), (None, refl), inl (inr (record { ask = ask; waits = asked.1; lost = None; side = h.link ∙ lost.1.0; step = refl; reply_is = refl; member = refl }))),
        subst (λ (e : Held). HasChain sealers.sealed sealers.signed hashes.hashed seed names e c) (sym lost.0) has,
        inl lost.0,
        gone_off c lost.1.1 (subst (λ (e : Held). DeviceStands sealers.sealed sealers.signed hashes.hashed seed names d e c w (closed m.part)) (sym lost.0) left),
      )
      loses_request (inr lost) =
          let to = gone lost.0 lost.1 in
          let c' = to.chain in
          let grew = put_grew c ask to.answer c' to.step in (
            cut_off m,
            c',
            (Err (statements.LinkFault (Some to.answer)), (Some to.answer, refl), inl (inr (record { ask = ask; waits = asked.1; lost = Some to.answer; side = h.link ∙ lost.2.0; step = to.step; reply_is = refl; member = refl }))),
            to.had,
            to.grown,
            gone_off c' lost.2.1 (device_longer sealers.sealed sealers.signed hashes.hashed seed names f g c c' grew to.grown has to.had longer request_stays answers_stay d w (closed m.part) (closed_part d c m.part meets.part) left),
          )

  -- no request waits
  pub puts_none : (f : Held) (x : Declared D S H disks sealers hashes) (d : ℕ) (c : Chain) (m : Member) → HasChain sealers.sealed sealers.signed hashes.hashed seed names f c → DeclaredStands seed names d f c x m → ((request : FolderRequest) → x.waiting ≡ kept.Request request → ⊥)
      → (n : Member) × (c' : Chain) × LandSteps (Err land.NoFlight) d c m n c' × HasChain sealers.sealed sealers.signed hashes.hashed seed names f c' × Grows f f × DeclaredStands seed names d f c' x n
  puts_none f x d c m has h other =
      (m, c, (Err statements.NoFlight, refl, inr (refl, record { none = unasked sealers.sealed sealers.signed hashes.hashed seed names f h.view x.waiting m.waiting other h.waits; reply_is = refl; member = refl })), has, inl refl, h)

  -- memory ran out
  pub puts_lack : (f g : Held) (x y : Declared D S H disks sealers hashes) (d : ℕ) (c : Chain) (m : Member) → g ≡ f → y.name ≡ x.name → y.device ≡ x.device → y.waiting ≡ x.waiting → y.link.armed ≡ x.link.armed
      → HasChain sealers.sealed sealers.signed hashes.hashed seed names f c → DeclaredStands seed names d f c x m
      → (n : Member) × (c' : Chain) × LandSteps (Err (land.ByFolder why.Memory)) d c m n c' × HasChain sealers.sealed sealers.signed hashes.hashed seed names g c' × Grows f g × DeclaredStands seed names d g c' y n
  puts_lack f g x y d c m same name device waiting linked has h =
      let here : DeclaredStands seed names d f c y m = record {
        name = name ∙ h.name;
        named = h.named;
        view = h.view;
        is = subst (λ e. IsView e h.view) (sym device) h.is;
        runs = subst (λ e. ForSome e.session (Runs e.number)) (sym device) h.runs;
        part = h.part;
        waits = subst (λ k. WaitsFor sealers.sealed sealers.signed hashes.hashed seed names f h.view k m.waiting) (sym waiting) h.waits;
        link = h.link ∙ sym linked;
        batch = h.batch;
      } in
      (m, c, (refl, refl), subst (λ e. HasChain sealers.sealed sealers.signed hashes.hashed seed names e c) (sym same) has, inl same, subst (λ e. DeclaredStands seed names d e c y m) (sym same) here)
