-- What stands at a folder stands on where one device more is registered there.
use Rattle.std.proofs.Common.{◌≡◌, ℕ, ◌+◌, ◌≤◌, false, List, Option, Some, None, subst, arith}
use Rattle.std.specs.Option.{MatchOption}
use Rattle.std.specs.FinMap.{get}
use Rattle.kb_edge.specs.declared.disk.Disk.{Ghosts}
use Rattle.kb_seal.specs.declared.sealer.Sealer.{Ghosts as Seals}
use Rattle.kb_blocks.specs.declared.hashing.BlockHash.{Ghosts as Hashes}
use Rattle.kb_keys.specs.declared.policy.Action.TheVariants as action
use Rattle.kb_keys.specs.Secrets.{device_secret}
use Rattle.kb_chain.specs.declared.states.FolderRequest.{FolderRequest}
use Rattle.kb_snap.specs.Chains.{Chain, Deed, Founded, Stepped, Merged, Rekeyed}
use Rattle.kb_snap.specs.Puts.{Ask}
use Rattle.kb_folder.specs.Chains.{Plain, Back, Names, Suits, Follows}
use Rattle.kb_folder.specs.Puts.{Held}
use Rattle.kb_folder.specs.Held.{registered_with}
use Rattle.kb_folder.specs.Lands.{FolderStands, Extends, IsRequestOf}
use Rattle.kb_folder.specs.Laws.{RegistersOne, StandsOnce}
use Rattle.kb_folder.specs.Goes.{HasChain, IsFor}
use Rattle.kb_snap.specs.Pointers.{Kept}
use Rattle.kb_device.specs.Remembering.{Remembers}
use Rattle.kb_device.specs.Inside.{Aloft, Plan, Inside}
use Rattle.kb_device.specs.Parts.{Part}
use Rattle.kb_device.specs.Waits.{Waiting, Nothing, Asked, Answered}
use Rattle.kb_device.specs.Stands as inner
use Rattle.kb_device.specs.Stands.{PlanStands, SessionStands, DeviceStands}
use Rattle.kb_device.specs.Caches.{Cache}
use Rattle.kb_device.specs.Noting.{Sent, AnswerStands}
use Rattle.kb_device.specs.declared.answers.PutAnswer.{PutAnswer}
use Rattle.kb_world.specs.Machine.{Member}
use Rattle.kb_world.specs.Standing.{WaitsFor, DeclaredStands}
use Rattle.kb_world.specs.declared.declared.Waiting as waits
use Rattle.kb_world.specs.declared.declared.Waiting.TheVariants as kept
use Rattle.kb_world.specs.declared.declared.Declared.{Declared}

-- ---- what may follow

suits_more : (registered : ℕ) (c : Back) (w : ℕ) (deed : Deed) → Suits registered c w deed → Suits (registered + 1) c w deed
suits_more registered c w Founded h = (h.0, let top = h.1 in omega (arith, top))
suits_more registered c w (Stepped ops) h = h
suits_more registered c w (Merged base rule ops) h = h
suits_more registered c w (Rekeyed action.Found who) h = h
suits_more registered c w (Rekeyed action.GrantWriter who) h = (h.0, let top = h.1 in omega (arith, top))
suits_more registered c w (Rekeyed action.GrantReader who) h = (h.0, let top = h.1 in omega (arith, top))
suits_more registered c w (Rekeyed action.Revoke who) h = h

follows_more : (registered : ℕ) (c : Back) (x : Plain) → Follows registered c x → Follows (registered + 1) c x
follows_more registered c x h = record { allowed = h.allowed; own = h.own; counts = h.counts; fits = h.fits; suits = suits_more registered c x.writer x.deed h.suits }

module _ (sealed signed : List ℕ → List ℕ → List ℕ) (hashed : List ℕ → List ℕ) (seed : List ℕ) (names : Names) (f : Held) where
  -- the folder with one device more
  abbrev pub with_one : Held
  with_one = registered_with f (device_secret seed (f.state.registered + 1))

  -- ---- a device's session

  remembers_one : (c : Chain) (known : ℕ) (hash : List ℕ) (generation : ℕ) (k : Kept) (cache : Cache) → Remembers sealed hashed seed f c known hash generation k cache → Remembers sealed hashed seed with_one c known hash generation k cache
  remembers_one c known hash generation k cache h = record { within = h.within; hash_is = h.hash_is; generation_is = h.generation_is; held = h.held }

  plan_one : (c : Chain) (known : ℕ) (x : Plan) → PlanStands sealed hashed seed f c known x → PlanStands sealed hashed seed with_one c known x
  plan_one c known x h = record { merged = h.merged; remembers = remembers_one c x.number x.hash x.generation x.kept x.cache h.remembers; ring = h.ring; base = h.base; ops = h.ops; plain = h.plain }

  session_one : (c : Chain) (s : Inside) (p : Part) → SessionStands sealed signed hashed seed names f c s p → SessionStands sealed signed hashed seed names with_one c s p
  session_one c s p h = record {
    at = h.at;
    running = h.running;
    base = h.base;
    shown = h.shown;
    role = h.role;
    remembers = remembers_one c s.journal.known s.journal.hash s.generation s.kept s.cache h.remembers;
    held = h.held;
    written = h.written;
    ring = h.ring;
    flight = h.flight;
    plan = h.plan;
    planned = λ x is. plan_one c s.journal.known x (h.planned x is);
  }

  device_one : (d : ℕ) (c : Chain) (v : inner.Member) (p : Part) → DeviceStands sealed signed hashed seed names d f c v p → DeviceStands sealed signed hashed seed names d with_one c v p
  device_one d c v p h = record {
    number = h.number;
    name = h.name;
    secret = h.secret;
    registered = (h.registered.0, let top = h.registered.1 in omega (arith, top));
    disk = h.disk;
    session = inside v.inside h.session;
  }
    where
      inside : (o : Option Inside) → MatchOption o (p.is_open ≡ false) (λ s. SessionStands sealed signed hashed seed names f c s p) → MatchOption o (p.is_open ≡ false) (λ s. SessionStands sealed signed hashed seed names with_one c s p)
      inside None h = h
      inside (Some s) h = session_one c s p h

  -- ---- what waits

  sent_one : (v : inner.Member) (request : FolderRequest) → Sent sealed hashed seed f request v → Sent sealed hashed seed with_one request v
  sent_one v request h = λ s a was flies. let r = h s a was flies in record { few = r.few; within = r.within; cached = r.cached; holds = r.holds }

  answer_one : (v : inner.Member) (answer : PutAnswer) → AnswerStands sealed hashed seed f v answer → AnswerStands sealed hashed seed with_one v answer
  answer_one v answer h = λ s a n was flies ok. let landed = h s a n was flies ok in record { hash_is = landed.hash_is; held = landed.held }

  extends_one : (c : Back) (request : FolderRequest) (x : Plain) → Extends sealed signed hashed seed names f c request x → Extends sealed signed hashed seed names with_one c request x
  extends_one c request x h = record { follows = follows_more f.state.registered c x h.follows; spells = h.spells; held = h.held; halves = h.halves }

  request_of_one : (c : Back) (request : FolderRequest) (x : Plain) (n : ℕ) → IsRequestOf sealed signed hashed seed names f c request x n → IsRequestOf sealed signed hashed seed names with_one c request x n
  request_of_one c request x n h = record {
    revision = h.revision;
    is = h.is;
    spelled = h.spelled;
    writer = h.writer;
    number_is = h.number_is;
    registered = (h.registered.0, let top = h.registered.1 in omega (arith, top));
    signature = h.signature;
    extends = λ allowed next. extends_one c request x (h.extends allowed next);
  }

  module _ (registers : RegistersOne sealed signed hashed) (once : StandsOnce sealed signed hashed) (room : f.state.registered + 1 ≤ 32) where
    -- the folder has the chain that it had
    pub chain_one : (c : Chain) → HasChain sealed signed hashed seed names f c → HasChain sealed signed hashed seed names with_one c
    chain_one c h = record { back = h.back; turned = h.turned; stands = registers seed names f h.back h.stands room; limit = h.limit }

    for_one : (c : Chain) (request : FolderRequest) (ask : Ask) → HasChain sealed signed hashed seed names f c → IsFor sealed signed hashed seed names f request ask → IsFor sealed signed hashed seed names with_one request ask
    for_one c request ask has h = record {
      within = h.within;
      own = λ back stands. (
          let grown = registers seed names f has.back has.stands room in
          let same : has.back ≡ back = once seed names with_one.state.registered (get f.blocks) f.revisions has.back back grown.stands stands.stands in
          subst (λ b. IsRequestOf sealed signed hashed seed names with_one b request ask.revision ask.number) same (request_of_one has.back request ask.revision ask.number (h.own has.back has.stands)));
    }

    waits_one : (c : Chain) (v : inner.Member) (k : waits.Waiting) (u : Waiting) → HasChain sealed signed hashed seed names f c → WaitsFor sealed signed hashed seed names f v k u → WaitsFor sealed signed hashed seed names with_one v k u
    waits_one c v kept.Nothing Nothing has h = tt
    waits_one c v (kept.Request request) (Asked ask) has h = (for_one c request ask has h.0, sent_one v request h.1)
    waits_one c v (kept.Answer answer) (Answered put) has h = (h.0, answer_one v answer h.1)
    waits_one c v kept.Nothing (Asked ask) has h = absurd h
    waits_one c v kept.Nothing (Answered put) has h = absurd h
    waits_one c v (kept.Request request) Nothing has h = absurd h
    waits_one c v (kept.Request request) (Answered put) has h = absurd h
    waits_one c v (kept.Answer answer) Nothing has h = absurd h
    waits_one c v (kept.Answer answer) (Asked ask) has h = absurd h

-- a declared device stands on
module _ {D S H : Type 0} {disks : Ghosts D} {sealers : Seals S} {hashes : Hashes H} (seed : List ℕ) (names : Names) (f : Held) (registers : RegistersOne sealers.sealed sealers.signed hashes.hashed) (once : StandsOnce sealers.sealed sealers.signed hashes.hashed) (room : f.state.registered + 1 ≤ 32) where
  pub declared_one : (d : ℕ) (c : Chain) (x : Declared D S H disks sealers hashes) (m : Member) → HasChain sealers.sealed sealers.signed hashes.hashed seed names f c → DeclaredStands seed names d f c x m
      → DeclaredStands seed names d (registered_with f (device_secret seed (f.state.registered + 1))) c x m
  declared_one d c x m has h = record {
    name = h.name;
    named = h.named;
    view = h.view;
    is = h.is;
    runs = h.runs;
    part = device_one sealers.sealed sealers.signed hashes.hashed seed names f d c h.view m.part h.part;
    waits = waits_one sealers.sealed sealers.signed hashes.hashed seed names f registers once room c h.view x.waiting m.waiting has h.waits;
    link = h.link;
    batch = h.batch;
  }
