-- A new device, one that is armed, one whose power is cut, one whose session ends, and what an open one shows and tells.
use Rattle.std.proofs.Common.{◌≡◌, ℕ, ◌≤◌, false, Bool, not, List, length, Option, None, Some, is_some, Result, Ok, Err, MatchOption, inl, refl, sym, ap, subst, ◌∙◌, arith}
use Rattle.std.specs.Prelude.{replicate, slice_index}
use Rattle.std.specs.Option.{option_map}
use Rattle.std.proofs.lemmas.List.{ext_get_or, length-replicate}
use Rattle.kb_edge.specs.Disk.{MayLeave}
use Rattle.kb_edge.specs.declared.disk.Disk.{Ghosts}
use Rattle.kb_seal.specs.declared.sealer.Sealer.{Ghosts as Seals}
use Rattle.kb_blocks.specs.declared.hashing.BlockHash.{Ghosts as Hashes}
use Rattle.kb_log.specs.LogList.{area_size}
use Rattle.kb_log.specs.Steps.{IsClean}
use Rattle.kb_ops.specs.declared.requests.Show.{Show}
use Rattle.kb_ops.specs.declared.requests.Shown.{Shown}
use Rattle.kb_apply.specs.Shows.{shown_of}
use Rattle.kb_journal.specs.State.{HasState, empty}
use Rattle.kb_journal.proofs.Zeros.{zeros_state}
use Rattle.kb_snap.specs.Chains.{Chain}
use Rattle.kb_device.specs.Disks.{IsKept}
use Rattle.kb_device.specs.Journals.{plain}
use Rattle.kb_device.specs.Parts.{Part, new_part, armed, powered, closed, status_of}
use Rattle.kb_folder.specs.Chains.{Names}
use Rattle.kb_folder.specs.Stands.{Revisions}
use Rattle.kb_folder.specs.Puts.{Held}
use Rattle.kb_device.specs.Fresh.{IsOwned}
use Rattle.kb_device.specs.Inside.{Inside, IsRunning}
use Rattle.kb_device.specs.Stands.{Platter, Member, hashes_of, DiskStands, SessionStands, DeviceStands}
use Rattle.kb_device.specs.Forms.{DeviceGoes}
use Rattle.kb_device.specs.Views.{inside, platter}
use Rattle.kb_device.specs.Devices.{disk_in, rested, Runs, IsView}
use Rattle.kb_device.specs.Serving.{IsArmed, IsCut, Changes, IsNew, WaitsOn}
use Rattle.kb_device.specs.Telling.{told_status, status_in, TellAnswers, LookAnswers, IsShown}
use Rattle.kb_device.specs.declared.called.Status.{Status}
use Rattle.kb_device.specs.declared.called.LookFault.{LookFault}
use Rattle.kb_device.specs.declared.called.LookFault.TheVariants as fault
use Rattle.kb_device.specs.declared.session.Session.{Session}
use Rattle.kb_device.specs.declared.device.Device.{Device}
use Rattle.kb_device.proofs.Longer.{closed_longer}
use Rattle.kb_device.proofs.Picks.{inside_at, closed_at}
use Rattle.kb_device.proofs.Views.{rest_view}

-- a session that is the same as plain values goes on
pub runs_same : {D H : Type 0} (d : ℕ) (s t : Session D H) → Runs d s → inside t ≡ inside s → t.journal.is_open ≡ s.journal.is_open → (x : Session D H) → Some t ≡ Some x → Runs d x
runs_same d s t r same opened x is = (let e : t ≡ x = cc in subst (Runs d) e (record { running = subst IsRunning (sym same) r.running; owned = subst (IsOwned d) (sym same) r.owned; opened = opened ∙ r.opened }))

-- ---- disks

-- the one image of bytes of which none is dirty
only_image : (now image : List ℕ) (dirty : ℕ → Bool) → MayLeave now dirty image → IsClean dirty → image ≡ now
only_image now image dirty may clean = ext_get_or 0 image now may.size (λ place lt. may.kept place (clean place))

arms : (bs : Revisions) (old now : Platter) (p : Part) (steps : ℕ) → DiskStands bs old p → IsArmed steps old now → DiskStands bs now (armed steps p)
arms bs old now p steps stands h = record {
  images = λ image may. stands.images image (record {
    size = may.size ∙ ap length h.content;
    kept = λ place clean. may.kept place (h.dirty place ∙ clean) ∙ ap (λ l. slice_index l place) h.content;
  });
  area = stands.area ∙ ap (λ l. area_size (length l)) (sym h.content);
  left = sym h.left;
}

cuts : (bs : Revisions) (old now : Platter) (p : Part) → DiskStands bs old p → IsCut old now → DiskStands bs now (powered p)
cuts bs old now p stands h = record {
  images = λ image may. subst (IsKept (hashes_of bs) p.may) (sym (only_image now.content image now.dirty may h.clean)) (stands.images now.content h.image);
  area = stands.area ∙ ap area_size (sym h.image.size);
  left = sym h.left;
}

zeros : (bs : Revisions) (disk : Platter) (size : ℕ) → 4096 ≤ size → disk.content ≡ replicate size 0 → IsClean disk.dirty → disk.left ≡ None → DiskStands bs disk (new_part size)
zeros bs disk size low content clean left = record {
  images = λ image may. record {
    state = empty;
    has = subst (HasState empty) (sym (only_image disk.content image disk.dirty may clean ∙ content)) (zeros_state size low);
    one_of = (0, omega arith, refl);
    hash = refl;
  };
  area = ap area_size (sym (ap length content ∙ length-replicate size 0));
  left = sym left;
}

module _ (sealed signed : List ℕ → List ℕ → List ℕ) (hashed : List ℕ → List ℕ) (seed : List ℕ) (names : Names) where
  -- a device with a new disk
  pub new_stands : (f : Held) (c : Chain) (v : Member) (size : ℕ) → v.inside ≡ None → IsNew seed names f v size → DeviceStands sealed signed hashed seed names v.number f c v (new_part size)
  new_stands f c v size none h = record {
    number = refl;
    name = h.named;
    secret = h.own;
    registered = h.registered;
    disk = zeros f.revisions v.disk size h.low h.zeros h.clean h.lasts;
    session = subst (λ o. MatchOption o ((new_part size).is_open ≡ false) (λ s. SessionStands sealed signed hashed seed names f c s (new_part size))) (sym none) refl;
  }

  armed_session : (f : Held) (c : Chain) (p : Part) (steps : ℕ) (o : Option Inside) → MatchOption o (p.is_open ≡ false) (λ s. SessionStands sealed signed hashed seed names f c s p)
      → MatchOption o ((armed steps p).is_open ≡ false) (λ s. SessionStands sealed signed hashed seed names f c s (armed steps p))
  armed_session f c p steps None h = h
  armed_session f c p steps (Some s) h = record {
    at = record { session = h.at.session; journal_is = h.at.journal_is };
    running = h.running;
    base = h.base;
    shown = h.shown;
    role = h.role;
    remembers = h.remembers;
    held = h.held;
    written = h.written;
    ring = h.ring;
    flight = h.flight;
    plan = h.plan;
    planned = h.planned;
  }

  arms_go : (v : Member) (now : Platter) (steps : ℕ) → IsArmed steps v.disk now → DeviceGoes sealed signed hashed seed names v.number v (record v { disk = now }) (λ p q. q ≡ armed steps p)
  arms_go v now steps h f c p part has stands = (
    armed steps p,
    refl,
    record {
      number = stands.number;
      name = stands.name;
      secret = stands.secret;
      registered = stands.registered;
      disk = arms f.revisions v.disk now p steps stands.disk h;
      session = armed_session f c p steps v.inside stands.session;
    },
  )

  cuts_go : (v : Member) (now : Platter) → IsCut v.disk now → DeviceGoes sealed signed hashed seed names v.number v (record v { disk = now; inside = None }) (λ p q. q ≡ powered p)
  cuts_go v now h f c p part has stands = (
    powered p,
    refl,
    record {
      number = stands.number;
      name = stands.name;
      secret = stands.secret;
      registered = stands.registered;
      disk = cuts f.revisions v.disk now p stands.disk h;
      session = refl;
    },
  )

  leaves_go : (v : Member) (now : Platter) → now ≡ v.disk → DeviceGoes sealed signed hashed seed names v.number v (record v { disk = now; inside = None }) (λ p q. q ≡ closed p)
  leaves_go v now same f c p part has stands = (closed p, refl, closed_longer sealed signed hashed seed names v.number f f c c p (inl refl) has part c v now same stands)

  -- ---- devices of the program

  changed : {D : Type 0} (R : D → D → Type 0) (a b : Option D) (disk : D) → Changes R a b → a ≡ Some disk → (now : D) × (b ≡ Some now) × R disk now
  changed R None b disk h is = cc
  changed R (Some x) None disk h is = absurd h
  changed {D} R (Some x) (Some y) disk h is = let same : x ≡ disk = cc in (y, refl, subst (λ (z : D). R z y) same h)

  rest_is : {D H : Type 0} (resting : Option D) (session : Option (Session D H)) (disk : D) → session ≡ None → disk_in resting session ≡ Some disk → resting ≡ Some disk
  rest_is (Some x) session disk none has = has
  rest_is None None disk none has = cc
  rest_is None (Some s) disk none has = cc

  rested_is : {D H : Type 0} (resting : Option D) (session : Option (Session D H)) (disk : D) → is_some resting ≡ not (is_some session) → disk_in resting session ≡ Some disk → rested session resting ≡ Some disk
  rested_is (Some x) None disk one has = has
  rested_is None (Some s) disk one has = has
  rested_is (Some x) (Some s) disk one has = cc
  rested_is None None disk one has = cc

  module _ {D S H : Type 0} {disks : Ghosts D} {sealers : Seals S} {hashes : Hashes H} (old new : Device D S H disks sealers hashes) (number : new.number ≡ old.number) (name : new.name ≡ old.name) (secret : new.secret ≡ old.secret) where
    abbrev pub Fuses : ℕ → Member → Member → Type 0
    Fuses steps v w = DeviceGoes sealed signed hashed seed names v.number v w (λ p q. q ≡ armed steps p) × WaitsOn sealed hashed seed v w

    armed_view : (v : Member) (steps : ℕ) (was is : D) → disk_in old.resting old.session ≡ Some was → disk_in new.resting new.session ≡ Some is → option_map inside new.session ≡ option_map inside old.session → IsArmed steps (platter disks was) (platter disks is)
        → IsView old v → (w : Member) × IsView new w × Fuses steps v w
    armed_view v steps was is at at' same h view =
        let there : Some view.held ≡ Some was = sym view.has ∙ at in
        let held : view.held ≡ was = cc in
        let disk : v.disk ≡ platter disks was = view.disk ∙ ap (platter disks) held in (
          record v { disk = platter disks is },
          record {
            number = view.number ∙ sym number;
            name = view.name ∙ sym name;
            secret = view.secret ∙ sym secret;
            held = is;
            has = at';
            disk = refl;
            inside_is = view.inside_is ∙ sym same;
          },
          (arms_go v (platter disks is) steps (subst (λ (x : Platter). IsArmed steps x (platter disks is)) (sym disk) h), record { sent = λ f request h. h; answer = λ f answer h. h }),
        )

    pub fuses_session : (v : Member) (steps : ℕ) (s t : Session D H) → old.resting ≡ None → old.session ≡ Some s → new.resting ≡ None → new.session ≡ Some t → inside t ≡ inside s → IsArmed steps (platter disks s.journal.disk) (platter disks t.journal.disk)
        → IsView old v → (w : Member) × IsView new w × Fuses steps v w
    fuses_session v steps s t rests was rests' is same h view =
        armed_view v steps s.journal.disk t.journal.disk (λ i. disk_in (rests i) (was i)) (λ i. disk_in (rests' i) (is i)) (ap (option_map inside) is ∙ ap Some same ∙ ap (option_map inside) (sym was)) h view

    pub fuses_rest : (v : Member) (steps : ℕ) → old.session ≡ None → new.session ≡ None → Changes (λ was is. IsArmed steps (platter disks was) (platter disks is)) old.resting new.resting → IsView old v → (w : Member) × IsView new w × Fuses steps v w
    fuses_rest v steps none none' change view =
        let to = changed (λ was is. IsArmed steps (platter disks was) (platter disks is)) old.resting new.resting view.held change (rest_is old.resting old.session view.held none view.has) in
        armed_view v steps view.held to.0 view.has (ap (λ o. disk_in o new.session) to.1) (ap (option_map inside) (none' ∙ sym none)) to.2 view

    pub cut_off : (v : Member) (between : Option D) → is_some old.resting ≡ not (is_some old.session) → between ≡ rested old.session old.resting → new.session ≡ None → Changes (λ was is. IsCut (platter disks was) (platter disks is)) between new.resting → IsView old v
        → (w : Member) × IsView new w × DeviceGoes sealed signed hashed seed names v.number v w (λ p q. q ≡ powered p)
    cut_off v between one is none change view =
        let to = changed (λ was is. IsCut (platter disks was) (platter disks is)) between new.resting view.held change (is ∙ rested_is old.resting old.session view.held one view.has) in (
          record v { disk = platter disks to.0; inside = None },
          rest_view old new v to.0 number name secret to.1 none view,
          cuts_go v (platter disks to.0) (subst (λ (x : Platter). IsCut x (platter disks to.0)) (sym view.disk) to.2),
        )

    pub leaves : (v : Member) → is_some old.resting ≡ not (is_some old.session) → new.resting ≡ rested old.session old.resting → new.session ≡ None → IsView old v
        → (w : Member) × IsView new w × DeviceGoes sealed signed hashed seed names v.number v w (λ p q. q ≡ closed p)
    leaves v one is none view = (
      record v { disk = platter disks view.held; inside = None },
      rest_view old new v view.held number name secret (is ∙ rested_is old.resting old.session view.held one view.has) none view,
      leaves_go v (platter disks view.held) (sym view.disk),
    )

  -- ---- shows and status

  module _ (v : Member) (f : Held) (c : Chain) (p : Part) (h : DeviceStands sealed signed hashed seed names v.number f c v p) where
    pub closed_look : (show : Show) → v.inside ≡ None → LookAnswers p show (Err fault.Closed)
    closed_look show none = closed_at sealed signed hashed seed names v.number f c v p none h

    pub looks : (s : Inside) (show : Show) (r : Result Shown LookFault) → v.inside ≡ Some s → IsShown (shown_of s.shown show s.journal.known (length s.journal.queue)) r → LookAnswers p show r
    looks s show (Ok x) was is = (let session = inside_at sealed signed hashed seed names v.number f c v p s was h in (plain s.journal, session.at, ap (λ t. shown_of t show s.journal.known (length s.journal.queue)) (sym session.shown) ∙ is))
    looks s show (Err fault.Closed) was is = absurd is
    looks s show (Err (fault.ByShow why)) was is = (let session = inside_at sealed signed hashed seed names v.number f c v p s was h in (plain s.journal, session.at, ap (λ t. shown_of t show s.journal.known (length s.journal.queue)) (sym session.shown) ∙ is))
    looks s show (Err fault.Memory) was is = tt

    pub closed_tell : v.inside ≡ None → p.is_open ≡ false
    closed_tell none = closed_at sealed signed hashed seed names v.number f c v p none h

    pub tells : (s : Inside) (status : Status) → v.inside ≡ Some s → told_status status ≡ status_in s → TellAnswers p (Ok status)
    tells s status was is = (let session = inside_at sealed signed hashed seed names v.number f c v p s was h in (plain s.journal, session.at, is ∙ ap (λ o. status_of o (plain s.journal)) (sym session.flight)))
