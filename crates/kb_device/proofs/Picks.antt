-- What a pick does to a session is what the machine's pick does.
use Rattle.std.proofs.Common.{◌≡◌, ℕ, suc, ◌+◌, ◌-◌, ◌≤◌, Bool, true, false, cond, List, [], ◌∷◌, length, drop, take, min, Option, None, Some, Ok, MatchOption, inl, inr, refl, sym, ap, subst, ◌∙◌, arith}
use Rattle.std.specs.Option.{option_map}
use Rattle.std.specs.FinMap.{get}
use Rattle.std.proofs.lemmas.List.{take_all}
use Rattle.kb_name.specs.declared.ids.NodeId.{NodeId}
use Rattle.kb_ops.specs.declared.rows.Op.{Op}
use Rattle.kb_ops.specs.declared.rows.Change.{Change}
use Rattle.kb_ops.specs.declared.rows.Change.TheVariants.{Create, Remove, Rename, Sync, Exec, Touch}
use Rattle.kb_ops.specs.Trees.{Tree, look, fold_ops, apply, new_id}
use Rattle.kb_ops.specs.Plan.{is_below}
use Rattle.kb_blocks.specs.declared.pointer.Ptr.{Ptr}
use Rattle.kb_keys.specs.Rings.{Keys, key_at}
use Rattle.kb_keys.specs.Secrets.{device_secret, folder_key}
use Rattle.kb_files.specs.Opens.{Opens}
use Rattle.kb_snap.specs.Pointers.{Kept, AllHold}
use Rattle.kb_snap.specs.Chains.{Chain, tree_at}
use Rattle.kb_snap.specs.Members.{generation_from}
use Rattle.kb_device.specs.Journals.{Journal, plain}
use Rattle.kb_snap.specs.Lawful.{CountsFrom}
use Rattle.kb_device.specs.Parts.{Flight, Part, Picks as Picking, PickStep, flight_of, ask_of}
use Rattle.kb_snap.specs.Puts.{Ask}
use Rattle.kb_device.specs.Meets.{Meets, PartMeets}
use Rattle.kb_device.proofs.PartSteps.{at_journal}
use Rattle.kb_folder.specs.Chains.{Names}
use Rattle.kb_folder.specs.Stands.{Revisions, head_of, keys_to}
use Rattle.kb_folder.specs.Puts.{Held}
use Rattle.kb_folder.specs.Goes.{HasChain, IsFor}
use Rattle.kb_device.specs.Left.{left_of, left_from, left_way}
use Rattle.kb_device.specs.Knowing.{KnowsStep}
use Rattle.kb_device.specs.PicksFor.{PicksAreFor}
use Rattle.kb_device.specs.Remembering.{hash_at}
use Rattle.kb_device.specs.Stepping.{IsStepRequest}
use Rattle.kb_ranges.specs.Patches.{StaysIn}
use Rattle.kb_files.specs.Files.{Vault}
use Rattle.kb_device.specs.Caches.{Cache, known_in}
use Rattle.kb_device.specs.Patching.{IsOldOf, HasSize, Grounds}
use Rattle.kb_device.specs.declared.patching.OldFile.{OldFile}
use Rattle.kb_device.proofs.OldFiles.{old_within, was_over}
use Rattle.kb_device.proofs.Shared.{known_there, known_cached, known_taken, all_within}
use Rattle.kb_device.proofs.Beside.{done_sized}
use Rattle.kb_device.proofs.Touched.{leaves_hold}
use Rattle.kb_device.proofs.Step.{key_now}
use Rattle.kb_device.specs.Inside.{Aloft, Plan, Inside, IsRunning, HasDone}
use Rattle.kb_device.specs.Stands.{PlanStands, Member, RingStands, SessionStands, DeviceStands}
use Rattle.kb_device.specs.Forms.{PickGoes, DeviceStays}
use Rattle.kb_device.specs.Picking.{GoesAhead, Picks, with_flight, flight_in}
use Rattle.kb_device.specs.declared.answers.Picked.{Picked}
use Rattle.kb_device.proofs.Longer.{chain_length}

-- ---- the pointers that are left were there

from_within : (b : Bool) (old : Option Ptr) (x : Ptr) → cond b None old ≡ Some x → old ≡ Some x
from_within true old x e = cc
from_within false old x e = e

way_within : (t : Tree) (replaced : Option NodeId) (q : NodeId) (old : Option Ptr) (x : Ptr) → left_way t replaced q old ≡ Some x → old ≡ Some x
way_within t None q old x e = e
way_within t (Some gone) q old x e = from_within (is_below t q gone) old x e

left_within : (t : Tree) (change : Change) (q : NodeId) (old : Option Ptr) (x : Ptr) → left_of t change q old ≡ Some x → old ≡ Some x
left_within t (Create parent name kind bytes) q old x e = from_within (is_below t q parent) old x e
left_within t (Remove node) q old x e = from_within (is_below t q node) old x e
left_within t (Rename node parent name replaced) q old x e =
    from_within (is_below t q node) old x (from_within (is_below t q parent) (left_from t node q old) x (way_within t replaced q (left_from t parent q (left_from t node q old)) x e))
left_within t (Sync node offset bytes size) q old x e = from_within (is_below t q node) old x e
left_within t (Exec node on) q old x e = from_within (is_below t q node) old x e
left_within t (Touch node mtime) q old x e = from_within (is_below t q node) old x e

-- ---- the base table

-- the base table is ahead by the first operation
pub done_base : (op : Op) (rest : List Op) (known : Tree) (ahead ahead' : ℕ) (base base' : Tree) (kept kept' : Kept) (written written' : Option OldFile) → HasDone op ahead ahead' base base' kept kept' written written'
    → base ≡ fold_ops (take ahead (op ∷ rest)) known → base' ≡ fold_ops (op ∷ []) known
done_base op rest known ahead ahead' base base' kept kept' written written' d is = elim d.does [
  | inl (one, same, _, _) ↦ same ∙ is ∙ ap (λ n. fold_ops (take n (op ∷ rest)) known) one
  | inr (none, fits, does, _, _) ↦ does ∙ ap (apply op) (is ∙ ap (λ n. fold_ops (take n (op ∷ rest)) known) none)
]

-- pointers of rows of another tree stay so
done_kept : (vault : Vault) (t : Tree) (op : Op) (ahead ahead' : ℕ) (base base' : Tree) (kept kept' : Kept) (written written' : Option OldFile) → HasDone op ahead ahead' base base' kept kept' written written'
    → AllHold vault (look t) kept → AllHold vault (look t) kept'
done_kept vault t op ahead ahead' base base' kept kept' written written' d all = λ q x at. elim d.does [
  | inl (one, same, stay, _) ↦ all q x (stay q x at)
  | inr (none, fits, does, left, _) ↦ all q x (left_within base op.change q (get kept q) x (left q x at))
]

-- and those of rows of the base table are of rows of the new one
done_held : (vault : Vault) (op : Op) (ahead ahead' : ℕ) (base base' : Tree) (kept kept' : Kept) (written written' : Option OldFile) → HasDone op ahead ahead' base base' kept kept' written written'
    → AllHold vault (look base) kept → AllHold vault (look base') kept'
done_held vault op ahead ahead' base base' kept kept' written written' d all = elim d.does [
  | inl (one, same, stay, _) ↦ subst (λ t. AllHold vault (look t) kept') (sym same) (λ q x at. all q x (stay q x at))
  | inr (none, fits, does, left, _) ↦ subst (λ t. AllHold vault (look t) kept') (sym does) (leaves_hold vault base (new_id op) op.moment op.change kept kept' fits left all)
]

-- the file that it has written is held as it was
done_written : (vault : Vault) (op : Op) (ahead ahead' : ℕ) (base base' : Tree) (kept kept' : Kept) (written written' : Option OldFile) → HasDone op ahead ahead' base base' kept kept' written written'
    → AllHold vault (look base) kept → ((old : OldFile) → ahead ≡ 1 → written ≡ Some old → IsOldOf vault base op.change old) → (old : OldFile) → written' ≡ Some old → IsOldOf vault base' op.change old
done_written vault op ahead ahead' base base' kept kept' written written' d all was old is = elim d.does [
  | inl (one, same, stay, still) ↦ subst (λ t. IsOldOf vault t op.change old) (sym same) (was old one (sym still ∙ is))
  | inr (none, fits, does, left, at) ↦ subst (λ t. IsOldOf vault t op.change old) (sym does) (was_over vault base (new_id op) op.moment op.change kept old fits all (at old is))
]

-- the key of the last generation is the folder's
pub ring_key : (seed : List ℕ) (generation : ℕ) (ring : Keys) → RingStands seed generation ring → 1 ≤ generation → (key : List ℕ) → key_at ring generation ≡ Some key → key ≡ folder_key seed generation
ring_key seed generation ring stands low key is = let same : Some key ≡ Some (folder_key seed generation) = sym is ∙ stands generation ∙ key_now seed generation low in cc

-- ---- the head

pub head_known : (bs : Revisions) (known : ℕ) → known ≡ length bs → hash_at bs known ≡ head_of bs
head_known bs known e = ap (λ n. head_of (drop n bs)) (let none : length bs - known ≡ 0 = omega (arith, e) in none)

min_one : (op : Op) (rest queue : List Op) → queue ≡ op ∷ rest → min 1 (length queue) ≡ 1
min_one op rest queue e = let l : length queue ≡ suc (length rest) = ap length e in omega (arith, l)

module _ (sealed signed : List ℕ → List ℕ → List ℕ) (hashed : List ℕ → List ℕ) (seed : List ℕ) (names : Names) where
  -- what a request of the operation takes is held in blocks of the cache that the folder has too
  pub grounds_of : (f : Held) (c : Chain) (p : Part) (s t : Inside) (left : Kept) → SessionStands sealed signed hashed seed names f c s p → (g : GoesAhead s t) → HasDone g.op s.ahead t.ahead s.base t.base s.kept left s.written t.written → t.generation ≡ s.generation
      → Grounds sealed hashed (known_in s.cache (get f.blocks)) (keys_to seed t.generation) t.base left g.op.change t.written
  grounds_of f c p s t left h g done generation =
      let vault = Opens sealed hashed (known_in s.cache (get f.blocks)) (keys_to seed s.generation) in
      subst (λ n. Grounds sealed hashed (known_in s.cache (get f.blocks)) (keys_to seed n) t.base left g.op.change t.written) (sym generation) (record {
        rows = done_held vault g.op s.ahead t.ahead s.base t.base s.kept left s.written t.written done h.held;
        file = done_written vault g.op s.ahead t.ahead s.base t.base s.kept left s.written t.written done h.held (λ old one is. (h.written g.op g.rest old g.queue one is).0);
      })

  -- the file that it has written had its size in the tree of the known revision
  pub sized_of : (f : Held) (c : Chain) (p : Part) (s t : Inside) (left : Kept) → SessionStands sealed signed hashed seed names f c s p → (g : GoesAhead s t) → HasDone g.op s.ahead t.ahead s.base t.base s.kept left s.written t.written
      → (old : OldFile) → t.written ≡ Some old → HasSize p.base g.op.change old
  sized_of f c p s t left h g done old is =
      done_sized g.op p.base s.ahead t.ahead s.base t.base s.kept left s.written t.written done (λ none. h.base ∙ ap (λ n. fold_ops (take n s.journal.queue) p.base) none)
      (λ was one there. (h.written g.op g.rest was g.queue one there).1) old is

  -- a session whose base table went ahead stands for the part with its flight
  pub ahead_stands : (f : Held) (c : Chain) (p : Part) (s t : Inside) (aloft : Option Aloft) (flight : Option Flight) → SessionStands sealed signed hashed seed names f c s p → (g : GoesAhead s t) → t ≡ with_flight s t aloft → IsRunning t
      → StaysIn (known_in s.cache (get f.blocks)) (known_in t.cache (get f.blocks)) → flight ≡ option_map (λ (a : Aloft). a.flight) aloft → SessionStands sealed signed hashed seed names f c t (record p { flight = flight })
  ahead_stands f c p s t aloft flight h g same running more flies =
      let journal : t.journal ≡ s.journal = ap (λ (x : Inside). x.journal) same in
      let generation : t.generation ≡ s.generation = ap (λ (x : Inside). x.generation) same in
      let ring : t.ring ≡ s.ring = ap (λ (x : Inside). x.ring) same in
      let queue : t.journal.queue ≡ g.op ∷ g.rest = ap (λ j. j.queue) journal ∙ g.queue in
      let old : s.base ≡ fold_ops (take s.ahead (g.op ∷ g.rest)) p.base = subst (λ l. s.base ≡ fold_ops (take s.ahead l) p.base) g.queue h.base in
      let new : t.base ≡ fold_ops (g.op ∷ []) p.base = done_base g.op g.rest p.base s.ahead t.ahead s.base t.base s.kept t.kept s.written t.written g.done old in
      let vault = Opens sealed hashed (known_in s.cache (get f.blocks)) (keys_to seed s.generation) in
      let r = h.remembers in
      record {
        at = record { session = h.at.session; journal_is = h.at.journal_is ∙ ap (λ j. plain j ∷ []) (sym journal) };
        running = running;
        base = new ∙ ap (λ n. fold_ops (take n (g.op ∷ g.rest)) p.base) (sym g.done.ahead_is) ∙ ap (λ l. fold_ops (take t.ahead l) p.base) (sym queue);
        shown = ap (λ (x : Inside). x.shown) same ∙ h.shown ∙ ap (λ j. fold_ops j.queue p.base) (sym journal);
        role = ap (λ (x : Inside). x.role) same ∙ h.role;
        remembers = record {
          within = subst (λ j. j.known ≤ length c) (sym journal) r.within;
          hash_is = ap (λ j. j.hash) journal ∙ r.hash_is ∙ ap (λ j. hash_at f.revisions j.known) (sym journal);
          generation_is = generation ∙ r.generation_is ∙ ap (λ j. generation_from 0 (take j.known c)) (sym journal);
          held = subst (λ n. AllHold (Opens sealed hashed (known_in t.cache (get f.blocks)) (keys_to seed n)) (look (tree_at c t.journal.known)) t.kept) (sym generation)
              (subst (λ j. AllHold (Opens sealed hashed (known_in t.cache (get f.blocks)) (keys_to seed s.generation)) (look (tree_at c j.known)) t.kept) (sym journal)
              (all_within sealed hashed (known_in s.cache (get f.blocks)) (known_in t.cache (get f.blocks)) (keys_to seed s.generation) (look (tree_at c s.journal.known)) t.kept more
              (done_kept vault (tree_at c s.journal.known) g.op s.ahead t.ahead s.base t.base s.kept t.kept s.written t.written g.done r.held)));
        };
        held = subst (λ n. AllHold (Opens sealed hashed (known_in t.cache (get f.blocks)) (keys_to seed n)) (look t.base) t.kept) (sym generation)
            (all_within sealed hashed (known_in s.cache (get f.blocks)) (known_in t.cache (get f.blocks)) (keys_to seed s.generation) (look t.base) t.kept more
            (done_held vault g.op s.ahead t.ahead s.base t.base s.kept t.kept s.written t.written g.done h.held));
        written = λ op rest old queue' one is.
            let first : g.op ≡ op = (let e : g.op ∷ g.rest ≡ op ∷ rest = sym queue ∙ queue' in cc) in (
              subst (λ n. IsOldOf (Opens sealed hashed (known_in t.cache (get f.blocks)) (keys_to seed n)) t.base op.change old) (sym generation)
                  (old_within sealed hashed (known_in s.cache (get f.blocks)) (known_in t.cache (get f.blocks)) (keys_to seed s.generation) t.base op.change old more
                  (subst (λ (o : Op). IsOldOf vault t.base o.change old) first
                  (done_written vault g.op s.ahead t.ahead s.base t.base s.kept t.kept s.written t.written g.done h.held (λ old one is. (h.written g.op g.rest old g.queue one is).0) old is))),
              subst (λ (o : Op). HasSize p.base o.change old) first (sized_of f c p s t t.kept h g g.done old is),
            );
        ring = λ n. ap (λ k. key_at k n) ring ∙ h.ring n ∙ ap (λ k. keys_to seed k n) (sym generation);
        flight = flies ∙ ap (option_map (λ (a : Aloft). a.flight)) (sym (ap (λ (x : Inside). x.aloft) same));
        plan = h.plan ∙ ap (option_map (λ (x : Plan). x.number)) (sym (ap (λ (x : Inside). x.plan) same));
        planned = λ x is. subst (λ k. PlanStands sealed hashed seed f c k.known x) (sym journal) (h.planned x (sym (ap (λ (y : Inside). y.plan) same) ∙ is));
      }

  -- what a session of a device stands for, and a device with another session
  pub inside_at : (d : ℕ) (f : Held) (c : Chain) (v : Member) (p : Part) (s : Inside) → v.inside ≡ Some s → DeviceStands sealed signed hashed seed names d f c v p → SessionStands sealed signed hashed seed names f c s p
  inside_at d f c v p s some h = subst (λ o. MatchOption o (p.is_open ≡ false) (λ x. SessionStands sealed signed hashed seed names f c x p)) some h.session

  pub closed_at : (d : ℕ) (f : Held) (c : Chain) (v : Member) (p : Part) → v.inside ≡ None → DeviceStands sealed signed hashed seed names d f c v p → p.is_open ≡ false
  closed_at d f c v p none h = subst (λ o. MatchOption o (p.is_open ≡ false) (λ x. SessionStands sealed signed hashed seed names f c x p)) none h.session

  -- only the session changed, and nothing of the disk
  pub with_session : (d : ℕ) (f : Held) (c : Chain) (v : Member) (p : Part) (flight : Option Flight) (t : Inside) → DeviceStands sealed signed hashed seed names d f c v p
      → SessionStands sealed signed hashed seed names f c t (record p { flight = flight }) → DeviceStands sealed signed hashed seed names d f c (record v { inside = Some t }) (record p { flight = flight })
  with_session d f c v p flight t h session = record {
    number = h.number;
    name = h.name;
    secret = h.secret;
    registered = h.registered;
    disk = record { images = h.disk.images; area = h.disk.area; left = h.disk.left };
    session = session;
  }

  module _ (old : Member) (s t : Inside) (was : old.inside ≡ Some s) (picked : Picked) (picks : Picks sealed signed hashed old.secret s picked t) (running : IsRunning t) (law : PicksAreFor sealed signed hashed seed names) where
    abbrev g : GoesAhead s t
    g = picks.ahead

    abbrev new : Member
    new = record old { inside = Some t }

    abbrev flight : Flight
    flight = flight_in picked

    module _ (f : Held) (c : Chain) (p : Part) (part : PartMeets old.number c p) (has : HasChain sealed signed hashed seed names f c) (h : DeviceStands sealed signed hashed seed names old.number f c old p) where
      abbrev d : ℕ
      d = old.number

      session : SessionStands sealed signed hashed seed names f c s p
      session = inside_at d f c old p s was h

      abbrev j : Journal
      j = plain s.journal

      m : Meets d c j
      m = at_journal d c p j part session.at.journal_is

      after : SessionStands sealed signed hashed seed names f c t (record p { flight = Some flight })
      after = ahead_stands f c p s t (Some picks.aloft) (Some flight) session g picks.session running (known_taken hashed s.cache t.cache picked.request.blocks (get f.blocks) picks.takes) (ap Some (sym picks.made.flight))

      journal : t.journal ≡ s.journal
      journal = ap (λ (x : Inside). x.journal) picks.session

      generation : t.generation ≡ s.generation
      generation = ap (λ (x : Inside). x.generation) picks.session

      number_is : picked.number ≡ j.known + 1
      number_is = picks.made.number ∙ ap (λ k. k.known + 1) journal

      seq_is : picked.seq ≡ j.base + 1
      seq_is = picks.made.seq ∙ (subst (CountsFrom (j.base + 1)) g.queue m.counts).0

      flight_is : flight ≡ flight_of 1 j
      flight_is = λ i. record { first = seq_is i; count = sym (min_one g.op g.rest s.journal.queue g.queue) i; number = number_is i }

      abbrev step : (name : List ℕ) (ask : Ask) → ask ≡ ask_of d name j flight → Picking 1 d name p flight ask (record p { flight = Some flight })
      step name ask is = record {
        journal = j;
        at = session.at;
        free = session.flight ∙ ap (option_map (λ (a : Aloft). a.flight)) picks.free;
        clear = picks.clear;
        some = (let e : length s.journal.queue ≡ suc (length g.rest) = ap length g.queue in omega (arith, e));
        flight_is = flight_is;
        ask_is = is;
        part = refl;
      }

      knows : flight.number ≡ length c + 1 → KnowsStep sealed hashed seed f c t.generation t.journal.hash t.base picks.left g.op.change s.cache t.written
      knows next =
          let r = after.remembers in
          let known : t.journal.known ≡ length c = ap (λ k. k.known) journal ∙ (let n = number_is in let e : j.known ≡ length c = omega (arith, n, next) in e) in
          record {
            head_is = r.hash_is ∙ head_known f.revisions t.journal.known (known ∙ chain_length sealed signed hashed seed names f c has);
            generation_is = r.generation_is ∙ ap (generation_from 0) (take_all t.journal.known c (omega (arith, known)));
            few = known_in s.cache (get f.blocks);
            cached = known_cached s.cache (get f.blocks);
            within = known_there s.cache (get f.blocks);
            grounds = grounds_of f c p s t picks.left session g picks.leaves generation;
          }

      ring_is : key_at t.ring ≡ keys_to seed t.generation
      ring_is = λ i n. after.ring n i

      key_is : picks.made.key ≡ folder_key seed t.generation
      key_is = ring_key seed t.generation t.ring after.ring running.first picks.made.key picks.made.keyed

      tree_is : t.base ≡ fold_ops (g.op ∷ []) p.base
      tree_is = done_base g.op g.rest p.base s.ahead t.ahead s.base t.base s.kept t.kept s.written t.written g.done (subst (λ l. s.base ≡ fold_ops (take s.ahead l) p.base) g.queue session.base)

      made : IsStepRequest sealed signed hashed (device_secret seed d) (folder_key seed t.generation) t.generation flight.number t.journal.hash g.op t.base picks.left s.cache (keys_to seed t.generation) t.written picked.request
      made = subst (λ secret. IsStepRequest sealed signed hashed secret (folder_key seed t.generation) t.generation flight.number t.journal.hash g.op t.base picks.left s.cache (keys_to seed t.generation) t.written picked.request) h.secret
          (subst (λ ring. IsStepRequest sealed signed hashed old.secret (folder_key seed t.generation) t.generation flight.number t.journal.hash g.op t.base picks.left s.cache ring t.written picked.request) ring_is
          (subst (λ key. IsStepRequest sealed signed hashed old.secret key t.generation flight.number t.journal.hash g.op t.base picks.left s.cache (key_at t.ring) t.written picked.request) key_is picks.made.made))

      pub goes : (q : Part) × (ask : Ask) × PickStep 1 d old.name p (Ok (flight, ask)) q × IsFor sealed signed hashed seed names f picked.request ask × DeviceStands sealed signed hashed seed names d f c new q
      goes =
          let ask = ask_of d (names d) j flight in (
            record p { flight = Some flight },
            ask,
            step old.name ask (ap (λ n. ask_of d n j flight) (sym h.name)),
            law f c d p (record p { flight = Some flight }) flight ask g.op g.rest t.generation t.journal.hash t.base picks.left s.cache t.written picked.request has part (step (names d) ask refl) g.queue tree_is h.registered knows made,
            with_session d f c old p (Some flight) t h after,
          )

    pub picks_go : PickGoes sealed signed hashed seed names old.number old.name old new flight picked.request
    picks_go f c p part has h = goes f c p part has h

  -- ---- want of memory

  pub ahead_stays : (old : Member) (s t : Inside) → old.inside ≡ Some s → IsRunning t → GoesAhead s t → t ≡ with_flight s t s.aloft → t.cache ≡ s.cache → DeviceStays sealed signed hashed seed names old.number old (record old { inside = Some t })
  ahead_stays old s t was running g same cache f c p h =
      let session = inside_at old.number f c old p s was h in
      with_session old.number f c old p p.flight t h (ahead_stands f c p s t s.aloft p.flight session g same running (λ id b at. ap (λ (m : Cache). known_in m (get f.blocks) id) cache ∙ at) session.flight)
