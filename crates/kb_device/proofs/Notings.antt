-- What a note does to a session is what the machine's note does.
use Rattle.std.proofs.Common.{◌≡◌, ℕ, ◌+◌, ◌≤◌, ◌<◌, true, false, List, [], ◌∷◌, length, drop, take, Option, None, Some, Result, Ok, Err, inl, inr, refl, sym, ap, subst, ◌∙◌, arith}
use Rattle.std.specs.Prelude.{IsSomeAnd, IsSome, Contains}
use Rattle.kb_edge.specs.Disk.{FallsBy}
use Rattle.std.specs.Option.{option_map}
use Rattle.std.specs.FinMap.{get}
use Rattle.kb_ops.specs.declared.rows.Op.{Op}
use Rattle.kb_ops.specs.Trees.{Tree, look, fold_ops}
use Rattle.kb_log.specs.LogList.{area_size}
use Rattle.kb_files.specs.Opens.{Opens}
use Rattle.kb_snap.specs.Pointers.{AllHold}
use Rattle.kb_journal.specs.State.{State, HasState}
use Rattle.kb_chain.specs.declared.states.PutRefusal.{PutRefusal}
use Rattle.kb_chain.specs.declared.states.PutRefusal.TheVariants as why
use Rattle.kb_snap.specs.Chains.{Chain, tree_at}
use Rattle.kb_snap.specs.Members.{generation_from}
use Rattle.kb_snap.specs.Answers.{PutFault}
use Rattle.kb_device.specs.Answers as says
use Rattle.kb_snap.specs.Answers as folder_says
use Rattle.kb_device.specs.Journals.{Journal, plain, taken, branched}
use Rattle.kb_device.specs.Disks as front
use Rattle.kb_device.specs.Disks.{IsKept}
use Rattle.kb_device.specs.Parts.{Part, Flies, NoteStops, IsRefused, NoteStep, ended}
use Rattle.kb_device.specs.Meets.{Meets, AnswerMeets, IsStep, PartMeets, PutMeets}
use Rattle.kb_device.proofs.PartSteps.{at_session, at_journal}
use Rattle.kb_device.proofs.Meets.{step_tree}
use Rattle.kb_device.proofs.Steps.{answer_at}
use Rattle.kb_folder.specs.Chains.{Names}
use Rattle.kb_folder.specs.Stands.{Revisions, keys_to}
use Rattle.kb_folder.specs.Puts.{Held}
use Rattle.kb_folder.specs.Goes.{HasChain, Means}
use Rattle.kb_device.specs.Inside.{Aloft, Plan, Inside, IsRunning}
use Rattle.kb_device.specs.Stands.{Platter, Member, hashes_of, DiskStands, SessionStands, DeviceStands}
use Rattle.kb_device.specs.Caches.{known_in}
use Rattle.kb_device.specs.Noting.{Writes, Stops, landed, parted, with_landed, NoteDoes, HasLanded, UnlessStopped, is_stopped, member_after, NoteGoes}
use Rattle.kb_device.specs.declared.answers.PutAnswer.{PutAnswer}
use Rattle.kb_device.specs.declared.answers.Noted.{Noted}
use Rattle.kb_device.specs.declared.answers.Noted.TheVariants as noted
use Rattle.kb_device.specs.declared.answers.NoteFault.{NoteFault}
use Rattle.kb_device.specs.declared.answers.NoteFault.TheVariants as fault
use Rattle.kb_device.proofs.Longer.{chain_length}
use Rattle.kb_device.proofs.Hashes.{same_hash, step_generation, step_within}
use Rattle.kb_device.proofs.Picks.{inside_at, closed_at}

-- ---- the disk

first_in : {A : Type 0} (x : A) (xs : List A) → Contains (x ∷ xs) x
first_in x xs = (0, omega arith, refl)

second_in : {A : Type 0} (x y : A) (xs : List A) → Contains (x ∷ y ∷ xs) y
second_in x y xs = (1, omega arith, refl)

kept_one : (bs : Revisions) (s : State) (may : List Journal) (image : List ℕ) → Contains may (plain s) → s.hash ≡ front.hash_at (hashes_of bs) s.known → HasState s image → IsKept (hashes_of bs) may image
kept_one bs s may image one hash has = record { state = s; has = has; one_of = one; hash = hash }

-- whatever was written, the disk stands for what it was to become
pub writes_stand : (bs : Revisions) (old new : Platter) (p q : Part) (after : State) → DiskStands bs old p → Writes after old new → q.may ≡ plain after ∷ [] → after.hash ≡ front.hash_at (hashes_of bs) after.known → q.area ≡ p.area → q.left ≡ new.left
    → DiskStands bs new q
writes_stand bs old new p q after h w may hash area left = record {
  images = λ image it. kept_one bs after q.may image (subst (λ l. Contains l (plain after)) (sym may) (first_in (plain after) [])) hash (w.images image it);
  area = area ∙ h.area ∙ ap area_size (sym w.size);
  left = left;
}

pub stops_stand : (bs : Revisions) (old new : Platter) (p q : Part) (before after : State) → DiskStands bs old p → Stops before after old new → q.may ≡ plain before ∷ plain after ∷ []
    → before.hash ≡ front.hash_at (hashes_of bs) before.known → after.hash ≡ front.hash_at (hashes_of bs) after.known → q.area ≡ p.area → q.left ≡ Some 0 → DiskStands bs new q
stops_stand bs old new p q before after h w may hash hash' area left = record {
  images = λ image it. elim (w.images image it) [
    | inl has ↦ kept_one bs before q.may image (subst (λ l. Contains l (plain before)) (sym may) (first_in (plain before) (plain after ∷ []))) hash has
    | inr has ↦ kept_one bs after q.may image (subst (λ l. Contains l (plain after)) (sym may) (second_in (plain before) (plain after) [])) hash' has
  ];
  area = area ∙ h.area ∙ ap area_size (sym w.size);
  left = left ∙ sym w.ran_out.1;
}

-- ---- the trees

fold_split : (queue : List Op) (t : Tree) → fold_ops queue t ≡ fold_ops (drop 1 queue) (fold_ops (take 1 queue) t)
fold_split [] t = refl
fold_split (op ∷ queue) t = refl

module _ (sealed signed : List ℕ → List ℕ → List ℕ) (hashed : List ℕ → List ℕ) (seed : List ℕ) (names : Names) where
  -- a device with another disk and another session
  pub stands_with : (d : ℕ) (f : Held) (c : Chain) (v : Member) (p q : Part) (disk : Platter) (t : Inside) → DeviceStands sealed signed hashed seed names d f c v p → DiskStands f.revisions disk q
      → SessionStands sealed signed hashed seed names f c t q → DeviceStands sealed signed hashed seed names d f c (record v { disk = disk; inside = Some t }) q
  stands_with d f c v p q disk t h stands session = record { number = h.number; name = h.name; secret = h.secret; registered = h.registered; disk = stands; session = session }

  pub stands_closed : (d : ℕ) (f : Held) (c : Chain) (v : Member) (p q : Part) (disk : Platter) → DeviceStands sealed signed hashed seed names d f c v p → DiskStands f.revisions disk q → q.is_open ≡ false
      → DeviceStands sealed signed hashed seed names d f c (record v { disk = disk; inside = None }) q
  stands_closed d f c v p q disk h stands closed = record { number = h.number; name = h.name; secret = h.secret; registered = h.registered; disk = stands; session = closed }

  module _ (old : Member) (s : Inside) (was : old.inside ≡ Some s) (answer : PutAnswer) (a : Aloft) (flies : s.aloft ≡ Some a)
      (f : Held) (c : Chain) (p : Part) (put : Result ℕ PutFault) (part : PartMeets old.number c p) (w : PutMeets old.number c p put) (has : HasChain sealed signed hashed seed names f c)
      (h : DeviceStands sealed signed hashed seed names old.number f c old p) where
    abbrev d : ℕ
    d = old.number

    session : SessionStands sealed signed hashed seed names f c s p
    session = inside_at sealed signed hashed seed names d f c old p s was h

    abbrev j : Journal
    j = plain s.journal

    abbrev number : ℕ
    number = a.flight.number

    m : Meets d c j
    m = at_journal d c p j part session.at.journal_is

    flight_is : p.flight ≡ Some a.flight
    flight_is = session.flight ∙ ap (option_map (λ (x : Aloft). x.flight)) flies

    flying : Flies p j a.flight
    flying = record { at = session.at; flight_is = flight_is }

    meets : AnswerMeets d c j a.flight put
    meets = answer_at d c p put j a.flight w flying

    short : j.known ≤ length f.revisions
    short = let e = chain_length sealed signed hashed seed names f c has in let le = m.within in omega (arith, e, le)

    hash_was : s.journal.hash ≡ front.hash_at (hashes_of f.revisions) s.journal.known
    hash_was = session.remembers.hash_is ∙ same_hash f.revisions s.journal.known short

    count_is : a.flight.count ≡ 1
    count_is = (session.running.aloft a flies).count

    -- ---- it landed

    module _ (put_is : put ≡ Ok number) (stands : HasLanded sealed hashed seed f s a answer.hash) where
      abbrev after : State
      after = landed s.journal a answer.hash

      step : IsStep d j.queue a.flight.count (drop j.known c)
      step = (subst (AnswerMeets d c j a.flight) put_is meets).1

      number_is : number ≡ j.known + 1
      number_is = (session.running.aloft a flies).number

      within : number ≤ length c
      within = let le = step_within c j.known step.revision step.rest step.split in let e = number_is in omega (arith, le, e)

      plain_is : plain after ≡ taken number a.flight.count j
      plain_is = λ i. record { known = number; base = s.journal.base + sym count_is i; mark = (session.running.aloft a flies).clear i; queue = drop (sym count_is i) s.journal.queue }

      hash_now : after.hash ≡ front.hash_at (hashes_of f.revisions) after.known
      hash_now = stands.hash_is ∙ same_hash f.revisions number (let e = chain_length sealed signed hashed seed names f c has in let le = within in omega (arith, e, le))

      tree_is : tree_at c number ≡ s.base
      tree_is =
          ap (tree_at c) number_is ∙ step_tree d c j a.flight.count m step
          ∙ (λ i. fold_ops (take (count_is i) s.journal.queue) (sym (at_session d c p j part session.at).base i))
          ∙ ap (λ n. fold_ops (take n s.journal.queue) p.base) (sym (session.running.aloft a flies).ahead) ∙ sym session.base

      abbrev landed_part : Option ℕ → Part
      landed_part left = record p { may = taken number a.flight.count j ∷ []; flight = None; base = fold_ops (take a.flight.count j.queue) p.base; left = left }

      landed_session : (left : Option ℕ) → IsRunning (with_landed s a answer.hash) → SessionStands sealed signed hashed seed names f c (with_landed s a answer.hash) (landed_part left)
      landed_session left running = record {
        at = record { session = session.at.session; journal_is = ap (λ k. k ∷ []) (sym plain_is) };
        running = running;
        base = session.base ∙ ap (λ n. fold_ops (take n s.journal.queue) p.base) ((session.running.aloft a flies).ahead ∙ sym count_is);
        shown = session.shown ∙ fold_split s.journal.queue p.base ∙ ap (λ n. fold_ops (drop 1 s.journal.queue) (fold_ops (take n s.journal.queue) p.base)) (sym count_is);
        role = session.role;
        remembers = record {
          within = within;
          hash_is = stands.hash_is;
          generation_is = session.remembers.generation_is ∙ sym (ap (λ n. generation_from 0 (take n c)) number_is ∙ step_generation c j.known step.revision step.rest (take a.flight.count j.queue) step.split step.deed);
          held = subst (λ t. AllHold (Opens sealed hashed (known_in s.cache (get f.blocks)) (keys_to seed s.generation)) (look t) a.kept) (sym tree_is) stands.held;
        };
        held = stands.held;
        written = λ op rest old queue one is. cc;
        ring = session.ring;
        flight = refl;
        plan = session.plan;
        planned = λ x is. (let marked = (at_session d c p j part session.at).plan x.number (session.plan ∙ ap (option_map (λ (y : Plan). y.number)) is) in let clear = (session.running.aloft a flies).clear in let no : true ≡ false = sym marked.0 ∙ clear in cc);
      }

      pub lands_go : (n : ℕ) (t : Inside) (now : Platter) → n ≡ number → t ≡ with_landed s a answer.hash → Writes after old.disk now → IsRunning t
          → (q : Part) × NoteStep p put (Ok (says.Landed n)) q × DeviceStands sealed signed hashed seed names d f c (record old { disk = now; inside = Some t }) q
      lands_go n t now is same writes running = (
        landed_part now.left,
        (number, put_is, record { journal = j; flight = a.flight; flies = flying; number_is = is; left = now.left; falls = subst (λ l. FallsBy 4 l now.left) (sym h.disk.left) writes.left; part = refl }),
        stands_with d f c old p (landed_part now.left) now t h
            (writes_stand f.revisions old.disk now p (landed_part now.left) after h.disk writes (ap (λ k. k ∷ []) (sym plain_is)) hash_now refl refl)
            (subst (λ x. SessionStands sealed signed hashed seed names f c x (landed_part now.left)) (sym same) (landed_session now.left (subst IsRunning same running))),
      )

      pub landing_stops : (now : Platter) → Stops s.journal after old.disk now → (q : Part) × NoteStep p put (Err says.NoteFault.Stopped) q × DeviceStands sealed signed hashed seed names d f c (record old { disk = now; inside = None }) q
      landing_stops now stops =
          let q : Part = record (ended p) { may = j ∷ taken number a.flight.count j ∷ [] } in (
            q,
            subst (λ r. NoteStops r p q) (sym put_is) (record { journal = j; flight = a.flight; flies = flying; low = subst (λ l. IsSomeAnd l (λ n. n < 4)) (sym h.disk.left) stops.ran_out.0; part = refl }),
            stands_closed d f c old p q now h (stops_stand f.revisions old.disk now p q s.journal after h.disk stops (ap (λ k. j ∷ k ∷ []) (sym plain_is)) hash_was hash_now refl refl) refl,
          )

    -- ---- it came late

    module _ (len : ℕ) (put_is : put ≡ Err (folder_says.PutFault.Stale len)) where
      abbrev marked : State
      marked = parted s.journal

      pub parts_go : (t : Inside) (now : Platter) → t ≡ record s { journal = parted s.journal; aloft = None } → Writes marked old.disk now → IsRunning t
          → (q : Part) × NoteStep p put (Ok (says.Noted.Branched s.journal.known)) q × DeviceStands sealed signed hashed seed names d f c (record old { disk = now; inside = Some t }) q
      parts_go t now same writes running =
          let q : Part = record p { may = branched j ∷ []; flight = None; left = now.left } in
          let r = session.remembers in (
            q,
            (len, put_is, record { journal = j; flight = a.flight; flies = flying; at_is = refl; left = now.left; falls = subst (λ l. FallsBy 4 l now.left) (sym h.disk.left) writes.left; part = refl }),
            stands_with d f c old p q now t h (writes_stand f.revisions old.disk now p q marked h.disk writes refl hash_was refl refl)
                (subst (λ x. SessionStands sealed signed hashed seed names f c x q) (sym same) (record {
                  at = record { session = session.at.session; journal_is = refl };
                  running = subst IsRunning same running;
                  base = session.base;
                  shown = session.shown;
                  role = session.role;
                  remembers = record { within = r.within; hash_is = r.hash_is; generation_is = r.generation_is; held = r.held };
                  held = session.held;
                  written = session.written;
                  ring = session.ring;
                  flight = refl;
                  plan = session.plan;
                  planned = λ x is. (let y = session.planned x is in record { merged = y.merged; remembers = y.remembers; ring = y.ring; base = y.base; ops = y.ops; plain = y.plain });
                })),
          )

      pub parting_stops : (now : Platter) → Stops s.journal marked old.disk now → (q : Part) × NoteStep p put (Err says.NoteFault.Stopped) q × DeviceStands sealed signed hashed seed names d f c (record old { disk = now; inside = None }) q
      parting_stops now stops =
          let q : Part = record (ended p) { may = j ∷ branched j ∷ [] } in (
            q,
            subst (λ r. NoteStops r p q) (sym put_is) (record { journal = j; flight = a.flight; flies = flying; low = subst (λ l. IsSomeAnd l (λ n. n < 4)) (sym h.disk.left) stops.ran_out.0; part = refl }),
            stands_closed d f c old p q now h (stops_stand f.revisions old.disk now p q s.journal marked h.disk stops refl hash_was hash_was refl refl) refl,
          )

    -- ---- it was refused

    pub keeps_go : (t : Inside) (now : Platter) → t ≡ record s { aloft = None } → now ≡ old.disk → IsRunning t → IsRefused put
        → (q : Part) × NoteStep p put (Ok says.Kept) q × DeviceStands sealed signed hashed seed names d f c (record old { disk = now; inside = Some t }) q
    keeps_go t now same disk running refused =
        let q : Part = record p { flight = None } in
        let r = session.remembers in (
          q,
          (refused, record { session = session.at.session; flies = subst IsSome (sym flight_is) refl; part = refl }),
          stands_with d f c old p q now t h (subst (λ (x : Platter). DiskStands f.revisions x q) (sym disk) (record { images = h.disk.images; area = h.disk.area; left = h.disk.left }))
              (subst (λ x. SessionStands sealed signed hashed seed names f c x q) (sym same) (record {
                at = record { session = session.at.session; journal_is = session.at.journal_is };
                running = subst IsRunning same running;
                base = session.base;
                shown = session.shown;
                role = session.role;
                remembers = r;
                held = session.held;
                written = session.written;
                ring = session.ring;
                flight = refl;
                plan = session.plan;
                planned = λ x is. (let y = session.planned x is in record { merged = y.merged; remembers = y.remembers; ring = y.ring; base = y.base; ops = y.ops; plain = y.plain });
              })),
        )

  -- ---- the answers

  landed_is : (put : Result ℕ PutFault) (r : Result ℕ PutRefusal) (n : ℕ) → Means r put → r ≡ Ok n → put ≡ Ok n
  landed_is put r n means is = subst (λ x. Means x put) is means

  late_is : (put : Result ℕ PutFault) (r : Result ℕ PutRefusal) (len : ℕ) (head : List ℕ) → Means r put → r ≡ Err (why.Stale len head) → put ≡ Err (folder_says.PutFault.Stale len)
  late_is put r len head means is = subst (λ x. Means x put) is means

  refused_by : (put : Result ℕ PutFault) (x : PutRefusal) → ((len : ℕ) (head : List ℕ) → x ≡ why.Stale len head → ⊥) → (let r : Result ℕ PutRefusal = Err x in Means r put) → IsRefused put
  refused_by put why.NotWriter other means = subst IsRefused (sym means) tt
  refused_by put (why.Stale len head) other means = absurd (other len head refl)
  refused_by put why.ChainEnd other means = subst IsRefused (sym means) tt
  refused_by put (why.Collision id) other means = subst IsRefused (sym means) tt
  refused_by put why.BadRevision other means = absurd means
  refused_by put why.BadSignature other means = absurd means
  refused_by put (why.SeqGap expected) other means = absurd means
  refused_by put why.BadFit other means = absurd means
  refused_by put why.Memory other means = absurd means

  pub note_goes : (old : Member) (s t : Inside) (was : old.inside ≡ Some s) (answer : PutAnswer) (now : Platter) (r : Result Noted NoteFault) → NoteDoes s old.disk answer t now r → UnlessStopped r (IsRunning t)
      → NoteGoes sealed signed hashed seed names old.number old (member_after old t now r) answer r
  note_goes old s t was answer now (Ok (noted.Landed n)) does running f c p put part w has h means stands =
      let a = does.aloft in
      let put_to : put ≡ Ok does.number = landed_is put answer.number does.number means does.put in
      let session = inside_at sealed signed hashed seed names old.number f c old p s was h in
      let flying : Flies p (plain s.journal) a.flight = record { at = session.at; flight_is = session.flight ∙ ap (option_map (λ (x : Aloft). x.flight)) does.flies } in
      let same : does.number ≡ a.flight.number = (subst (AnswerMeets old.number c (plain s.journal) a.flight) put_to (answer_at old.number c p put (plain s.journal) a.flight w flying)).0 in
      lands_go old s was answer a does.flies f c p put part w has h (put_to ∙ ap Ok same) (stands s a does.number was does.flies does.put) n t now does.n_is does.session does.disk running
  note_goes old s t was answer now (Ok (noted.Branched at)) does running f c p put part w has h means stands =
      subst (λ n. (q : Part) × NoteStep p put (Ok (says.Noted.Branched n)) q × DeviceStands sealed signed hashed seed names old.number f c (record old { disk = now; inside = Some t }) q) (sym does.at_is)
      (parts_go old s was answer does.aloft does.flies f c p put part w has h does.len (late_is put answer.number does.len does.head means does.put) t now does.session does.disk running)
  note_goes old s t was answer now (Ok noted.Kept) does running f c p put part w has h means stands =
      keeps_go old s was answer does.aloft does.flies f c p put part w has h t now does.session does.disk running (refused_by put does.refusal does.other (subst (λ x. Means x put) does.put means))
  note_goes old s t was answer now (Err fault.Closed) does running f c p put part w has h means stands = absurd does
  note_goes old s t was answer now (Err fault.NoFlight) does running f c p put part w has h means stands =
      let session = inside_at sealed signed hashed seed names old.number f c old p s was h in (
        p,
        (refl, session.at.session, session.flight ∙ ap (option_map (λ (x : Aloft). x.flight)) does.2),
        stands_with old.number f c old p p now t h (subst (λ (x : Platter). DiskStands f.revisions x p) (sym does.1) h.disk) (subst (λ x. SessionStands sealed signed hashed seed names f c x p) (sym does.0) session),
      )
  note_goes old s t was answer now (Err fault.Stopped) (inl does) running f c p put part w has h means stands =
      let a = does.aloft in
      let put_to : put ≡ Ok does.number = landed_is put answer.number does.number means does.put in
      let session = inside_at sealed signed hashed seed names old.number f c old p s was h in
      let flying : Flies p (plain s.journal) a.flight = record { at = session.at; flight_is = session.flight ∙ ap (option_map (λ (x : Aloft). x.flight)) does.flies } in
      let same : does.number ≡ a.flight.number = (subst (AnswerMeets old.number c (plain s.journal) a.flight) put_to (answer_at old.number c p put (plain s.journal) a.flight w flying)).0 in
      landing_stops old s was answer a does.flies f c p put part w has h (put_to ∙ ap Ok same) (stands s a does.number was does.flies does.put) now does.disk
  note_goes old s t was answer now (Err fault.Stopped) (inr does) running f c p put part w has h means stands =
      parting_stops old s was answer does.aloft does.flies f c p put part w has h does.len (late_is put answer.number does.len does.head means does.put) now does.disk

-- ---- where the disk stopped, and where it didn't

pub unless : (r : Result Noted NoteFault) (P : Type 0) → is_stopped r ≡ false → UnlessStopped r P → P
unless (Ok x) P on h = h
unless (Err fault.Closed) P on h = h
unless (Err fault.NoFlight) P on h = h
unless (Err fault.Stopped) P on h = cc

pub after_on : (v : Member) (t : Inside) (now : Platter) (r : Result Noted NoteFault) → is_stopped r ≡ false → member_after v t now r ≡ record v { disk = now; inside = Some t }
after_on v t now (Ok x) on = refl
after_on v t now (Err fault.Closed) on = refl
after_on v t now (Err fault.NoFlight) on = refl
after_on v t now (Err fault.Stopped) on = cc

pub after_stop : (v : Member) (t : Inside) (now : Platter) (r : Result Noted NoteFault) → is_stopped r ≡ true → member_after v t now r ≡ record v { disk = now; inside = None }
after_stop v t now (Ok x) on = cc
after_stop v t now (Err fault.Closed) on = cc
after_stop v t now (Err fault.NoFlight) on = cc
after_stop v t now (Err fault.Stopped) on = refl

module _ (sealed signed : List ℕ → List ℕ → List ℕ) (hashed : List ℕ → List ℕ) (seed : List ℕ) (names : Names) where
  pub closed_note : (old : Member) (answer : PutAnswer) → old.inside ≡ None → NoteGoes sealed signed hashed seed names old.number old old answer (Err fault.Closed)
  closed_note old answer none f c p put part w has h means stands = (p, (refl, closed_at sealed signed hashed seed names old.number f c old p none h), h)

  -- a note of a session on this disk
  module _ (old : Member) (s t : Inside) (was : old.inside ≡ Some s) (answer : PutAnswer) (disk now : Platter) (disk_is : old.disk ≡ disk) (r : Result Noted NoteFault) (does : NoteDoes s disk answer t now r) (running : UnlessStopped r (IsRunning t)) where
    went : NoteGoes sealed signed hashed seed names old.number old (member_after old t now r) answer r
    went = note_goes sealed signed hashed seed names old s t was answer now r (subst (λ (x : Platter). NoteDoes s x answer t now r) (sym disk_is) does) running

    pub notes_on : is_stopped r ≡ false → NoteGoes sealed signed hashed seed names old.number old (record old { disk = now; inside = Some t }) answer r
    notes_on on = subst (λ (w : Member). NoteGoes sealed signed hashed seed names old.number old w answer r) (after_on old t now r on) went

    pub notes_stop : is_stopped r ≡ true → NoteGoes sealed signed hashed seed names old.number old (record old { disk = now; inside = None }) answer r
    notes_stop on = subst (λ (w : Member). NoteGoes sealed signed hashed seed names old.number old w answer r) (after_stop old t now r on) went
