-- What a pull does to a session is what the machine's pull does.
use Rattle.std.proofs.Common.{◌≡◌, ℕ, ◌+◌, ◌<◌, List, [], ◌∷◌, length, Option, None, Some, Ok, Err, refl, sym, ap, subst, ◌∙◌, arith}
use Rattle.std.specs.Prelude.{IsSomeAnd}
use Rattle.std.specs.Option.{option_map}
use Rattle.std.specs.FinMap.{get}
use Rattle.std.proofs.lemmas.List.{take_all}
use Rattle.kb_ops.specs.Trees.{look}
use Rattle.kb_edge.specs.Disk.{FallsBy}
use Rattle.kb_files.specs.Opens.{Opens}
use Rattle.kb_snap.specs.Pointers.{AllHold}
use Rattle.kb_journal.specs.State.{State}
use Rattle.kb_snap.specs.Chains.{Chain, tree_at}
use Rattle.kb_keys.specs.Members.{nobody}
use Rattle.kb_snap.specs.Members.{roles_after, roles_of, roles_at, IsStranger}
use Rattle.kb_device.specs.Answers as says
use Rattle.kb_device.specs.Journals.{Journal, plain}
use Rattle.kb_device.specs.Disks as front
use Rattle.kb_device.specs.Parts.{Part, PullStep, ended}
use Rattle.kb_device.specs.Meets.{Meets, PartMeets}
use Rattle.kb_device.proofs.PartSteps.{at_session, at_journal}
use Rattle.kb_folder.specs.Chains.{Names}
use Rattle.kb_folder.specs.Stands.{keys_to}
use Rattle.kb_folder.specs.Puts.{Held}
use Rattle.kb_folder.specs.Goes.{HasChain}
use Rattle.kb_device.specs.Inside.{Aloft, Plan, Inside, IsRunning}
use Rattle.kb_device.specs.Stands.{Platter, Member, hashes_of, SessionStands, DeviceStands}
use Rattle.kb_device.specs.Noting.{Writes, Stops}
use Rattle.kb_device.specs.Caches.{known_in}
use Rattle.kb_device.specs.Heads.{Read, ReadStands}
use Rattle.kb_device.specs.Pulling.{headed, with_head}
use Rattle.kb_device.proofs.Longer.{chain_length}
use Rattle.kb_device.proofs.Hashes.{same_hash}
use Rattle.kb_device.proofs.Notings.{writes_stand, stops_stand, stands_with, stands_closed}
use Rattle.kb_device.proofs.Picks.{inside_at}

-- a device without a queue has no flight
no_flight : (s : Inside) → IsRunning s → s.journal.queue ≡ [] → s.aloft ≡ None
no_flight s r none = idle s.aloft refl where
  idle : (o : Option Aloft) → s.aloft ≡ o → s.aloft ≡ None
  idle None e = e
  idle (Some a) e =
      let one = (r.aloft a e).ahead in
      let few = r.ahead in
      let empty : length s.journal.queue ≡ 0 = ap length none in
      absurd (omega (arith, one, few, empty))

role_now : (c : Chain) (d : ℕ) → roles_of c d ≡ roles_at c (length c) d
role_now c d = ap (λ l. roles_after nobody l d) (sym (take_all (length c) c (omega arith)))

module _ (sealed signed : List ℕ → List ℕ → List ℕ) (hashed : List ℕ → List ℕ) (seed : List ℕ) (names : Names)
    (f : Held) (old : Member) (s : Inside) (was : old.inside ≡ Some s) (flushed : s.journal.queue ≡ []) where
  module _ (r : Read) (c : Chain) (p : Part) (part : PartMeets old.number c p) (has : HasChain sealed signed hashed seed names f c) (h : DeviceStands sealed signed hashed seed names old.number f c old p)
      (member : ¬ IsStranger c old.number) (stands : ReadStands sealed hashed seed f c r) (last : r.number ≡ length c) where
    abbrev d : ℕ
    d = old.number

    session : SessionStands sealed signed hashed seed names f c s p
    session = inside_at sealed signed hashed seed names d f c old p s was h

    abbrev j : Journal
    j = plain s.journal

    m : Meets d c j
    m = at_journal d c p j part session.at.journal_is

    length_is : length c ≡ length f.revisions
    length_is = chain_length sealed signed hashed seed names f c has

    hash_was : s.journal.hash ≡ front.hash_at (hashes_of f.revisions) s.journal.known
    hash_was = session.remembers.hash_is ∙ same_hash f.revisions s.journal.known (let e = length_is in let le = m.within in omega (arith, e, le))

    abbrev after : State
    after = headed s.journal r

    hash_now : after.hash ≡ front.hash_at (hashes_of f.revisions) after.known
    hash_now = stands.remembers.hash_is ∙ same_hash f.revisions r.number (let e = length_is in let n = last in omega (arith, e, n))

    plain_is : plain after ≡ record j { known = r.number }
    plain_is = λ i. record { known = r.number; base = base i; mark = s.journal.mark; queue = sym flushed i } where
      base : s.journal.base + length s.journal.queue ≡ s.journal.base
      base = ap (λ q. s.journal.base + length q) flushed ∙ (let none : s.journal.base + 0 ≡ s.journal.base = omega arith in none)

    abbrev pulled : Option ℕ → Part
    pulled left = record p { may = record j { known = r.number } ∷ []; base = tree_at c r.number; role = roles_of c d; left = left }

    pub pulls_go : (t : Inside) (now : Platter) → t ≡ with_head s r (roles_of c d) → Writes after old.disk now → IsRunning t
        → (q : Part) × PullStep d c p (Ok r.number) q × DeviceStands sealed signed hashed seed names d f c (record old { disk = now; inside = Some t }) q
    pulls_go t now same writes running = (
      pulled now.left,
      record { journal = j; at = session.at; member = member; flushed = flushed; number = last; left = now.left; falls = subst (λ l. FallsBy 4 l now.left) (sym h.disk.left) writes.left; part = refl },
      stands_with sealed signed hashed seed names d f c old p (pulled now.left) now t h (writes_stand f.revisions old.disk now p (pulled now.left) after h.disk writes (ap (λ k. k ∷ []) (sym plain_is)) hash_now refl refl)
          (subst (λ x. SessionStands sealed signed hashed seed names f c x (pulled now.left)) (sym same) (record {
            at = record { session = session.at.session; journal_is = ap (λ k. k ∷ []) (sym plain_is) };
            running = subst IsRunning same running;
            base = stands.tree;
            shown = stands.tree;
            role = refl;
            remembers = stands.remembers;
            held = subst (λ t. AllHold (Opens sealed hashed (known_in r.cache (get f.blocks)) (keys_to seed r.generation)) (look t) r.kept) (sym stands.tree) stands.remembers.held;
            written = λ op rest old queue one is. cc;
            ring = stands.ring;
            flight = session.flight;
            plan = session.plan;
            planned = λ x is. (let marked = (at_session d c p j part session.at).plan x.number (session.plan ∙ ap (option_map (λ (y : Plan). y.number)) is) in let some = m.marked marked.0 in let none : length s.journal.queue ≡ 0 = ap length flushed in absurd (omega (arith, some, none)));
          })),
    )

    pub pull_stops : (now : Platter) → Stops s.journal after old.disk now → (q : Part) × PullStep d c p (Err says.PullFault.Stopped) q × DeviceStands sealed signed hashed seed names d f c (record old { disk = now; inside = None }) q
    pull_stops now stops =
        let q : Part = record (ended p) { may = j ∷ record j { known = length c } ∷ [] } in (
          q,
          record { journal = j; at = session.at; member = member; flushed = flushed; low = subst (λ l. IsSomeAnd l (λ n. n < 4)) (sym h.disk.left) stops.ran_out.0; part = refl },
          stands_closed sealed signed hashed seed names d f c old p q now h (stops_stand f.revisions old.disk now p q s.journal after h.disk stops (ap (λ n. j ∷ record j { known = n } ∷ []) (sym last) ∙ ap (λ k. j ∷ k ∷ []) (sym plain_is)) hash_was hash_now refl refl) refl,
        )

  -- the head is known already
  pub pull_stays : (c : Chain) (p : Part) → PartMeets old.number c p → DeviceStands sealed signed hashed seed names old.number f c old p → ¬ IsStranger c old.number → s.journal.known ≡ length c
      → (q : Part) × PullStep old.number c p (Ok s.journal.known) q × DeviceStands sealed signed hashed seed names old.number f c old q
  pull_stays c p part h member last =
      let session = inside_at sealed signed hashed seed names old.number f c old p s was h in
      let j : Journal = plain s.journal in
      let meets = at_session old.number c p j part session.at in
      let left : FallsBy 4 p.left p.left = stays p.left in
      let same : p ≡ record p { may = record j { known = s.journal.known } ∷ []; base = tree_at c s.journal.known; role = roles_of c old.number; left = p.left } = λ i. record p {
        may = session.at.journal_is i;
        base = meets.base i;
        role = (meets.role ∙ ap (λ n. roles_at c n old.number) last ∙ sym (role_now c old.number)) i;
      } in
      (p, record { journal = j; at = session.at; member = member; flushed = flushed; number = last; left = p.left; falls = left; part = same }, h)
    where
      stays : (o : Option ℕ) → FallsBy 4 o o
      stays None = refl
      stays (Some n) = (omega arith, omega arith)
