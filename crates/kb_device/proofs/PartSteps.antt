-- What each step of a device keeps, where the chain stays as it is.
use Rattle.std.proofs.Common.{◌≡◌, ℕ, ◌+◌, ◌^◌, ◌≤◌, ◌<◌, ◌==◌, Bool, true, false, cond, List, [], ◌∷◌, ◌++◌, length, map, take, drop, min, All, Option, Some, None, Ok, Err, inl, inr, refl, sym, ap, ◌∙◌, subst, arith, length-append, append_assoc}
use Rattle.std.specs.Prelude.{Contains}
use Rattle.std.specs.Option.{option_map_or}
use Rattle.std.proofs.lemmas.List.{take-append-le}
use Rattle.std.proofs.lemmas.List.Elements.{Contains-append_left, All-contains, All-append, All-map, All-weaker, All-head, All-tail, All-nil, All-cons}
use Rattle.std.proofs.lemmas.Bool.Decides.{nat_tests}
use Rattle.kb_ops.specs.declared.rows.Op.{Op}
use Rattle.kb_ops.specs.Trees.{Fits, fold_ops}
use Rattle.kb_ops.specs.Grammar.{IsProper}
use Rattle.kb_journal.specs.State.{use_of}
use Rattle.kb_keys.specs.declared.policy.Role.{Role}
use Rattle.kb_snap.specs.Chains.{most_in_step, Revision, Stepped, Chain, tree_at, moment_of_last}
use Rattle.kb_snap.specs.Members.{roles_at}
use Rattle.kb_device.specs.Journals.{Journal, last_seq, queued, taken, branched, taken_over, resumed}
use Rattle.kb_device.specs.Parts.{Flight, Part, IsOpenAt, closed, ended, flight_of, ask_of, powered, opened, acknowledged_at}
use Rattle.kb_device.specs.Meets.{GoesOn, Onward, ShelfMeets, NoneOf, StepOrNone, Meets, Flying, FlightMeets, SessionMeets, FitsArea, PartMeets, held, Acknowledges, AnswerMeets}
use Rattle.kb_device.specs.Waits.{Waiting, Nothing, Asked, Answered, WaitingMeets}
use Rattle.kb_snap.proofs.Lists.{append_none}
use Rattle.kb_device.proofs.Meets.{met, met_longer, held_length, goes_on, goes_longer, stays, Knows, meets_queued, held_queued, held_longer, meets_branched, is_step_queued, step_known, step_tree, step_roles, head_known, over_known, resumed_known, resumed_from, use_drop, over_use, resumed_use}

pub all_one : {A : Type 0} (P : A → Type 0) (x : A) → P x → All P (x ∷ [])
all_one P x h = All-cons P x [] h (All-nil P)

pub all_two : {A : Type 0} (P : A → Type 0) (x y : A) → P x → P y → All P (x ∷ y ∷ [])
all_two P x y h k = All-cons P x (y ∷ []) h (all_one P y k)

pub one_is : {A : Type 0} (x y : A) (xs : List A) → xs ≡ x ∷ [] → xs ≡ y ∷ [] → x ≡ y
one_is x y xs e f = cc

-- a device with what waits for it
pub record Stands (d : ℕ) (c : Chain) (name : List ℕ) (p : Part) (w : Waiting) : Type 0 where
  pub part : PartMeets d c p
  pub acknowledged : Acknowledges d c p
  pub waiting : WaitingMeets d c name p w

-- ---- what is acknowledged

pub settled_at : (p : Part) (j : Journal) → p.stopped ≡ None → acknowledged_at p j ≡ p.acknowledged
settled_at p j none = ap (λ o. option_map_or (λ (op : Op). cond (last_seq j == op.seq) (p.acknowledged ++ op ∷ []) p.acknowledged) o p.acknowledged) none

-- what is acknowledged goes by the last seq
pub same_last : (p : Part) (j k : Journal) → last_seq k ≡ last_seq j → acknowledged_at p k ≡ acknowledged_at p j
same_last p j k e = λ i. option_map_or (λ (op : Op). cond (e i == op.seq) (p.acknowledged ++ op ∷ []) p.acknowledged) p.stopped p.acknowledged

without : (b : Bool) (xs ys : List Op) → b ≡ false → cond b xs ys ≡ ys
without true xs ys h = cc
without false xs ys h = refl

within : (b : Bool) (xs ys : List Op) → b ≡ true → cond b xs ys ≡ xs
within true xs ys h = refl
within false xs ys h = cc

same : (a b : ℕ) → a ≡ b → (a == b) ≡ true
same a b e = grind (arith, nat_tests)

not_same : (a b : ℕ) → b ≡ a + 1 → (a == b) ≡ false
not_same a b e = grind (arith, nat_tests)

module _ (d : ℕ) (c : Chain) where
  abbrev Holds : Part → Journal → Type 0
  Holds p j = held d c j ≡ acknowledged_at p j

  -- ---- an open part

  pub at_session : (p : Part) (j : Journal) → PartMeets d c p → IsOpenAt p j → SessionMeets d c p j
  at_session p j h at =
      let s = h.session at.session in
      subst (SessionMeets d c p) (one_is s.0 j p.may s.1.journal_is at.journal_is) s.1

  pub at_journal : (p : Part) (j : Journal) → PartMeets d c p → p.may ≡ j ∷ [] → Meets d c j
  at_journal p j h may = All-head (Meets d c) j [] (subst (All (Meets d c)) may h.may)

  pub at_area : (p : Part) (j : Journal) → PartMeets d c p → p.may ≡ j ∷ [] → FitsArea p.area j
  at_area p j h may = All-head (FitsArea p.area) j [] (subst (All (FitsArea p.area)) may h.areas)

  -- with fewer operations
  pub at_drop : (p : Part) (j : Journal) (n number : ℕ) → PartMeets d c p → p.may ≡ j ∷ [] → FitsArea p.area (taken number n j)
  at_drop p j n number h may = (let fits = at_area p j h may in let less = use_drop n j.queue in omega (arith, fits, less))

  pub at_held : (p : Part) (j : Journal) → Acknowledges d c p → IsOpenAt p j → held d c j ≡ p.acknowledged
  at_held p j a at = All-head (Holds p) j [] (subst (All (Holds p)) at.journal_is a.held) ∙ settled_at p j (a.settled at.session)

  -- a part that is open on one journal
  pub open_part : (q : Part) (j : Journal) → q.is_open ≡ true → SessionMeets d c q j → Meets d c j → FitsArea q.area j → PartMeets d c q
  open_part q j is s m fits = record {
    some = (let one : length q.may ≡ 1 = ap length s.journal_is in omega arith);
    may = subst (All (Meets d c)) (sym s.journal_is) (all_one (Meets d c) j m);
    areas = subst (All (FitsArea q.area)) (sym s.journal_is) (all_one (FitsArea q.area) j fits);
    session = λ _. (j, s);
    none = λ e. absurd (let no : true ≡ false = sym is ∙ e in cc);
  }

  -- so many more are acknowledged once an opening has found the journal
  acked_more : (p : Part) (j : Journal) → (more : List Op) × (acknowledged_at p j ≡ p.acknowledged ++ more)
  acked_more p j = by p.stopped refl where
    by_last : (b : Bool) (op : Op) → (last_seq j == op.seq) ≡ b → p.stopped ≡ Some op → (more : List Op) × (acknowledged_at p j ≡ p.acknowledged ++ more)
    by_last true op e is = (op ∷ [], ap (λ o. option_map_or (λ (op : Op). cond (last_seq j == op.seq) (p.acknowledged ++ op ∷ []) p.acknowledged) o p.acknowledged) is ∙ within (last_seq j == op.seq) (p.acknowledged ++ op ∷ []) p.acknowledged e)
    by_last false op e is = ([], ap (λ o. option_map_or (λ (op : Op). cond (last_seq j == op.seq) (p.acknowledged ++ op ∷ []) p.acknowledged) o p.acknowledged) is ∙ without (last_seq j == op.seq) (p.acknowledged ++ op ∷ []) p.acknowledged e ∙ sym (append_none p.acknowledged))

    by : (o : Option Op) → p.stopped ≡ o → (more : List Op) × (acknowledged_at p j ≡ p.acknowledged ++ more)
    by None is = ([], settled_at p j is ∙ sym (append_none p.acknowledged))
    by (Some op) is = by_last (last_seq j == op.seq) op refl is

  -- what the shelf keeps goes no further than a journal that an opening may find
  pub shelf_last : (p : Part) (kept j : Journal) → ShelfMeets d c p.acknowledged p.may kept → Meets d c j → Holds p j → last_seq kept ≤ last_seq j
  shelf_last p kept j s m h =
      let a = held_length d c kept s.met in
      let b = held_length d c j (met d c j m) in
      let e = ap length s.front in
      let l = length-append (held d c kept) s.more in
      let f = ap length h in
      let g = acked_more p j in
      let n = ap length g.1 in
      let o = length-append p.acknowledged g.0 in
      omega arith

  -- the shelf, where each journal goes on from one that was there
  abbrev From : Part → Journal → Type 0
  From p k = (j : Journal) × Contains p.may j × Onward d c j k

  shelf_on : (p : Part) (acknowledged : List Op) (may : List Journal) → All (Meets d c) p.may → Acknowledges d c p → (more : List Op) → acknowledged ≡ p.acknowledged ++ more → All (From p) may
      → (kept : Journal) → p.shelved ≡ Some kept → ShelfMeets d c acknowledged may kept
  shelf_on p acknowledged may all acked more grown from kept is =
      let s = acked.shelf kept is in
      record {
        met = s.met;
        more = s.more ++ more;
        front = grown ∙ ap (λ l. l ++ more) s.front ∙ append_assoc (held d c kept) s.more more;
        goes = All-weaker (From p) (GoesOn d c kept) (λ k f.
            goes_on d c kept f.0 k (shelf_last p kept f.0 s (All-contains (Meets d c) p.may f.0 all f.1) (All-contains (Holds p) p.may f.0 acked.held f.1)) (All-contains (GoesOn d c kept) p.may f.0 s.goes f.1) f.2)
            may from;
      }

  pub there : (j : Journal) (may : List Journal) → Contains (j ∷ may) j
  there j may = (0, (omega arith), refl)

  pub at_may : (p : Part) (j : Journal) → IsOpenAt p j → Contains p.may j
  at_may p j at = subst (λ l. Contains l j) (sym at.journal_is) (there j [])

  -- a session on this journal, which goes on from that of a part before
  pub open_acknowledges : (p q : Part) (j k : Journal) → All (Meets d c) p.may → Acknowledges d c p → Contains p.may j → Onward d c j k → q.shelved ≡ p.shelved → (more : List Op) → q.acknowledged ≡ p.acknowledged ++ more
      → q.may ≡ k ∷ [] → q.stopped ≡ None → held d c k ≡ q.acknowledged → Acknowledges d c q
  open_acknowledges p q j k all acked from on shelved more grown may none h = record {
    settled = λ _. none;
    held = subst (All (Holds q)) (sym may) (all_one (Holds q) k (h ∙ sym (settled_at q k none)));
    without = (k, subst (λ l. Contains l k) (sym may) (there k []), settled_at q k none);
    shelf = λ kept is. subst (λ l. ShelfMeets d c q.acknowledged l kept) (sym may) (shelf_on p q.acknowledged (k ∷ []) all acked more grown (all_one (From p) k (j, from, on)) kept (sym shelved ∙ is));
  }

  -- a part whose session ended, with the journal before and after
  pub ended_part : (p : Part) (j k : Journal) → Meets d c j → Meets d c k → FitsArea p.area j → FitsArea p.area k → PartMeets d c (record (ended p) { may = j ∷ k ∷ [] })
  ended_part p j k mj mk fj fk = record {
    some = omega arith;
    may = all_two (Meets d c) j k mj mk;
    areas = all_two (FitsArea p.area) j k fj fk;
    session = λ e. cc;
    none = λ _. (refl, refl);
  }

  ended_shelf : (p : Part) (j k : Journal) → All (Meets d c) p.may → Acknowledges d c p → IsOpenAt p j → Onward d c j k → (kept : Journal) → p.shelved ≡ Some kept → ShelfMeets d c p.acknowledged (j ∷ k ∷ []) kept
  ended_shelf p j k all acked at on = shelf_on p p.acknowledged (j ∷ k ∷ []) all acked [] (sym (append_none p.acknowledged)) (all_two (From p) j k (j, at_may p j at, stays d c j) (j, at_may p j at, on))

  -- where both hold the same
  pub ended_acknowledges : (p : Part) (j k : Journal) → All (Meets d c) p.may → Acknowledges d c p → IsOpenAt p j → held d c k ≡ held d c j → Onward d c j k → Acknowledges d c (record (ended p) { may = j ∷ k ∷ [] })
  ended_acknowledges p j k all acked at hk on =
      let q : Part = record (ended p) { may = j ∷ k ∷ [] } in
      let none = acked.settled at.session in
      let hj = at_held p j acked at in
      record {
        settled = λ _. none;
        held = all_two (Holds q) j k (hj ∙ sym (settled_at q j none)) (hk ∙ hj ∙ sym (settled_at q k none));
        without = (j, there j (k ∷ []), settled_at q j none);
        shelf = ended_shelf p j k all acked at on;
      }

  all_both : (P Q : Journal → Type 0) (xs : List Journal) → All P xs → All Q xs → All (λ j. P j × Q j) xs
  all_both P Q [] h k = All-nil (λ j. P j × Q j)
  all_both P Q (x ∷ xs) h k = All-cons (λ j. P j × Q j) x xs (All-head P x xs h, All-head Q x xs k) (all_both P Q xs (All-tail P x xs h) (All-tail Q x xs k))

  -- no revision changes what was acknowledged
  pub acknowledges_longer : (x : Revision) (p : Part) → PartMeets d c p → Acknowledges d c p → Acknowledges d (c ++ x ∷ []) p
  acknowledges_longer x p h a = record {
    settled = a.settled;
    held = All-weaker (λ j. Meets d c j × Holds p j) (λ j. held d (c ++ x ∷ []) j ≡ acknowledged_at p j) (λ j m. held_longer d c x j m.0.within ∙ m.1) p.may (all_both (Meets d c) (Holds p) p.may h.may a.held);
    without = a.without;
    shelf = λ kept is. (
        let s = a.shelf kept is in
        record {
          met = met_longer d c x kept s.met;
          more = s.more;
          front = s.front ∙ ap (λ l. l ++ s.more) (sym (held_longer d c x kept s.met.within));
          goes = All-weaker (GoesOn d c kept) (GoesOn d (c ++ x ∷ []) kept) (λ j g. goes_longer d c x kept j g) p.may s.goes;
        });
  }

  -- ---- flights

  flight_step : (j : Journal) (o : Option Flight) → FlightMeets d c j o → StepOrNone d j.queue (drop j.known c)
  flight_step j None none = inl none
  flight_step j (Some f) h = elim h.landed [ inl none ↦ inl none | inr s ↦ inr (f.count, s) ]

  flight_queued : (j : Journal) (op : Op) (o : Option Flight) → FlightMeets d c j o → FlightMeets d c (queued op j) o
  flight_queued j op None none = none
  flight_queued j op (Some f) h = record {
    first = h.first;
    number = h.number;
    some = h.some;
    few = (let few = h.few in let e = length-append j.queue (op ∷ []) in omega arith);
    most = h.most;
    clear = h.clear;
    landed = elim h.landed [ inl none ↦ inl none | inr s ↦ inr (is_step_queued d c j op f.count s) ];
  }

  pub flight_there : (j : Journal) (o : Option Flight) (f : Flight) → o ≡ Some f → FlightMeets d c j o → Flying d c j f
  flight_there j o f e h = subst (FlightMeets d c j) e h

  pub flight_none : (j : Journal) (o : Option Flight) → o ≡ None → FlightMeets d c j o → NoneOf d (drop j.known c)
  flight_none j o e h = subst (FlightMeets d c j) e h

  -- ---- file calls

  queued_session : (p : Part) (j : Journal) (op : Op) (left : Option ℕ) → SessionMeets d c p j
      → SessionMeets d c (record p { may = queued op j ∷ []; plan = None; left = left; acknowledged = p.acknowledged ++ op ∷ [] }) (queued op j)
  queued_session p j op left s = record {
    journal_is = refl;
    known = s.known;
    base = s.base;
    role = s.role;
    flight = flight_queued j op p.flight s.flight;
    plan = λ n e. cc;
  }

  ask_queued : (name : List ℕ) (j : Journal) (op : Op) (f : Flight) → f.count ≤ length j.queue → ask_of d name j f ≡ ask_of d name (queued op j) f
  ask_queued name j op f few = ap (λ ops. record { number = f.number; revision = record { writer = d; name = name; moment = moment_of_last ops; deed = Stepped ops } }) (sym (take-append-le f.count j.queue (op ∷ []) few))

  module _ (p : Part) (j : Journal) (op : Op) (part : PartMeets d c p) (at : IsOpenAt p j) (device : op.device ≡ d) (seq : op.seq ≡ last_seq j + 1)
      (small : last_seq j + 1 < 2 ^ 32) (few : length j.queue < 4096)
      (fits : Fits op (fold_ops j.queue (tree_at c j.known))) (proper : IsProper op) (room : use_of (j.queue ++ op ∷ []) ≤ p.area) where
    s : SessionMeets d c p j
    s = at_session p j part at

    more : Meets d c (queued op j)
    more = meets_queued d c j op (at_journal p j part at.journal_is) (flight_step j p.flight s.flight) s.known device seq small few fits proper

    waits_queued : (name : List ℕ) (left : Option ℕ) (w : Waiting) → WaitingMeets d c name p w → WaitingMeets d c name (record p { may = queued op j ∷ []; plan = None; left = left; acknowledged = p.acknowledged ++ op ∷ [] }) w
    waits_queued name left Nothing m = tt
    waits_queued name left (Asked ask) m =
        let one = one_is m.journal j p.may m.at.journal_is at.journal_is in
        let few = (flight_there j p.flight m.flight m.flight_is s.flight).few in
        record {
          journal = queued op j;
          flight = m.flight;
          at = record { session = at.session; journal_is = refl };
          flight_is = m.flight_is;
          ask_is = m.ask_is ∙ ap (λ k. ask_of d name k m.flight) one ∙ ask_queued name j op m.flight few;
          none = subst (λ (k : Journal). NoneOf d (drop k.known c)) one m.none;
        }
    waits_queued name left (Answered (Ok n)) m =
        let one = one_is m.journal j p.may m.at.journal_is at.journal_is in
        let a = subst (λ k. AnswerMeets d c k m.flight (Ok n)) one m.answers in
        record {
          journal = queued op j;
          flight = m.flight;
          at = record { session = at.session; journal_is = refl };
          flight_is = m.flight_is;
          answers = (a.0, is_step_queued d c j op m.flight.count a.1);
        }
    waits_queued name left (Answered (Err fault)) m =
        let one = one_is m.journal j p.may m.at.journal_is at.journal_is in
        record {
          journal = queued op j;
          flight = m.flight;
          at = record { session = at.session; journal_is = refl };
          flight_is = m.flight_is;
          answers = subst (λ k. AnswerMeets d c k m.flight (Err fault)) one m.answers;
        }

    -- the operation was queued, or the disk stopped
    pub adds_part : (left : Option ℕ) → PartMeets d c (record p { may = queued op j ∷ []; plan = None; left = left; acknowledged = p.acknowledged ++ op ∷ [] })
    adds_part left =
        let q : Part = record p { may = queued op j ∷ []; plan = None; left = left; acknowledged = p.acknowledged ++ op ∷ [] } in
        open_part q (queued op j) at.session (queued_session p j op left s) more room

    pub breaks_part : PartMeets d c (record (ended p) { may = j ∷ queued op j ∷ []; stopped = Some op })
    breaks_part = record { some = omega arith; may = all_two (Meets d c) j (queued op j) (at_journal p j part at.journal_is) more; areas = all_two (FitsArea p.area) j (queued op j) (at_area p j part at.journal_is) room; session = λ e. cc; none = λ _. (refl, refl) }

    pub adds_keeps : (name : List ℕ) (w : Waiting) (left : Option ℕ) → Stands d c name p w → Stands d c name (record p { may = queued op j ∷ []; plan = None; left = left; acknowledged = p.acknowledged ++ op ∷ [] }) w
    adds_keeps name w left h =
        let q : Part = record p { may = queued op j ∷ []; plan = None; left = left; acknowledged = p.acknowledged ++ op ∷ [] } in
        record {
          part = adds_part left;
          acknowledged = open_acknowledges p q j (queued op j) part.may h.acknowledged (at_may p j at) (inr (inl (refl, (omega arith)))) refl (op ∷ []) refl refl (h.acknowledged.settled at.session) (held_queued d c j op ∙ ap (λ l. l ++ op ∷ []) (at_held p j h.acknowledged at));
          waiting = waits_queued name left w h.waiting;
        }

    pub breaks_keeps : (name : List ℕ) (w : Waiting) → Stands d c name p w → Stands d c name (record (ended p) { may = j ∷ queued op j ∷ []; stopped = Some op }) Nothing
    breaks_keeps name w h =
        let q : Part = record (ended p) { may = j ∷ queued op j ∷ []; stopped = Some op } in
        let was = at_held p j h.acknowledged at in
        let last : last_seq (queued op j) ≡ last_seq j + 1 = (let e = length-append j.queue (op ∷ []) in omega arith) in
        record {
          part = breaks_part;
          acknowledged = record {
            settled = λ e. cc;
            held = all_two (Holds q) j (queued op j)
                (was ∙ sym (without (last_seq j == op.seq) (p.acknowledged ++ op ∷ []) p.acknowledged (not_same (last_seq j) op.seq seq)))
                (held_queued d c j op ∙ ap (λ l. l ++ op ∷ []) was ∙ sym (within (last_seq (queued op j) == op.seq) (p.acknowledged ++ op ∷ []) p.acknowledged (same (last_seq (queued op j)) op.seq (last ∙ sym seq))));
            without = (j, there j (queued op j ∷ []), without (last_seq j == op.seq) (p.acknowledged ++ op ∷ []) p.acknowledged (not_same (last_seq j) op.seq seq));
            shelf = ended_shelf p j (queued op j) part.may h.acknowledged at (inr (inl (refl, (omega arith))));
          };
          waiting = tt;
        }

  -- ---- picks and notes

  min_some : (a b : ℕ) → 0 < a → 0 < b → 0 < min a b
  min_some a b x y = omega arith

  min_most : (a b : ℕ) → a ≤ most_in_step → min a b ≤ most_in_step
  min_most a b x = omega arith

  min_le : (a b : ℕ) → min a b ≤ b
  min_le a b = omega arith

  -- a flight is kept
  pub picks_part : (most : ℕ) (p : Part) (j : Journal) → 0 < most → most ≤ most_in_step → PartMeets d c p → IsOpenAt p j → p.flight ≡ None → j.mark ≡ false → 0 < length j.queue → PartMeets d c (record p { flight = Some (flight_of most j) })
  picks_part most p j positive bound part at free clear some =
      let s = at_session p j part at in
      let q : Part = record p { flight = Some (flight_of most j) } in
      let session : SessionMeets d c q j = record {
        journal_is = at.journal_is;
        known = s.known;
        base = s.base;
        role = s.role;
        flight = record {
          first = refl;
          number = refl;
          some = min_some most (length j.queue) positive some;
          few = min_le most (length j.queue);
          most = min_most most (length j.queue) bound;
          clear = clear;
          landed = inl (flight_none j p.flight free s.flight);
        };
        plan = s.plan;
      } in
      open_part q j at.session session (at_journal p j part at.journal_is) (at_area p j part at.journal_is)

  pub picks_keeps : (most : ℕ) (name : List ℕ) (p : Part) (w : Waiting) (j : Journal) → 0 < most → most ≤ most_in_step → Stands d c name p w → IsOpenAt p j → p.flight ≡ None → j.mark ≡ false → 0 < length j.queue
      → Stands d c name (record p { flight = Some (flight_of most j) }) (Asked (ask_of d name j (flight_of most j)))
  picks_keeps most name p w j positive bound h at free clear some = record {
    part = picks_part most p j positive bound h.part at free clear some;
    acknowledged = record { settled = h.acknowledged.settled; held = h.acknowledged.held; without = h.acknowledged.without; shelf = h.acknowledged.shelf };
    waiting = record {
      journal = j;
      flight = flight_of most j;
      at = record { session = at.session; journal_is = at.journal_is };
      flight_is = refl;
      ask_is = refl;
      none = flight_none j p.flight free (at_session p j h.part at).flight;
    };
  }

  -- the flight landed, and it is noted
  module _ (p : Part) (j : Journal) (f : Flight) (n : ℕ) (part : PartMeets d c p) (at : IsOpenAt p j) (flight_is : p.flight ≡ Some f) (answers : AnswerMeets d c j f (Ok n)) where
    ls : SessionMeets d c p j
    ls = at_session p j part at

    pub lands_known : Knows d c j (taken n f.count j)
    lands_known =
        let fly = flight_there j p.flight f flight_is ls.flight in
        subst (λ k. Knows d c j (taken k f.count j)) (sym (answers.0 ∙ fly.number)) (step_known d c j f.count (at_journal p j part at.journal_is) answers.1)

    lands_tree : tree_at c n ≡ fold_ops (take f.count j.queue) p.base
    lands_tree =
        let fly = flight_there j p.flight f flight_is ls.flight in
        ap (tree_at c) (answers.0 ∙ fly.number) ∙ step_tree d c j f.count (at_journal p j part at.journal_is) answers.1 ∙ ap (fold_ops (take f.count j.queue)) (sym ls.base)

    lands_role : roles_at c n d ≡ roles_at c j.known d
    lands_role =
        let fly = flight_there j p.flight f flight_is ls.flight in
        (λ i. roles_at c ((answers.0 ∙ fly.number) i) d) ∙ (λ i. step_roles d c j f.count (at_journal p j part at.journal_is).within answers.1 i d)

    pub lands_part : (left : Option ℕ) → PartMeets d c (record p { may = taken n f.count j ∷ []; flight = None; base = fold_ops (take f.count j.queue) p.base; left = left })
    lands_part left =
        let fly = flight_there j p.flight f flight_is ls.flight in
        let q : Part = record p { may = taken n f.count j ∷ []; flight = None; base = fold_ops (take f.count j.queue) p.base; left = left } in
        let session : SessionMeets d c q (taken n f.count j) = record {
          journal_is = refl;
          known = (let a = answers.0 in let b = fly.number in omega arith);
          base = sym lands_tree;
          role = ls.role ∙ sym lands_role;
          flight = lands_known.none;
          plan = λ m e. absurd (let no : true ≡ false = sym (ls.plan m e).0 ∙ fly.clear in cc);
        } in
        open_part q (taken n f.count j) at.session session lands_known.meets (at_drop p j f.count n part at.journal_is)

    pub lands_keeps : (name : List ℕ) (left : Option ℕ) → Acknowledges d c p → Stands d c name (record p { may = taken n f.count j ∷ []; flight = None; base = fold_ops (take f.count j.queue) p.base; left = left }) Nothing
    lands_keeps name left acked =
        let q : Part = record p { may = taken n f.count j ∷ []; flight = None; base = fold_ops (take f.count j.queue) p.base; left = left } in
        record {
          part = lands_part left;
          acknowledged = open_acknowledges p q j (taken n f.count j) part.may acked (at_may p j at) lands_known.onward refl [] (sym (append_none p.acknowledged)) refl (acked.settled at.session) (lands_known.held ∙ at_held p j acked at);
          waiting = tt;
        }

    -- where the disk stopped
    pub land_breaks : (name : List ℕ) → Acknowledges d c p → Stands d c name (record (ended p) { may = j ∷ taken n f.count j ∷ [] }) Nothing
    land_breaks name acked = record {
      part = ended_part p j (taken n f.count j) (at_journal p j part at.journal_is) lands_known.meets (at_area p j part at.journal_is) (at_drop p j f.count n part at.journal_is);
      acknowledged = ended_acknowledges p j (taken n f.count j) part.may acked at lands_known.held lands_known.onward;
      waiting = tt;
    }

  -- the flight came late or was refused, and it is noted
  module _ (p : Part) (j : Journal) (f : Flight) (part : PartMeets d c p) (at : IsOpenAt p j) (flight_is : p.flight ≡ Some f) (none : NoneOf d (drop j.known c)) where
    bs : SessionMeets d c p j
    bs = at_session p j part at

    pub marked : Meets d c (branched j)
    marked =
        let fly = flight_there j p.flight f flight_is bs.flight in
        meets_branched d c j (at_journal p j part at.journal_is) (let some = fly.some in let few = fly.few in omega arith)

    pub parts_part : (left : Option ℕ) → PartMeets d c (record p { may = branched j ∷ []; flight = None; left = left })
    parts_part left =
        let q : Part = record p { may = branched j ∷ []; flight = None; left = left } in
        let session : SessionMeets d c q (branched j) = record {
          journal_is = refl;
          known = bs.known;
          base = bs.base;
          role = bs.role;
          flight = none;
          plan = λ n e. (refl, (bs.plan n e).1, (bs.plan n e).2);
        } in
        open_part q (branched j) at.session session marked (at_area p j part at.journal_is)

    pub parts_keeps : (name : List ℕ) (left : Option ℕ) → Acknowledges d c p → Stands d c name (record p { may = branched j ∷ []; flight = None; left = left }) Nothing
    parts_keeps name left acked =
        let q : Part = record p { may = branched j ∷ []; flight = None; left = left } in
        record {
          part = parts_part left;
          acknowledged = open_acknowledges p q j (branched j) part.may acked (at_may p j at) (inr (inl (refl, (omega arith)))) refl [] (sym (append_none p.acknowledged)) refl (acked.settled at.session) (at_held p j acked at);
          waiting = tt;
        }

    pub part_breaks : (name : List ℕ) → Acknowledges d c p → Stands d c name (record (ended p) { may = j ∷ branched j ∷ [] }) Nothing
    part_breaks name acked = record {
      part = ended_part p j (branched j) (at_journal p j part at.journal_is) marked (at_area p j part at.journal_is) (at_area p j part at.journal_is);
      acknowledged = ended_acknowledges p j (branched j) part.may acked at refl (inr (inl (refl, (omega arith))));
      waiting = tt;
    }

    pub kept_part : PartMeets d c (record p { flight = None })
    kept_part =
        let q : Part = record p { flight = None } in
        let session : SessionMeets d c q j = record { journal_is = at.journal_is; known = bs.known; base = bs.base; role = bs.role; flight = none; plan = bs.plan } in
        open_part q j at.session session (at_journal p j part at.journal_is) (at_area p j part at.journal_is)

    pub kept_keeps : (name : List ℕ) → Acknowledges d c p → Stands d c name (record p { flight = None }) Nothing
    kept_keeps name acked =
        record {
          part = kept_part;
          acknowledged = record { settled = acked.settled; held = acked.held; without = acked.without; shelf = acked.shelf };
          waiting = tt;
        }

  -- ---- pulls and fetches

  -- a device without operations in its queue has no flight
  no_flight : (j : Journal) (o : Option Flight) → FlightMeets d c j o → j.queue ≡ [] → NoneOf d (drop j.known c) × (o ≡ None)
  no_flight j None h empty = (h, refl)
  no_flight j (Some f) h empty = absurd (let some = h.some in let few = h.few in let zero_long : length j.queue ≡ 0 = ap length empty in omega arith)

  no_plan : (o : Option ℕ) → ((n : ℕ) → o ≡ Some n → ⊥) → o ≡ None
  no_plan None h = refl
  no_plan (Some n) h = absurd (h n refl)

  -- what waits belongs to a flight
  pub no_waiting : (name : List ℕ) (p : Part) (w : Waiting) → WaitingMeets d c name p w → p.flight ≡ None → w ≡ Nothing
  no_waiting name p Nothing m e = refl
  no_waiting name p (Asked ask) m e = absurd (let no : None ≡ Some m.flight = sym e ∙ m.flight_is in cc)
  no_waiting name p (Answered answer) m e = absurd (let no : None ≡ Some m.flight = sym e ∙ m.flight_is in cc)

  pub head_meets : (p : Part) (j : Journal) → PartMeets d c p → IsOpenAt p j → j.queue ≡ [] → Knows d c j (record j { known = length c })
  head_meets p j part at empty =
      let s = at_session p j part at in
      head_known d c j j (record { meets = at_journal p j part at.journal_is; none = (no_flight j p.flight s.flight empty).0; held = refl; last = refl; onward = stays d c j }) empty

  -- the head became known
  pub pulls_part : (p : Part) (j : Journal) (role : Option Role) (left : Option ℕ) → PartMeets d c p → IsOpenAt p j → j.queue ≡ [] → role ≡ roles_at c (length c) d
      → PartMeets d c (record p { may = record j { known = length c } ∷ []; base = tree_at c (length c); role = role; left = left })
  pulls_part p j role left part at empty role_is =
      let s = at_session p j part at in
      let k : Journal = record j { known = length c } in
      let q : Part = record p { may = k ∷ []; base = tree_at c (length c); role = role; left = left } in
      let known = head_meets p j part at empty in
      let m = at_journal p j part at.journal_is in
      let session : SessionMeets d c q k = record {
        journal_is = refl;
        known = (let a = s.known in let b = m.within in omega arith);
        base = refl;
        role = role_is;
        flight = subst (FlightMeets d c k) (sym (no_flight j p.flight s.flight empty).1) known.none;
        plan = λ n e. absurd (let some = m.marked (s.plan n e).0 in let zero_long : length j.queue ≡ 0 = ap length empty in omega arith);
      } in
      open_part q k at.session session known.meets (at_area p j part at.journal_is)

  pub pulls_keeps : (name : List ℕ) (p : Part) (w : Waiting) (j : Journal) (role : Option Role) (left : Option ℕ) → Stands d c name p w → IsOpenAt p j → j.queue ≡ [] → role ≡ roles_at c (length c) d
      → Stands d c name (record p { may = record j { known = length c } ∷ []; base = tree_at c (length c); role = role; left = left }) w
  pulls_keeps name p w j role left h at empty role_is =
      let k : Journal = record j { known = length c } in
      let q : Part = record p { may = k ∷ []; base = tree_at c (length c); role = role; left = left } in
      let known = head_meets p j h.part at empty in
      let idle = (no_flight j p.flight (at_session p j h.part at).flight empty).1 in
      record {
        part = pulls_part p j role left h.part at empty role_is;
        acknowledged = open_acknowledges p q j k h.part.may h.acknowledged (at_may p j at) known.onward refl [] (sym (append_none p.acknowledged)) refl (h.acknowledged.settled at.session) (known.held ∙ at_held p j h.acknowledged at);
        waiting = subst (WaitingMeets d c name q) (sym (no_waiting name p w h.waiting idle)) tt;
      }

  pub pull_breaks : (name : List ℕ) (p : Part) (w : Waiting) (j : Journal) → Stands d c name p w → IsOpenAt p j → j.queue ≡ []
      → Stands d c name (record (ended p) { may = j ∷ record j { known = length c } ∷ [] }) Nothing
  pull_breaks name p w j h at empty =
      let known = head_meets p j h.part at empty in
      record {
        part = ended_part p j (record j { known = length c }) (at_journal p j h.part at.journal_is) known.meets (at_area p j h.part at.journal_is) (at_area p j h.part at.journal_is);
        acknowledged = ended_acknowledges p j (record j { known = length c }) h.part.may h.acknowledged at known.held known.onward;
        waiting = tt;
      }

  -- what is said of a part by its journals, session and flight
  same_waiting : (name : List ℕ) (p q : Part) (w : Waiting) → q.may ≡ p.may → q.is_open ≡ p.is_open → q.flight ≡ p.flight → WaitingMeets d c name p w → WaitingMeets d c name q w
  same_waiting name p q Nothing may is flight m = tt
  same_waiting name p q (Asked ask) may is flight m = record { journal = m.journal; flight = m.flight; at = record { session = is ∙ m.at.session; journal_is = may ∙ m.at.journal_is }; flight_is = flight ∙ m.flight_is; ask_is = m.ask_is; none = m.none }
  same_waiting name p q (Answered answer) may is flight m = record { journal = m.journal; flight = m.flight; at = record { session = is ∙ m.at.session; journal_is = may ∙ m.at.journal_is }; flight_is = flight ∙ m.flight_is; answers = m.answers }

  -- a plan is made or dropped
  pub planned_part : (p : Part) (j : Journal) (plan : Option ℕ) → PartMeets d c p → IsOpenAt p j → ((n : ℕ) → plan ≡ Some n → (j.mark ≡ true) × (j.known ≤ n) × (n ≤ length c)) → PartMeets d c (record p { plan = plan })
  planned_part p j plan part at fits =
      let s = at_session p j part at in
      let q : Part = record p { plan = plan } in
      let session : SessionMeets d c q j = record { journal_is = at.journal_is; known = s.known; base = s.base; role = s.role; flight = s.flight; plan = fits } in
      open_part q j at.session session (at_journal p j part at.journal_is) (at_area p j part at.journal_is)

  pub planned_keeps : (name : List ℕ) (p : Part) (w : Waiting) (j : Journal) (plan : Option ℕ) → Stands d c name p w → IsOpenAt p j → ((n : ℕ) → plan ≡ Some n → (j.mark ≡ true) × (j.known ≤ n) × (n ≤ length c))
      → Stands d c name (record p { plan = plan }) w
  planned_keeps name p w j plan h at fits = record {
    part = planned_part p j plan h.part at fits;
    acknowledged = record { settled = h.acknowledged.settled; held = h.acknowledged.held; without = h.acknowledged.without; shelf = h.acknowledged.shelf };
    waiting = same_waiting name p (record p { plan = plan }) w refl refl refl h.waiting;
  }

  -- ---- fuse, power, want of memory

  pub left_part : (p : Part) (left : Option ℕ) → PartMeets d c p → PartMeets d c (record p { left = left })
  left_part p left part = record {
    some = part.some;
    may = part.may;
    areas = part.areas;
    session = λ is. (
        let s = part.session is in
        (s.0, record { journal_is = s.1.journal_is; known = s.1.known; base = s.1.base; role = s.1.role; flight = s.1.flight; plan = s.1.plan }));
    none = part.none;
  }

  pub left_keeps : (name : List ℕ) (p : Part) (w : Waiting) (left : Option ℕ) → Stands d c name p w → Stands d c name (record p { left = left }) w
  left_keeps name p w left h = record {
    part = left_part p left h.part;
    acknowledged = record { settled = h.acknowledged.settled; held = h.acknowledged.held; without = h.acknowledged.without; shelf = h.acknowledged.shelf };
    waiting = same_waiting name p (record p { left = left }) w refl refl refl h.waiting;
  }

  -- the shelf gets the journal of a session
  pub shelved_part : (p : Part) (j : Journal) → PartMeets d c p → PartMeets d c (record p { shelved = Some j })
  shelved_part p j part = record {
    some = part.some;
    may = part.may;
    areas = part.areas;
    session = λ is. (
        let s = part.session is in
        (s.0, record { journal_is = s.1.journal_is; known = s.1.known; base = s.1.base; role = s.1.role; flight = s.1.flight; plan = s.1.plan }));
    none = part.none;
  }

  pub shelved_keeps : (name : List ℕ) (p : Part) (w : Waiting) (j : Journal) → Stands d c name p w → IsOpenAt p j → Stands d c name (record p { shelved = Some j }) w
  shelved_keeps name p w j h at =
      let kept : ShelfMeets d c p.acknowledged p.may j = record {
        met = met d c j (at_journal p j h.part at.journal_is);
        more = [];
        front = sym (at_held p j h.acknowledged at) ∙ sym (append_none (held d c j));
        goes = subst (All (GoesOn d c j)) (sym at.journal_is) (all_one (GoesOn d c j) j (inr (inl refl)));
      } in
      record {
        part = shelved_part p j h.part;
        acknowledged = record {
          settled = h.acknowledged.settled;
          held = h.acknowledged.held;
          without = h.acknowledged.without;
          shelf = λ k is. (let same : j ≡ k = cc in subst (ShelfMeets d c p.acknowledged p.may) same kept);
        };
        waiting = same_waiting name p (record p { shelved = Some j }) w refl refl refl h.waiting;
      }

  -- a session ends
  pub closed_part : (p : Part) → PartMeets d c p → PartMeets d c (closed p)
  closed_part p part = record { some = part.some; may = part.may; areas = part.areas; session = λ e. cc; none = λ _. (refl, refl) }

  pub closed_keeps : (name : List ℕ) (p : Part) (w : Waiting) → Stands d c name p w → Stands d c name (closed p) Nothing
  closed_keeps name p w h = record {
    part = closed_part p h.part;
    acknowledged = record { settled = λ e. cc; held = h.acknowledged.held; without = h.acknowledged.without; shelf = h.acknowledged.shelf };
    waiting = tt;
  }

  pub powered_keeps : (name : List ℕ) (p : Part) (w : Waiting) → Stands d c name p w → Stands d c name (powered p) Nothing
  powered_keeps name p w h = left_keeps name (closed p) Nothing None (closed_keeps name p w h)

  -- ---- openings

  -- a session on what was found and taken over
  pub opened_part : (p : Part) (found : Journal) (left : Option ℕ) → PartMeets d c p → Contains p.may found → 1 ≤ length c → PartMeets d c (opened d c p found left)
  opened_part p found left part may some =
      let k = resumed d c found in
      let q : Part = opened d c p found left in
      let m = All-contains (Meets d c) p.may found part.may may in
      let known = resumed_known d c found m in
      let session : SessionMeets d c q k = record { journal_is = refl; known = resumed_from d c found m some; base = refl; role = refl; flight = known.none; plan = λ n e. cc } in
      let fits = All-contains (FitsArea p.area) p.may found part.areas may in
      let less = resumed_use d c found in
      open_part q k refl session known.meets (omega (arith, fits, less))

  pub opened_keeps : (name : List ℕ) (p : Part) (found : Journal) (left : Option ℕ) → PartMeets d c p → Acknowledges d c p → Contains p.may found → 1 ≤ length c → Stands d c name (opened d c p found left) Nothing
  opened_keeps name p found left part acked may some =
      let known = resumed_known d c found (All-contains (Meets d c) p.may found part.may may) in
      record {
        part = opened_part p found left part may some;
        acknowledged = open_acknowledges p (opened d c p found left) found (resumed d c found) part.may acked may known.onward refl (acked_more p found).0 (acked_more p found).1 refl refl (known.held ∙ All-contains (Holds p) p.may found acked.held may);
        waiting = tt;
      }

  -- where the disk stopped
  pub not_opened_part : (p : Part) → PartMeets d c p → p.is_open ≡ false → PartMeets d c (record p { may = p.may ++ (map (taken_over d c) p.may ++ map (resumed d c) p.may); left = Some 0 })
  not_opened_part p part closed =
      let over = map (taken_over d c) p.may in
      let on = map (resumed d c) p.may in
      let may_over : All (Meets d c) over = All-map (Meets d c) (taken_over d c) p.may (All-weaker (Meets d c) (λ j. Meets d c (taken_over d c j)) (λ j m. (over_known d c j m).meets) p.may part.may) in
      let area_over : All (FitsArea p.area) over = All-map (FitsArea p.area) (taken_over d c) p.may (All-weaker (FitsArea p.area) (λ j. FitsArea p.area (taken_over d c j)) (λ j fits. less_over j fits) p.may part.areas) in
      let area_on : All (FitsArea p.area) on = All-map (FitsArea p.area) (resumed d c) p.may (All-weaker (FitsArea p.area) (λ j. FitsArea p.area (resumed d c j)) (λ j fits. less_on j fits) p.may part.areas) in
      let may_on : All (Meets d c) on = All-map (Meets d c) (resumed d c) p.may (All-weaker (Meets d c) (λ j. Meets d c (resumed d c j)) (λ j m. (resumed_known d c j m).meets) p.may part.may) in
      record {
        some = (let n = part.some in let e = length-append p.may (over ++ on) in omega arith);
        may = All-append (Meets d c) p.may (over ++ on) part.may (All-append (Meets d c) over on may_over may_on);
        areas = All-append (FitsArea p.area) p.may (over ++ on) part.areas (All-append (FitsArea p.area) over on area_over area_on);
        session = λ is. absurd (let no : true ≡ false = sym is ∙ closed in cc);
        none = part.none;
      }
    where
      less_over : (j : Journal) → FitsArea p.area j → FitsArea p.area (taken_over d c j)
      less_over j fits = (let less = over_use d c j in omega (arith, fits, less))

      less_on : (j : Journal) → FitsArea p.area j → FitsArea p.area (resumed d c j)
      less_on j fits = (let less = resumed_use d c j in omega (arith, fits, less))

  pub not_opened_keeps : (name : List ℕ) (p : Part) → PartMeets d c p → Acknowledges d c p → p.is_open ≡ false
      → Stands d c name (record p { may = p.may ++ (map (taken_over d c) p.may ++ map (resumed d c) p.may); left = Some 0 }) Nothing
  not_opened_keeps name p part acked closed =
      let over = map (taken_over d c) p.may in
      let on = map (resumed d c) p.may in
      let q : Part = record p { may = p.may ++ (over ++ on); left = Some 0 } in
      let both : All (λ j. Meets d c j × Holds p j) p.may = all_both (Meets d c) (Holds p) p.may part.may acked.held in
      let held_over : All (Holds p) over = All-map (Holds p) (taken_over d c) p.may (All-weaker (λ j. Meets d c j × Holds p j) (λ j. Holds p (taken_over d c j)) (λ j m. knows_holds j (taken_over d c j) (over_known d c j m.0) m.1) p.may both) in
      let held_on : All (Holds p) on = All-map (Holds p) (resumed d c) p.may (All-weaker (λ j. Meets d c j × Holds p j) (λ j. Holds p (resumed d c j)) (λ j m. knows_holds j (resumed d c j) (resumed_known d c j m.0) m.1) p.may both) in
      record {
        part = not_opened_part p part closed;
        acknowledged = record {
          settled = λ is. absurd (let no : true ≡ false = sym is ∙ closed in cc);
          held = All-append (Holds p) p.may (over ++ on) acked.held (All-append (Holds p) over on held_over held_on);
          without = (acked.without.0, Contains-append_left p.may (over ++ on) acked.without.0 acked.without.1, acked.without.2);
          shelf = λ kept is. (
              let s = acked.shelf kept is in
              let all : All (λ j. (Meets d c j × Holds p j) × GoesOn d c kept j) p.may = all_both (λ j. Meets d c j × Holds p j) (GoesOn d c kept) p.may both s.goes in
              let goes : (f : Journal → Journal) → ((j : Journal) → Meets d c j → Onward d c j (f j)) → All (GoesOn d c kept) (map f p.may) =
              λ f onward. All-map (GoesOn d c kept) f p.may (All-weaker (λ j. (Meets d c j × Holds p j) × GoesOn d c kept j) (λ j. GoesOn d c kept (f j)) (λ j m. goes_on d c kept j (f j) (shelf_last p kept j s m.0.0 m.0.1) m.1 (onward j m.0.0)) p.may all) in
              record {
                met = s.met;
                more = s.more;
                front = s.front;
                goes = All-append (GoesOn d c kept) p.may (over ++ on) s.goes (All-append (GoesOn d c kept) over on (goes (taken_over d c) (λ j m. (over_known d c j m).onward)) (goes (resumed d c) (λ j m. (resumed_known d c j m).onward)));
              });
        };
        waiting = tt;
      }
    where
      knows_holds : (j k : Journal) → Knows d c j k → Holds p j → Holds p k
      knows_holds j k known h = known.held ∙ h ∙ sym (same_last p j k known.last)
