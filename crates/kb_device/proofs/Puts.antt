-- What a put of a device's own revision keeps.
use Rattle.std.proofs.Common.{◌≡◌, ℕ, ◌+◌, ◌<◌, true, false, List, [], ◌∷◌, ◌++◌, length, take, drop, All, Option, Some, None, Ok, inr, refl, sym, ap, ◌∙◌, subst, arith, length-append}
use Rattle.std.proofs.lemmas.List.{length-take-le, take_all, length-drop}
use Rattle.kb_ops.specs.Trees.{fold_ops, FitAll}
use Rattle.kb_snap.specs.Chains.{Stepped, most_revisions, Revision, Chain, ops_in, ops_of, tree_at, stamp_of}
use Rattle.kb_keys.specs.Members.{nobody, Roles}
use Rattle.kb_snap.specs.Members.{roles_after, roles_of}
use Rattle.kb_snap.specs.Puts.{Ask, IsNext}
use Rattle.kb_device.specs.Journals.{Journal, taken}
use Rattle.kb_device.specs.Parts.{Merger, IsMerger, Flight, Part, IsOpenAt, closed, ended, merge_ask, tree_shown}
use Rattle.kb_snap.specs.Lawful.{AreOf, CountsFrom, AreFew, FitsDeed, Follows, IsLawful}
use Rattle.kb_device.specs.Meets.{NoneOf, IsStep, IsMerge, Meets, Flying, FlightMeets, SessionMeets, PartMeets, held, Acknowledges, AskMeets}
use Rattle.kb_device.specs.Waits.{Nothing, Answered}
use Rattle.kb_snap.proofs.Lists.{append_none, cut}
use Rattle.kb_snap.proofs.Chains.{ops_append, tree_longer, roles_longer}
use Rattle.kb_snap.proofs.Counts.{own_take, counts_take, fit_take}
use Rattle.kb_device.proofs.Meets.{put_step, meets_step, put_merge, meets_merge, Knows, merge_known}
use Rattle.kb_device.proofs.PartSteps.{all_one, at_may, acknowledges_longer, Stands, at_session, at_journal, at_area, at_drop, at_held, open_part, open_acknowledges, ended_part, ended_acknowledges, flight_there}
use Rattle.kb_snap.proofs.MadeIds.{last_counts}
use Rattle.kb_device.proofs.Merging.{branch_meets}

-- where nothing of the device stands beyond, all its operations come before its queue
pub base_all : (d : ℕ) (c : Chain) (j : Journal) → Meets d c j → NoneOf d (drop j.known c) → length (ops_of d c) ≡ j.base
base_all d c j h none =
    ap (λ l. length (ops_of d l)) (cut j.known c) ∙ ap length (ops_append d (take j.known c) (drop j.known c) ∙ ap (λ l. ops_of d (take j.known c) ++ l) none ∙ append_none (ops_of d (take j.known c)))
    ∙ sym h.base

-- ---- the put of a flight

-- the journal and the flight of the request that waits
module _ (d : ℕ) (c : Chain) (name : List ℕ) (p : Part) (ask : Ask) (part : PartMeets d c p) (w : AskMeets d c name p ask) (next : IsNext c ask) (room : length c < most_revisions) where
  abbrev j : Journal
  j = w.journal

  abbrev f : Flight
  f = w.flight

  s : SessionMeets d c p j
  s = at_session d c p j part w.at

  fly : Flying d c j f
  fly = flight_there d c j p.flight f w.flight_is s.flight

  m : Meets d c j
  m = at_journal d c p j part w.at.journal_is

  number_is : ask.number ≡ f.number
  number_is = ap (λ (a : Ask). a.number) w.ask_is

  writer_is : ask.revision.writer ≡ d
  writer_is = ap (λ (a : Ask). a.revision.writer) w.ask_is

  deed_is : ask.revision.deed ≡ Stepped (take f.count j.queue)
  deed_is = ap (λ (a : Ask). a.revision.deed) w.ask_is

  -- the known revision is the last one
  known_is : j.known ≡ length c
  known_is = (let a = next.number in let b = number_is in let e = fly.number in omega arith)

  pub land_follows : Follows c ask.revision
  land_follows =
      let all = base_all d c j m w.none in
      let counts = counts_take (j.base + 1) f.count j.queue m.counts in
      let some : 0 < length (take f.count j.queue) = (let e = length-take-le f.count j.queue fly.few in let some = fly.some in omega arith) in
      let fit = fit_take f.count j.queue (tree_at c j.known) m.fit in
      record {
        allowed = next.allowed;
        room = room;
        own = subst (λ deed. AreOf ask.revision.writer (ops_in deed)) (sym deed_is) (subst (λ k. AreOf k (take f.count j.queue)) (sym writer_is) (own_take d f.count j.queue m.own));
        counts = subst (λ deed. CountsFrom (length (ops_of ask.revision.writer c) + 1) (ops_in deed)) (sym deed_is)
            (subst (λ n. CountsFrom (n + 1) (take f.count j.queue)) (sym all ∙ ap (λ k. length (ops_of k c)) (sym writer_is)) counts);
        fits = subst (FitsDeed c ask.revision) (sym deed_is) (some, subst (λ n. FitAll (take f.count j.queue) (tree_at c n)) known_is fit, ap (λ (a : Ask). a.revision.moment) w.ask_is, let e = length-take-le f.count j.queue fly.few in let most = fly.most in omega arith);
      }

  x : Revision
  x = ask.revision

  landed : IsStep d j.queue f.count (drop j.known (c ++ ask.revision ∷ []))
  landed = put_step d c ask.revision j f.count m known_is writer_is deed_is fly.some fly.few

  -- the device under the longer chain, while its answer waits
  pub land_part : PartMeets d (c ++ ask.revision ∷ []) p
  land_part =
      let c' = c ++ ask.revision ∷ [] in
      let session : SessionMeets d c' p j = record {
        journal_is = s.journal_is;
        known = s.known;
        base = s.base ∙ sym (tree_longer c (ask.revision ∷ []) j.known m.within);
        role = s.role ∙ ap (λ (roles : Roles). roles d) (sym (roles_longer c (ask.revision ∷ []) j.known m.within));
        flight = subst (FlightMeets d c' j) (sym w.flight_is) (record { first = fly.first; number = fly.number; some = fly.some; few = fly.few; most = fly.most; clear = fly.clear; landed = inr landed });
        plan = λ k e. ((s.plan k e).0, (s.plan k e).1, (let le = (s.plan k e).2 in let a = length-append c (ask.revision ∷ []) in omega arith));
      } in
      open_part d c' p j w.at.session session (meets_step d c ask.revision j f.count m landed) (at_area d c p j part w.at.journal_is)

  pub land_keeps : (n : ℕ) → n ≡ ask.number → Acknowledges d c p → Stands d (c ++ ask.revision ∷ []) name p (Answered (Ok n))
  land_keeps n is acked = record {
    part = land_part;
    acknowledged = acknowledges_longer d c ask.revision p part acked;
    waiting = record { journal = j; flight = f; at = w.at; flight_is = w.flight_is; answers = (is ∙ number_is, landed) };
  }

-- ---- the put of a merge

module _ (d : ℕ) (c : Chain) (by : Merger) (p : Part) (j : Journal) (plan : ℕ) (part : PartMeets d c p) (at : IsOpenAt p j) (plan_is : p.plan ≡ Some plan)
    (next : IsNext c (merge_ask d by j plan)) (room : length c < most_revisions) where
  abbrev y : Revision
  y = (merge_ask d by j plan).revision

  ss : SessionMeets d c p j
  ss = at_session d c p j part at

  sm : Meets d c j
  sm = at_journal d c p j part at.journal_is

  marked : j.mark ≡ true
  marked = (ss.plan plan plan_is).0

  some : 0 < length j.queue
  some = sm.marked marked

  -- a marked device has no flight
  none : NoneOf d (drop j.known c)
  none = idle p.flight ss.flight where
    idle : (o : Option Flight) → FlightMeets d c j o → NoneOf d (drop j.known c)
    idle None h = h
    idle (Some flight) h = absurd (let no : true ≡ false = sym marked ∙ h.clear in cc)

  pub no_flight : p.flight ≡ None
  no_flight = idle p.flight ss.flight where
    idle : (o : Option Flight) → FlightMeets d c j o → o ≡ None
    idle None h = refl
    idle (Some flight) h = absurd (let no : true ≡ false = sym marked ∙ h.clear in cc)

  pub settle_follows : IsLawful c → IsMerger by → AreFew (tree_at c plan) (tree_shown p j) → Follows c y
  settle_follows lawful is few =
      let all = base_all d c j sm none in
      let len : plan ≡ length c = (let e = next.number in omega arith) in
      let last : (stamp_of y by.rule j.queue).last ≡ j.base + length j.queue = (let e = last_counts (j.base + 1) j.queue some sm.counts in omega arith) in
      let here : AreFew (tree_at c (length c)) (fold_ops j.queue (tree_at c j.known)) =
      subst (λ t. AreFew (tree_at c (length c)) (fold_ops j.queue t)) ss.base (subst (λ n. AreFew (tree_at c n) (tree_shown p j)) len few) in
      record {
        allowed = next.allowed;
        room = room;
        own = sm.own;
        counts = subst (λ n. CountsFrom (n + 1) j.queue) (sym all) sm.counts;
        fits = record {
          from = ss.known;
          within = sm.within;
          name = is.name;
          time = is.moment;
          ruled = is.rule;
          some = some;
          fit = sm.fit;
          few = here;
          meet = branch_meets d c j lawful sm none some (length c) (omega arith) (stamp_of y by.rule j.queue) refl last;
        };
      }

  abbrev merged : IsMerge d j.queue (drop j.known (c ++ y ∷ []))
  merged = put_merge d c y j j.known by.rule sm none refl refl some

  pub long : Meets d (c ++ y ∷ []) j
  long = meets_merge d c y j sm merged

  pub settle_known : Knows d (c ++ y ∷ []) j (taken (plan + 1) (length j.queue) j)
  settle_known =
      let number : j.known + length (drop j.known c) + 1 ≡ plan + 1 = (let e = length-drop j.known c in let w = sm.within in let n = next.number in omega arith) in
      subst (λ k. Knows d (c ++ y ∷ []) j (taken k (length j.queue) j)) number (merge_known d (c ++ y ∷ []) j long merged)

  longs : All (Meets d (c ++ y ∷ [])) p.may
  longs = subst (All (Meets d (c ++ y ∷ []))) (sym at.journal_is) (all_one (Meets d (c ++ y ∷ [])) j long)

  still : Acknowledges d c p → held d (c ++ y ∷ []) j ≡ p.acknowledged
  still acked = at_held d (c ++ y ∷ []) p j (acknowledges_longer d c y p part acked) at

  pub settle_part : (left : Option ℕ)
      → PartMeets d (c ++ y ∷ []) (record p { may = taken (plan + 1) (length j.queue) j ∷ []; plan = None; base = tree_at (c ++ y ∷ []) (plan + 1); role = roles_of (c ++ y ∷ []) d; left = left })
  settle_part left =
      let c' = c ++ y ∷ [] in
      let k : Journal = taken (plan + 1) (length j.queue) j in
      let q : Part = record p { may = k ∷ []; plan = None; base = tree_at c' (plan + 1); role = roles_of c' d; left = left } in
      let whole : take (plan + 1) c' ≡ c' = take_all (plan + 1) c' (let e = length-append c (y ∷ []) in let n = next.number in omega arith) in
      let idle : p.flight ≡ None = no_flight in
      let session : SessionMeets d c' q k = record {
        journal_is = refl;
        known = omega arith;
        base = refl;
        role = ap (λ l. roles_after nobody l d) (sym whole);
        flight = subst (FlightMeets d c' k) (sym idle) settle_known.none;
        plan = λ n e. cc;
      } in
      open_part d c' q k at.session session settle_known.meets (at_drop d c p j (length j.queue) (plan + 1) part at.journal_is)

  pub settle_keeps : (left : Option ℕ) → Acknowledges d c p
      → Stands d (c ++ y ∷ []) by.name (record p { may = taken (plan + 1) (length j.queue) j ∷ []; plan = None; base = tree_at (c ++ y ∷ []) (plan + 1); role = roles_of (c ++ y ∷ []) d; left = left }) Nothing
  settle_keeps left acked =
      let c' = c ++ y ∷ [] in
      let k : Journal = taken (plan + 1) (length j.queue) j in
      let q : Part = record p { may = k ∷ []; plan = None; base = tree_at c' (plan + 1); role = roles_of c' d; left = left } in
      record {
        part = settle_part left;
        acknowledged = open_acknowledges d c' p q j k longs (acknowledges_longer d c y p part acked) (at_may d c' p j at) settle_known.onward refl [] (sym (append_none p.acknowledged)) refl (acked.settled at.session) (settle_known.held ∙ still acked);
        waiting = tt;
      }

  pub settle_breaks : Acknowledges d c p → Stands d (c ++ y ∷ []) by.name (record (ended p) { may = j ∷ taken (plan + 1) (length j.queue) j ∷ [] }) Nothing
  settle_breaks acked =
      let c' = c ++ y ∷ [] in
      let k : Journal = taken (plan + 1) (length j.queue) j in
      record {
        part = ended_part d c' p j k long settle_known.meets (at_area d c p j part at.journal_is) (at_drop d c p j (length j.queue) (plan + 1) part at.journal_is);
        acknowledged = ended_acknowledges d c' p j k longs (acknowledges_longer d c y p part acked) at settle_known.held settle_known.onward;
        waiting = tt;
      }

  -- where the reply was lost, the device has its merge beyond what it knows
  pub settle_lost : PartMeets d (c ++ y ∷ []) (closed p)
  settle_lost = record { some = part.some; may = longs; areas = part.areas; session = λ e. cc; none = λ _. (refl, refl) }

  pub settle_lost_keeps : Acknowledges d c p → Stands d (c ++ y ∷ []) by.name (closed p) Nothing
  settle_lost_keeps acked =
      let a = acknowledges_longer d c y p part acked in
      record { part = settle_lost; acknowledged = record { settled = λ e. cc; held = a.held; without = a.without; shelf = a.shelf }; waiting = tt }
