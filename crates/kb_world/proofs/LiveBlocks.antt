-- What a block leaves holds as every state of the machine does.
use Rattle.std.proofs.Common.{◌≡◌, ◌⊎◌, ℕ, zero, suc, ◌+◌, ◌≤◌, Bool, true, false, List, [], ◌∷◌, ◌++◌, length, All, Option, Some, None, inl, inr, refl, sym, ap, ◌∙◌, subst, arith}
use Rattle.std.specs.Prelude.{slice_get}
use Rattle.std.proofs.lemmas.List.Elements.{All-nil}
use Rattle.kb_snap.specs.Chains.{Chain}
use Rattle.kb_snap.specs.Lawful.{IsLawful}
use Rattle.kb_snap.specs.Members.{IsDeclared}
use Rattle.kb_snap.proofs.Lists.{get_there, member_at}
use Rattle.kb_device.specs.Parts.{Part}
use Rattle.kb_device.specs.Waits.{Waiting, Nothing, waiting_if}
use Rattle.kb_device.proofs.Steps.{closed_waiting}
use Rattle.kb_world.specs.Statements.{Act, Reply}
use Rattle.kb_world.specs.Machine.{Member, State, new_state, went, most_devices}
use Rattle.kb_world.specs.Good.{MemberMeets, MembersMeet, names_of, IsGood}
use Rattle.kb_world.specs.Live.{Event, Put, BlockRan, went_all, after_block, Acts, puts_in, IsOne, AreHistories, Drops, Did, DidStatement, DidBlock, LiveRun, BlocksAreActs, BlocksKeep, BlocksOwn, LiveRunsAreGood}
use Rattle.kb_world.proofs.Machine.{steps_keep, new_good}
use Rattle.kb_world.proofs.GoodStates.{good_owned}
use Rattle.kb_world.proofs.LiveParts.{append_none}
use Rattle.kb_world.proofs.LiveEvents.{Kept, at_part}
use Rattle.kb_world.proofs.LiveRuns.{beside_self, AllHere, There, SoFar, Ending, run_puts, run_ends}

-- ---- lists of members

pub length_went : (d : ℕ) (parts : ℕ → Part) (members : List Member) → length (went_all d parts members) ≡ length members
length_went d parts [] = refl
length_went d parts (m ∷ members) = ap (λ n. suc n) (length_went (d + 1) parts members)

names_went : (d : ℕ) (parts : ℕ → Part) (members : List Member) → names_of (went_all d parts members) ≡ names_of members
names_went d parts [] = refl
names_went d parts (m ∷ members) = ap (λ l. m.name ∷ l) (names_went (d + 1) parts members)

pub went_at : (members : List Member) (d : ℕ) (parts : ℕ → Part) (i : ℕ) (m : Member) → slice_get members i ≡ Some m → slice_get (went_all d parts members) i ≡ Some (went m (parts (d + i)))
went_at [] d parts i m e = cc
went_at (x ∷ members) d parts zero m e =
    let same : x ≡ m = cc in
    let number : d ≡ d + 0 = omega arith in
    ap (λ (y : Member). Some (went y (parts d))) same ∙ ap (λ k. Some (went m (parts k))) number
went_at (x ∷ members) d parts (suc i) m e =
    let number : d + 1 + i ≡ d + suc i = omega arith in
    went_at members (d + 1) parts i m e ∙ ap (λ k. Some (went m (parts k))) number

some_same : {A : Type 0} (x y : A) (o : Option A) → o ≡ Some x → o ≡ Some y → x ≡ y
some_same x y o a b = cc

pub went_from : (members : List Member) (d : ℕ) (parts : ℕ → Part) (i : ℕ) (n : Member) → slice_get (went_all d parts members) i ≡ Some n → (m : Member) × (slice_get members i ≡ Some m) × (n ≡ went m (parts (d + i)))
went_from members d parts i n e =
    let lt = get_there (went_all d parts members) i n e in
    let count = length_went d parts members in
    let at = member_at members i (omega (arith, lt, count)) in
    (at.0, at.1, some_same n (went at.0 (parts (d + i))) (slice_get (went_all d parts members) i) e (went_at members d parts i at.0 at.1))

names_same : (xs ys : List Member) → length ys ≡ length xs → ((i : ℕ) (m : Member) → slice_get xs i ≡ Some m → (n : Member) × (slice_get ys i ≡ Some n) × (n.name ≡ m.name)) → names_of ys ≡ names_of xs
names_same [] [] count h = refl
names_same [] (y ∷ ys) count h = absurd (omega (arith, count))
names_same (x ∷ xs) [] count h = absurd (omega (arith, count))
names_same (x ∷ xs) (y ∷ ys) count h =
    let one = h zero x refl in
    let same : y ≡ one.0 = some_same y one.0 (slice_get (y ∷ ys) zero) refl one.1 in
    let name : y.name ≡ x.name = ap (λ (z : Member). z.name) same ∙ one.2 in
    let rest = names_same xs ys (omega (arith, count)) (λ i m e. h (suc i) m e) in
    ap (λ n. n ∷ names_of ys) name ∙ ap (λ l. x.name ∷ l) rest

-- ---- what waits

dropped_none : (b : Bool) → waiting_if b Nothing ≡ Nothing
dropped_none true = refl
dropped_none false = refl

waits_self : (b : Bool) (w : Waiting) → (b ≡ false → w ≡ Nothing) → w ≡ waiting_if b w
waits_self true w none = refl
waits_self false w none = none refl

-- at its end a device is what the block leaves of it, or it is so once what waits is dropped
left_of : (m : Member) (p last : Part) (w : Waiting) → last ≡ p → Kept m.waiting p w → (at_part m p w ≡ went m last) ⊎ (at_part m p Nothing ≡ went m last)
left_of m p last w e (inl is) = inl (ap (at_part m p) is ∙ ap (went m) (sym e))
left_of m p last w e (inr none) =
    let drops : waiting_if p.is_open m.waiting ≡ Nothing = ap (waiting_if p.is_open) none ∙ dropped_none p.is_open in
    inr (ap (at_part m p) (sym drops) ∙ ap (went m) (sym e))

meets_left : (d : ℕ) (c : Chain) (m : Member) (p last : Part) (w : Waiting) → (at_part m p w ≡ went m last) ⊎ (at_part m p Nothing ≡ went m last) → MemberMeets d c (at_part m p w) → MemberMeets d c (went m last)
meets_left d c m p last w (inl same) h = subst (MemberMeets d c) same h
meets_left d c m p last w (inr same) h = subst (MemberMeets d c) same (record { name = h.name; batch = h.batch; part = h.part; acknowledged = h.acknowledged; waiting = tt })

module _ (s : State) (events : ℕ → List Event) (puts : List Put) (parts : ℕ → Part) (c : Chain) (good : IsGood s) (ran : BlockRan s events puts parts c) where
  start : AllHere s events puts parts c [] s puts
  start i m e =
      let one = ran.devices i m e in
      record {
        part = m.part;
        waits = m.waiting;
        found = e;
        rest = events (i + 1);
        cursor = record {
          put = None;
          replays = one.replays;
          told = one.told;
          outs = tt;
          kept = inl (waits_self m.part.is_open m.waiting (closed_waiting (i + 1) s.chain m.name m.part m.waiting (good.members i m e).waiting));
        };
        said = refl;
      }

  all_put : (so : SoFar s events puts parts c []) × (so.state.chain ≡ c)
  all_put = run_puts s events puts parts c (λ i m e. (ran.devices i m e).carried) puts
      (record { xs = []; state = s; acts = refl; good = good; beside = beside_self s; here = start; left = record { folder = refl; only = All-nil (IsOne (length s.members)) } }) ran.folder ran.declared

  all_end : Ending s events puts parts c 0
  all_end = run_ends s events puts parts c (length s.members) (omega arith)
      (record { so = all_put.0; chain = all_put.1; there = λ j x le at. absurd (let lt = get_there s.members j x at in omega (arith, le, lt)) })

  abbrev last : SoFar s events puts parts c []
  last = all_end.so

  there_at : (i : ℕ) (m : Member) → slice_get s.members i ≡ Some m → There s events puts parts c last.xs last.state i m
  there_at i m e = all_end.there i m (omega arith) e

  abbrev last_state : State
  last_state = last.state

  chain_is : last_state.chain ≡ c
  chain_is = all_end.chain

  names_is : names_of last_state.members ≡ names_of (went_all 1 parts s.members)
  names_is = names_same s.members last_state.members last.beside.count (λ i m e. (let there = there_at i m e in (at_part m there.part there.waits, there.found, refl))) ∙ sym (names_went 1 parts s.members)

  left_at : (i : ℕ) (m : Member) (e : slice_get s.members i ≡ Some m) → (let there = there_at i m e in (at_part m there.part there.waits ≡ went m (parts (i + 1))) ⊎ (at_part m there.part Nothing ≡ went m (parts (i + 1))))
  left_at i m e = (let there = there_at i m e in left_of m there.part (parts (i + 1)) there.waits there.cursor.replays there.cursor.kept)

  number : (i : ℕ) → i + 1 ≡ 1 + i
  number i = omega arith

  members_meet : MembersMeet c (went_all 1 parts s.members)
  members_meet i n e =
      let from = went_from s.members 1 parts i n e in
      let m = from.0 in
      let there = there_at i m from.1 in
      let meets = subst (λ k. MemberMeets (i + 1) k (at_part m there.part there.waits)) chain_is (last.good.members i (at_part m there.part there.waits) there.found) in
      let left = meets_left (i + 1) c m there.part (parts (i + 1)) there.waits (left_at i m from.1) meets in
      subst (MemberMeets (i + 1) c) (ap (λ k. went m (parts k)) (number i) ∙ sym from.2) left

  pub keeps : IsGood (after_block s parts c)
  keeps = record {
    moment = good.moment;
    rule = good.rule;
    devices = subst (λ n. n ≤ most_devices) (sym (length_went 1 parts s.members)) good.devices;
    chain = subst IsLawful chain_is last.good.chain;
    declared = subst (λ l. All (IsDeclared l) c) names_is (subst (All (IsDeclared (names_of last_state.members))) chain_is last.good.declared);
    members = members_meet;
  }

  drop_at : (i : ℕ) (m : Member) (p : Part) (w : Waiting) (n : Member) → n ≡ at_part m p w → slice_get s.members i ≡ Some m → (at_part m p w ≡ went m (parts (i + 1))) ⊎ (at_part m p Nothing ≡ went m (parts (i + 1)))
      → (slice_get (went_all 1 parts s.members) i ≡ Some n) ⊎ (slice_get (went_all 1 parts s.members) i ≡ Some (record n { waiting = Nothing }))
  drop_at i m p w n is e (inl same) = inl (went_at s.members 1 parts i m e ∙ ap (λ k. Some (went m (parts k))) (sym (number i)) ∙ ap (λ (y : Member). Some y) (sym same ∙ sym is))
  drop_at i m p w n is e (inr same) =
      inr (went_at s.members 1 parts i m e ∙ ap (λ k. Some (went m (parts k))) (sym (number i)) ∙ ap (λ (y : Member). Some y) (sym same ∙ ap (λ (y : Member). record y { waiting = Nothing }) (sym is)))

  drops : Drops last_state (after_block s parts c)
  drops = record {
    state = sym (ap (λ (x : State). record x { members = went_all 1 parts s.members }) last.beside.state ∙ ap (λ k. record s { chain = k; members = went_all 1 parts s.members }) chain_is);
    count = length_went 1 parts s.members ∙ sym last.beside.count;
    members = λ i n e.
        (let lt = get_there last_state.members i n e in
        let count = last.beside.count in
        let at = member_at s.members i (omega (arith, lt, count)) in
        let there = there_at i at.0 at.1 in
        drop_at i at.0 there.part there.waits n (some_same n (at_part at.0 there.part there.waits) (slice_get last_state.members i) e there.found) at.1 (left_at i at.0 at.1));
  }

  histories : AreHistories (length s.members) events puts last.xs
  histories = record {
    devices = λ i lt. (let at = member_at s.members i lt in (there_at i at.0 at.1).said);
    folder = sym (append_none (puts_in last.xs) [] refl) ∙ last.left.folder;
    only = last.left.only;
  }

  pub acts : (xs : List (Act × Reply)) × (u : State) × Acts s xs u × AreHistories (length s.members) events puts xs × Drops u (after_block s parts c)
  acts = (last.xs, last_state, last.acts, histories, drops)

pub blocks_keep : BlocksKeep
blocks_keep s events puts parts c good ran = keeps s events puts parts c good ran

pub blocks_are_acts : BlocksAreActs
blocks_are_acts s events puts parts c good ran = acts s events puts parts c good ran

pub blocks_own : BlocksOwn
blocks_own s events puts parts c d m good ran is = good_owned (after_block s parts c) d m (keeps s events puts parts c good ran) is

-- ---- runs with blocks

live_keeps : (s : State) (did : List Did) (t : State) → LiveRun s did t → IsGood s → IsGood t
live_keeps s [] t h good = subst IsGood (sym h) good
live_keeps s (DidStatement statement replies ∷ more) t h good = live_keeps h.0 more t h.2 (steps_keep s statement replies h.0 h.1 good)
live_keeps s (DidBlock events puts parts c ∷ more) t h good = live_keeps (after_block s parts c) more t h.1 (keeps s events puts parts c good h.0)

pub live_runs_good : LiveRunsAreGood
live_runs_good did t h = live_keeps new_state did t h new_good
