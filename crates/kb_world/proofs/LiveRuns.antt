-- The histories of a block are parts of the machine, one after another: of each device's history what stands before a put
-- is done just before it, and the rest at the end.
use Rattle.std.proofs.Common.{◌≡◌, ◌≢◌, ◌⊎◌, ℕ, zero, suc, ◌+◌, ◌-◌, ◌≤◌, ◌<◌, ◌==◌, Bool, true, false, cond, List, [], ◌∷◌, ◌++◌, length, map, All, Option, Some, None, inl, inr, refl, sym, ap, ◌∙◌, subst, arith, append_assoc}
use Rattle.std.specs.Prelude.{slice_get, slice_set}
use borrow.Author.Tests.{eqb-false, eqb-true, eq-eqb, ne_eqb}
use Rattle.std.proofs.lemmas.List.{length-set}
use Rattle.std.proofs.lemmas.List.Elements.{All-append, All-head, All-tail, All-nil, All-cons}
use Rattle.kb_snap.specs.Chains.{Chain}
use Rattle.kb_snap.specs.Puts.{PutStep}
use Rattle.kb_snap.proofs.Lists.{member_at}
use Rattle.kb_device.specs.Parts.{Part}
use Rattle.kb_device.specs.Waits.{Waiting, Asked, Answered}
use Rattle.kb_world.specs.Statements.{Act, Reply, On, ByLand}
use Rattle.kb_world.specs.Statements as statements
use Rattle.kb_world.specs.Machine.{Member, State, ActStep, landed}
use Rattle.kb_world.specs.Good.{MemberMeets, IsGood}
use Rattle.kb_world.specs.Live.{Event, Put, PutsReplay, puts_of, Acts, event_act, event_reply, event_part, put_act, events_in, puts_in, IsOne, ActsKeep}
use Rattle.kb_world.proofs.Machine.{act_keeps}
use Rattle.kb_world.proofs.LiveParts.{append_none, own_more, other_more, puts_stay, put_is_none, put_more, only_events}
use Rattle.kb_world.proofs.LiveEvents.{Cursor, at_part, Went, one_event}

-- ---- lists

get_set_here : {A : Type 0} (xs : List A) (i : ℕ) (x y : A) → slice_get xs i ≡ Some y → slice_get (slice_set xs i x) i ≡ Some x
get_set_here [] i x y e = cc
get_set_here (z ∷ xs) zero x y e = refl
get_set_here (z ∷ xs) (suc i) x y e = get_set_here xs i x y e

get_set_other : {A : Type 0} (xs : List A) (i j : ℕ) (x y : A) → j ≢ i → slice_get xs j ≡ Some y → slice_get (slice_set xs i x) j ≡ Some y
get_set_other [] i j x y off e = cc
get_set_other (z ∷ xs) zero zero x y off e = absurd (off refl)
get_set_other (z ∷ xs) zero (suc j) x y off e = e
get_set_other (z ∷ xs) (suc i) zero x y off e = e
get_set_other (z ∷ xs) (suc i) (suc j) x y off e = get_set_other xs i j x y (λ s. off (ap suc s)) e

map_append : {A B : Type 0} (f : A → B) (xs ys : List A) → map f (xs ++ ys) ≡ map f xs ++ map f ys
map_append f [] ys = refl
map_append f (x ∷ xs) ys = ap (λ l. f x ∷ l) (map_append f xs ys)

-- ---- parts, one after another

pub acts_then : (s t v : State) (xs ys : List (Act × Reply)) → Acts s xs t → Acts t ys v → Acts s (xs ++ ys) v
acts_then s t v [] ys h k = subst (λ x. Acts x ys v) h k
acts_then s t v (x ∷ xs) ys h k = (h.0, h.1, acts_then h.0 t v xs ys h.2 k)

acts_on : (s t : State) (xs : List (Act × Reply)) → IsGood s → Acts s xs t → IsGood t
acts_on s t [] good h = subst IsGood (sym h) good
acts_on s t (x ∷ xs) good h = acts_on h.0 t xs (act_keeps s h.0 good x.0 x.1 h.1) h.2

pub acts_keep : ActsKeep
acts_keep s t xs good h = acts_on s t xs good h

-- ---- one device

-- the seed, the moment and the rule are the same, and there are as many devices
pub record Beside (s t : State) : Type 0 where
  pub state : t ≡ record s { chain = t.chain; members = t.members }
  pub count : length t.members ≡ length s.members

-- the device at this place is this member, and the others stay
pub record Aside (s : State) (i : ℕ) (n : Member) (t : State) : Type 0 where
  pub beside : Beside s t
  pub here : slice_get t.members i ≡ Some n
  pub others : (j : ℕ) (x : Member) → j ≢ i → slice_get s.members j ≡ Some x → slice_get t.members j ≡ Some x

pub beside_self : (s : State) → Beside s s
beside_self s = record { state = refl; count = refl }

beside_then : (s t v : State) → Beside s t → Beside t v → Beside s v
beside_then s t v h k = record {
  state = k.state ∙ ap (λ (x : State). record x { chain = v.chain; members = v.members }) h.state;
  count = k.count ∙ h.count;
}

aside_self : (s : State) (i : ℕ) (n : Member) → slice_get s.members i ≡ Some n → Aside s i n s
aside_self s i n found = record { beside = beside_self s; here = found; others = λ j x off e. e }

aside_then : (s t v : State) (i : ℕ) (m n : Member) → Aside s i m t → Aside t i n v → Aside s i n v
aside_then s t v i m n h k = record { beside = beside_then s t v h.beside k.beside; here = k.here; others = λ j x off e. k.others j x off (h.others j x off e) }

-- the device is set, perhaps with a longer chain
aside_set : (s : State) (c : Chain) (i : ℕ) (m n : Member) → slice_get s.members i ≡ Some m → Aside s i n (record s { chain = c; members = slice_set s.members i n })
aside_set s c i m n found = record {
  beside = record { state = refl; count = length-set s.members i n };
  here = get_set_here s.members i n m found;
  others = λ j x off e. get_set_other s.members i j n x off e;
}

-- the parts done so far lead to a state that holds
pub record Ran (s : State) (t : State) : Type 0 where
  pub parts : List (Act × Reply)
  pub acts : Acts s parts t
  pub good : IsGood t

abbrev ran_self : (s : State) → IsGood s → Ran s s
ran_self s good = record { parts = []; acts = refl; good = good }

abbrev ran_then : (s t v : State) → Ran s t → Ran t v → Ran s v
ran_then s t v h k = record { parts = h.parts ++ k.parts; acts = acts_then s t v h.parts k.parts h.acts k.acts; good = k.good }

abbrev ran_one : (s t : State) (act : Act) (reply : Reply) → IsGood s → ActStep s act reply t → Ran s t
ran_one s t act reply good step = record { parts = (act, reply) ∷ []; acts = (t, step, refl); good = act_keeps s t good act reply step }

-- a device of a good state
here_meets : (s : State) (i : ℕ) (m : Member) → IsGood s → slice_get s.members i ≡ Some m → MemberMeets (i + 1) s.chain m
here_meets s i m good found = good.members i m found

module _ (moment i : ℕ) (m : Member) (last : Part) where
  -- the device is done with the rest of its history
  pub record Done (s : State) (rest : List Event) : Type 0 where
    pub state : State
    pub ran : Ran s state
    pub part : Part
    pub waits : Waiting
    pub aside : Aside s i (at_part m part waits) state
    pub chain : state.chain ≡ s.chain
    pub cursor : Cursor moment (i + 1) m last part waits [] []
    pub said : ran.parts ≡ map (event_part (i + 1)) rest

  -- the device comes to the request of its next put
  pub record Comes (s : State) (history : List Event) (f : Put) (fs : List Put) : Type 0 where
    pub state : State
    pub ran : Ran s state
    pub part : Part
    pub aside : Aside s i (at_part m part (Asked f.ask)) state
    pub chain : state.chain ≡ s.chain
    pub taken : List Event
    pub rest : List Event
    pub whole : history ≡ taken ++ rest
    pub said : ran.parts ≡ map (event_part (i + 1)) taken
    pub cursor : Cursor moment (i + 1) m last part (Answered f.answer) rest fs

  done_then : (s t : State) (n : Member) (e : Event) (rest : List Event) → (ran : Ran s t) → ran.parts ≡ event_part (i + 1) e ∷ [] → Aside s i n t → t.chain ≡ s.chain → Done t rest → Done s (e ∷ rest)
  done_then s t n e rest ran one aside chain d = record {
    state = d.state;
    ran = ran_then s t d.state ran d.ran;
    part = d.part;
    waits = d.waits;
    aside = aside_then s t d.state i n (at_part m d.part d.waits) aside d.aside;
    chain = d.chain ∙ chain;
    cursor = d.cursor;
    said = ap (λ l. l ++ d.ran.parts) one ∙ ap (λ l. event_part (i + 1) e ∷ l) d.said;
  }

  comes_then : (s t : State) (n : Member) (e : Event) (rest : List Event) (f : Put) (fs : List Put) → (ran : Ran s t) → ran.parts ≡ event_part (i + 1) e ∷ [] → Aside s i n t → t.chain ≡ s.chain → Comes t rest f fs → Comes s (e ∷ rest) f fs
  comes_then s t n e rest f fs ran one aside chain d = record {
    state = d.state;
    ran = ran_then s t d.state ran d.ran;
    part = d.part;
    aside = aside_then s t d.state i n (at_part m d.part (Asked f.ask)) aside d.aside;
    chain = d.chain ∙ chain;
    taken = e ∷ d.taken;
    rest = d.rest;
    whole = ap (λ l. e ∷ l) d.whole;
    said = ap (λ l. l ++ d.ran.parts) one ∙ ap (λ l. event_part (i + 1) e ∷ l) d.said;
    cursor = d.cursor;
  }

  -- the next event is the pick of this put
  comes_now : (s t : State) (p : Part) (w : Waiting) (e : Event) (rest : List Event) (f g : Put) (fs gs : List Put) → f ∷ fs ≡ g ∷ gs → w ≡ Asked g.ask → (ran : Ran s t) → ran.parts ≡ event_part (i + 1) e ∷ [] → Aside s i (at_part m p w) t → t.chain ≡ s.chain
      → Cursor moment (i + 1) m last p (Answered g.answer) rest gs → Comes s (e ∷ rest) f fs
  comes_now s t p w e rest f g fs gs same waits ran one aside chain c =
      let first : g ≡ f = cc in
      let more : gs ≡ fs = cc in
      record {
        state = t;
        ran = ran;
        part = p;
        aside = subst (λ v. Aside s i (at_part m p v) t) (waits ∙ ap (λ (x : Put). Asked x.ask) first) aside;
        chain = chain;
        taken = e ∷ [];
        rest = rest;
        whole = refl;
        said = one;
        cursor = subst (λ l. Cursor moment (i + 1) m last p (Answered f.answer) rest l) more (subst (λ (x : Put). Cursor moment (i + 1) m last p (Answered x.answer) rest gs) first c);
      }

  module _ (s : State) (good : IsGood s) (now : s.moment ≡ moment) (p : Part) (w : Waiting) (found : slice_get s.members i ≡ Some (at_part m p w)) (e : Event) (rest : List Event) (puts : List Put)
      (c : Cursor moment (i + 1) m last p w (e ∷ rest) puts) where
    place : i + 1 - 1 ≡ i
    place = omega arith

    -- the next event is done
    went : Went s moment (i + 1) m last e rest puts
    went = one_event s moment (i + 1) m last (omega arith) now p w (subst (λ k. slice_get s.members k ≡ Some (at_part m p w)) (sym place) found) (here_meets s i (at_part m p w) good found).waiting e rest puts c

    abbrev now_at : Member
    now_at = at_part m went.part went.waits

    abbrev next_state : State
    next_state = record s { members = slice_set s.members i now_at }

    abbrev goes : Ran s next_state
    goes = ran_one s next_state (event_act (i + 1) e) (event_reply e) good (subst (λ k. ActStep s (event_act (i + 1) e) (event_reply e) (record s { members = slice_set s.members k now_at })) place went.step)

    sets : Aside s i now_at next_state
    sets = aside_set s s.chain i (at_part m p w) now_at found

  -- the rest of its history, where no put follows
  pub finish : (rest : List Event) (s : State) → IsGood s → s.moment ≡ moment → (p : Part) (w : Waiting) → slice_get s.members i ≡ Some (at_part m p w) → Cursor moment (i + 1) m last p w rest [] → Done s rest
  finish [] s good now p w found c = record { state = s; ran = ran_self s good; part = p; waits = w; aside = aside_self s i (at_part m p w) found; chain = refl; cursor = c; said = refl }
  finish (e ∷ rest) s good now p w found c =
      let one = went s good now p w found e rest [] c in
      let t = next_state s good now p w found e rest [] c in
      let ran = goes s good now p w found e rest [] c in
      let aside = sets s good now p w found e rest [] c in
      elim one.on [
        | inl on ↦ done_then s t (at_part m one.part one.waits) e rest ran refl aside refl (finish rest t ran.good now one.part one.waits aside.here on)
        | inr (f, fs, same, waits, on) ↦ absurd (let none : [] ≡ f ∷ fs = same in cc)
      ]

  -- its history up to the pick of the next put
  pub advance : (rest : List Event) (s : State) → IsGood s → s.moment ≡ moment → (p : Part) (w : Waiting) → slice_get s.members i ≡ Some (at_part m p w) → (f : Put) (fs : List Put) → Cursor moment (i + 1) m last p w rest (f ∷ fs) → Comes s rest f fs
  advance [] s good now p w found f fs c = absurd (let none : f ∷ fs ≡ [] = c.told in cc)
  advance (e ∷ rest) s good now p w found f fs c =
      let one = went s good now p w found e rest (f ∷ fs) c in
      let t = next_state s good now p w found e rest (f ∷ fs) c in
      let ran = goes s good now p w found e rest (f ∷ fs) c in
      let aside = sets s good now p w found e rest (f ∷ fs) c in
      elim one.on [
        | inl on ↦ comes_then s t (at_part m one.part one.waits) e rest f fs ran refl aside refl (advance rest t ran.good now one.part one.waits aside.here f fs on)
        | inr (g, gs, same, waits, on) ↦ comes_now s t one.part one.waits e rest f g fs gs same waits ran refl aside refl on
      ]

-- ---- a block

-- a number beyond another
beyond : (n j : ℕ) → n ≤ j → j ≢ n → n + 1 ≤ j
beyond zero zero le off = absurd (off refl)
beyond zero (suc j) le off = omega arith
beyond (suc n) zero le off = absurd (omega (arith, le))
beyond (suc n) (suc j) le off = (let lt = beyond n j (omega (arith, le)) (λ e. off (ap (λ k. suc k) e)) in omega (arith, lt))

own_puts : (d : ℕ) (f : Put) (fs : List Put) → f.device ≡ d → puts_of d (f ∷ fs) ≡ f ∷ puts_of d fs
own_puts d f fs e = ap (λ b. cond b (f ∷ puts_of d fs) (puts_of d fs)) (eq-eqb f.device d e)

other_puts : (d : ℕ) (f : Put) (fs : List Put) → (f.device == d) ≡ false → puts_of d (f ∷ fs) ≡ puts_of d fs
other_puts d f fs is = ap (λ b. cond b (f ∷ puts_of d fs) (puts_of d fs)) is

-- the parts that these events of the device at this place are
abbrev pub history : ℕ → List Event → List (Act × Reply)
history i es = map (event_part (i + 1)) es

module _ (s : State) (events : ℕ → List Event) (puts : List Put) (parts : ℕ → Part) (end : Chain) where
  -- The device is somewhere in its history, beside these puts, and so far these parts were done.
  pub record Here (xs : List (Act × Reply)) (u : State) (i : ℕ) (m : Member) (fs : List Put) : Type 0 where
    pub part : Part
    pub waits : Waiting
    pub found : slice_get u.members i ≡ Some (at_part m part waits)
    pub rest : List Event
    pub cursor : Cursor s.moment (i + 1) m (parts (i + 1)) part waits rest (puts_of (i + 1) fs)
    pub said : events_in (i + 1) xs ++ history i rest ≡ history i (events (i + 1))

  -- it is at its end
  pub record There (xs : List (Act × Reply)) (u : State) (i : ℕ) (m : Member) : Type 0 where
    pub part : Part
    pub waits : Waiting
    pub found : slice_get u.members i ≡ Some (at_part m part waits)
    pub cursor : Cursor s.moment (i + 1) m (parts (i + 1)) part waits [] []
    pub said : events_in (i + 1) xs ≡ history i (events (i + 1))

  abbrev pub AllHere : List (Act × Reply) → State → List Put → Type 0
  AllHere xs u fs = (i : ℕ) (m : Member) → slice_get s.members i ≡ Some m → Here xs u i m fs

  abbrev pub AllThere : List (Act × Reply) → State → Type 0
  AllThere xs u = (i : ℕ) (m : Member) → slice_get s.members i ≡ Some m → There xs u i m

  -- these puts are still to be made, and only the block's parts were done
  pub record Puts (xs : List (Act × Reply)) (fs : List Put) : Type 0 where
    pub folder : puts_in xs ++ map put_act fs ≡ map put_act puts
    pub only : All (IsOne (length s.members)) xs

  now_in : (u : State) → Beside s u → u.moment ≡ s.moment
  now_in u b = ap (λ (x : State). x.moment) b.state

  -- another device stays where it is
  here_on : (xs ys : List (Act × Reply)) (u v : State) (j i : ℕ) (x n : Member) (fs gs : List Put) → j ≢ i → Aside u i n v → puts_of (j + 1) fs ≡ puts_of (j + 1) gs → events_in (j + 1) ys ≡ events_in (j + 1) xs → Here xs u j x fs → Here ys v j x gs
  here_on xs ys u v j i x n fs gs off aside same quiet h = record {
    part = h.part;
    waits = h.waits;
    found = aside.others j (at_part x h.part h.waits) off h.found;
    rest = h.rest;
    cursor = subst (λ l. Cursor s.moment (j + 1) x (parts (j + 1)) h.part h.waits h.rest l) same h.cursor;
    said = ap (λ l. l ++ history j h.rest) quiet ∙ h.said;
  }

  there_on : (xs ys : List (Act × Reply)) (u v : State) (j i : ℕ) (x n : Member) → j ≢ i → Aside u i n v → events_in (j + 1) ys ≡ events_in (j + 1) xs → There xs u j x → There ys v j x
  there_on xs ys u v j i x n off aside quiet h = record { part = h.part; waits = h.waits; found = aside.others j (at_part x h.part h.waits) off h.found; cursor = h.cursor; said = quiet ∙ h.said }

  same_member : (i j : ℕ) (m x : Member) → j ≡ i → slice_get s.members i ≡ Some m → slice_get s.members j ≡ Some x → m ≡ x
  same_member i j m x same is at = (let there : slice_get s.members i ≡ Some x = subst (λ k. slice_get s.members k ≡ Some x) same at in cc)

  other_number : (i j : ℕ) → j ≢ i → (i + 1 == j + 1) ≡ false
  other_number i j off = ne_eqb (i + 1) (j + 1) (λ e. off (omega (arith, e)))

  -- the put of a device that has come to it
  module _ (xs : List (Act × Reply)) (u : State) (i : ℕ) (m : Member) (es : List Event) (f : Put) (fs : List Put) (link : m.link ≡ None) (device : f.device ≡ i + 1) (is : slice_get s.members i ≡ Some m) (mid : Chain)
      (comes : Comes s.moment i m (parts (i + 1)) u es f (puts_of (i + 1) fs)) (put : PutStep u.chain f.ask f.answer mid) (begun : events_in (i + 1) xs ++ history i es ≡ history i (events (i + 1))) where
    abbrev landed_at : Member
    landed_at = at_part m comes.part (Answered f.answer)

    abbrev pub landed_in : State
    landed_in = record comes.state { chain = mid; members = slice_set comes.state.members i landed_at }

    abbrev pub landed_by : List (Act × Reply)
    landed_by = (xs ++ comes.ran.parts) ++ put_act f ∷ []

    land_step : ActStep comes.state (On f.device statements.Land) (ByLand (landed f.answer)) landed_in
    land_step =
        let place : f.device - 1 ≡ i = (let e = device in omega (arith, e)) in
        record {
          was = at_part m comes.part (Asked f.ask);
          is = landed_at;
          chain = mid;
          numbered = (let e = device in omega (arith, e));
          found = subst (λ k. slice_get comes.state.members k ≡ Some (at_part m comes.part (Asked f.ask))) (sym place) comes.aside.here;
          step = inl (inl (record { ask = f.ask; waits = refl; carried = link; answer = f.answer; step = subst (λ k. PutStep k f.ask f.answer mid) (sym comes.chain) put; reply_is = refl; member = refl }));
          state = ap (λ k. record comes.state { chain = mid; members = slice_set comes.state.members k landed_at }) (sym place);
        }

    pub land_aside : Aside u i landed_at landed_in
    land_aside = aside_then u comes.state landed_in i (at_part m comes.part (Asked f.ask)) landed_at comes.aside (aside_set comes.state mid i (at_part m comes.part (Asked f.ask)) landed_at comes.aside.here)

    -- what was done since
    events_since : (k : ℕ) → events_in k landed_by ≡ events_in k (xs ++ history i comes.taken)
    events_since k = put_is_none k (xs ++ comes.ran.parts) f ∙ ap (λ l. events_in k (xs ++ l)) comes.said

    said_now : events_in (i + 1) landed_by ++ history i comes.rest ≡ history i (events (i + 1))
    said_now =
        ap (λ l. l ++ history i comes.rest) (events_since (i + 1) ∙ own_more (i + 1) xs comes.taken) ∙ append_assoc (events_in (i + 1) xs) (history i comes.taken) (history i comes.rest)
        ∙ ap (λ l. events_in (i + 1) xs ++ l) (sym (map_append (event_part (i + 1)) comes.taken comes.rest) ∙ ap (history i) (sym comes.whole)) ∙ begun

    here_now : Here landed_by landed_in i m fs
    here_now = record { part = comes.part; waits = Answered f.answer; found = land_aside.here; rest = comes.rest; cursor = comes.cursor; said = said_now }

    here_at : (b : Bool) (j : ℕ) (x : Member) → (f.device == j + 1) ≡ b → slice_get s.members j ≡ Some x → Here xs u j x (f ∷ fs) → Here landed_by landed_in j x fs
    here_at true j x e at h =
        let own : f.device ≡ j + 1 = eqb-true f.device (j + 1) e in
        let same : j ≡ i = (let d = device in omega (arith, own, d)) in
        let m_is = same_member i j m x same is at in
        subst (λ k. Here landed_by landed_in k x fs) (sym same) (subst (λ (y : Member). Here landed_by landed_in i y fs) m_is here_now)
    here_at false j x e at h =
        let off : j ≢ i = λ same. eqb-false f.device (j + 1) e (let d = device in omega (arith, same, d)) in
        here_on xs landed_by u landed_in j i x landed_at (f ∷ fs) fs off land_aside (other_puts (j + 1) f fs e) (events_since (j + 1) ∙ other_more (i + 1) (j + 1) xs comes.taken (other_number i j off)) h

    pub all_here : AllHere xs u (f ∷ fs) → AllHere landed_by landed_in fs
    all_here h j x at = here_at (f.device == j + 1) j x refl at (h j x at)

    pub puts_now : i < length s.members → Puts xs (f ∷ fs) → Puts landed_by fs
    puts_now lt h = record {
      folder = ap (λ l. l ++ map put_act fs) (put_more (xs ++ comes.ran.parts) f ∙ ap (λ l. l ++ put_act f ∷ []) (ap (λ l. puts_in (xs ++ l)) comes.said ∙ puts_stay (i + 1) xs comes.taken))
          ∙ append_assoc (puts_in xs) (put_act f ∷ []) (map put_act fs) ∙ h.folder;
      only = All-append (IsOne (length s.members)) (xs ++ comes.ran.parts) (put_act f ∷ [])
          (All-append (IsOne (length s.members)) xs comes.ran.parts h.only (subst (All (IsOne (length s.members))) (sym comes.said) (only_events (length s.members) i comes.taken lt)))
          (All-cons (IsOne (length s.members)) (put_act f) [] (inl refl) (All-nil (IsOne (length s.members))));
    }

    pub landed_acts : Acts s xs u → Acts s landed_by landed_in
    landed_acts acts =
        acts_then s comes.state landed_in (xs ++ comes.ran.parts) (put_act f ∷ []) (acts_then s u comes.state xs comes.ran.parts acts comes.ran.acts) (landed_in, land_step, refl)

    pub landed_good : IsGood landed_in
    landed_good = act_keeps comes.state landed_in comes.ran.good (On f.device statements.Land) (ByLand (landed f.answer)) land_step

  abbrev pub Declared : Put → Type 0
  Declared f = (1 ≤ f.device) × (f.device ≤ length s.members)

  abbrev pub Unlinked : Type 0
  Unlinked = (i : ℕ) (m : Member) → slice_get s.members i ≡ Some m → m.link ≡ None

  -- so far these parts were done, which led to this state, and these puts are still to be made
  pub record SoFar (fs : List Put) : Type 0 where
    pub xs : List (Act × Reply)
    pub state : State
    pub acts : Acts s xs state
    pub good : IsGood state
    pub beside : Beside s state
    pub here : AllHere xs state fs
    pub left : Puts xs fs

  -- the next put
  module _ (f : Put) (fs : List Put) (low : Declared f) (links : Unlinked) (mid : Chain) (h : SoFar (f ∷ fs)) (put : PutStep h.state.chain f.ask f.answer mid) where
    abbrev at_put : ℕ
    at_put = f.device - 1

    in_time : at_put < length s.members
    in_time = (let a = low.0 in let b = low.1 in omega (arith, a, b))

    number_is : f.device ≡ at_put + 1
    number_is = (let a = low.0 in omega (arith, a))

    by_whom : (m : Member) × (slice_get s.members at_put ≡ Some m)
    by_whom = member_at s.members at_put in_time

    its : Here h.xs h.state at_put by_whom.0 (f ∷ fs)
    its = h.here at_put by_whom.0 by_whom.1

    coming : Comes s.moment at_put by_whom.0 (parts (at_put + 1)) h.state its.rest f (puts_of (at_put + 1) fs)
    coming = advance s.moment at_put by_whom.0 (parts (at_put + 1)) its.rest h.state h.good (now_in h.state h.beside) its.part its.waits its.found f (puts_of (at_put + 1) fs)
        (subst (λ l. Cursor s.moment (at_put + 1) by_whom.0 (parts (at_put + 1)) its.part its.waits its.rest l) (own_puts (at_put + 1) f fs number_is) its.cursor)

    abbrev its_link : by_whom.0.link ≡ None
    its_link = links at_put by_whom.0 by_whom.1

    abbrev so_on : SoFar fs
    so_on = record {
      xs = landed_by h.xs h.state at_put by_whom.0 its.rest f fs its_link number_is by_whom.1 mid coming put its.said;
      state = landed_in h.xs h.state at_put by_whom.0 its.rest f fs its_link number_is by_whom.1 mid coming put its.said;
      acts = landed_acts h.xs h.state at_put by_whom.0 its.rest f fs its_link number_is by_whom.1 mid coming put its.said h.acts;
      good = landed_good h.xs h.state at_put by_whom.0 its.rest f fs its_link number_is by_whom.1 mid coming put its.said;
      beside = beside_then s h.state (landed_in h.xs h.state at_put by_whom.0 its.rest f fs its_link number_is by_whom.1 mid coming put its.said) h.beside
          (land_aside h.xs h.state at_put by_whom.0 its.rest f fs its_link number_is by_whom.1 mid coming put its.said).beside;
      here = all_here h.xs h.state at_put by_whom.0 its.rest f fs its_link number_is by_whom.1 mid coming put its.said h.here;
      left = puts_now h.xs h.state at_put by_whom.0 its.rest f fs its_link number_is by_whom.1 mid coming put its.said in_time h.left;
    }

  -- all puts were made, and the devices from this place on came to the end of their histories
  pub record Ending (n : ℕ) : Type 0 where
    pub so : SoFar []
    pub chain : so.state.chain ≡ end
    pub there : (j : ℕ) (x : Member) → n ≤ j → slice_get s.members j ≡ Some x → There so.xs so.state j x

  pub run_puts : Unlinked → (fs : List Put) (h : SoFar fs) → PutsReplay h.state.chain fs end → All Declared fs → (so : SoFar []) × (so.state.chain ≡ end)
  run_puts links [] h replay declared = (h, sym replay)
  run_puts links (f ∷ fs) h replay declared = run_puts links fs (so_on f fs (All-head Declared f fs declared) links replay.0 h replay.1) replay.2 (All-tail Declared f fs declared)

  -- the next device
  module _ (n : ℕ) (lt : n < length s.members) (e : Ending (suc n)) where
    abbrev before : SoFar []
    before = e.so

    who : (m : Member) × (slice_get s.members n ≡ Some m)
    who = member_at s.members n lt

    its_rest : Here before.xs before.state n who.0 []
    its_rest = before.here n who.0 who.1

    done : Done s.moment n who.0 (parts (n + 1)) before.state its_rest.rest
    done = finish s.moment n who.0 (parts (n + 1)) its_rest.rest before.state before.good (now_in before.state before.beside) its_rest.part its_rest.waits its_rest.found its_rest.cursor

    abbrev after : List (Act × Reply)
    after = before.xs ++ done.ran.parts

    quiet : (j : ℕ) → j ≢ n → events_in (j + 1) after ≡ events_in (j + 1) before.xs
    quiet j off = ap (λ l. events_in (j + 1) (before.xs ++ l)) done.said ∙ other_more (n + 1) (j + 1) before.xs its_rest.rest (other_number n j off)

    there_now : There after done.state n who.0
    there_now = record {
      part = done.part;
      waits = done.waits;
      found = done.aside.here;
      cursor = done.cursor;
      said = ap (λ l. events_in (n + 1) (before.xs ++ l)) done.said ∙ own_more (n + 1) before.xs its_rest.rest ∙ its_rest.said;
    }

    there_same : (j : ℕ) (x : Member) → j ≡ n → slice_get s.members j ≡ Some x → There after done.state j x
    there_same j x same at = subst (λ k. There after done.state k x) (sym same) (subst (λ (y : Member). There after done.state n y) (same_member n j who.0 x same who.1 at) there_now)

    there_at : (b : Bool) (j : ℕ) (x : Member) → (j == n) ≡ b → n ≤ j → slice_get s.members j ≡ Some x → There after done.state j x
    there_at true j x is le at = there_same j x (eqb-true j n is) at
    there_at false j x is le at =
        let off : j ≢ n = eqb-false j n is in
        let far = beyond n j le off in
        there_on before.xs after before.state done.state j n x (at_part who.0 done.part done.waits) off done.aside (quiet j off) (e.there j x (omega (arith, far)) at)

    here_same : (j : ℕ) (x : Member) → j ≡ n → slice_get s.members j ≡ Some x → Here after done.state j x []
    here_same j x same at =
        let t = there_same j x same at in
        record { part = t.part; waits = t.waits; found = t.found; rest = []; cursor = t.cursor; said = append_none (events_in (j + 1) after) [] refl ∙ t.said }

    here_now_at : (b : Bool) (j : ℕ) (x : Member) → (j == n) ≡ b → slice_get s.members j ≡ Some x → Here after done.state j x []
    here_now_at true j x is at = here_same j x (eqb-true j n is) at
    here_now_at false j x is at =
        let off : j ≢ n = eqb-false j n is in
        here_on before.xs after before.state done.state j n x (at_part who.0 done.part done.waits) [] [] off done.aside refl (quiet j off) (before.here j x at)

    pub ends_on : Ending n
    ends_on = record {
      so = record {
        xs = after;
        state = done.state;
        acts = acts_then s before.state done.state before.xs done.ran.parts before.acts done.ran.acts;
        good = done.ran.good;
        beside = beside_then s before.state done.state before.beside done.aside.beside;
        here = λ j x at. here_now_at (j == n) j x refl at;
        left = record {
          folder = ap (λ l. l ++ []) (ap (λ l. puts_in (before.xs ++ l)) done.said ∙ puts_stay (n + 1) before.xs its_rest.rest) ∙ before.left.folder;
          only = All-append (IsOne (length s.members)) before.xs done.ran.parts before.left.only (subst (All (IsOne (length s.members))) (sym done.said) (only_events (length s.members) n its_rest.rest lt));
        };
      };
      chain = done.chain ∙ e.chain;
      there = λ j x le at. there_at (j == n) j x refl le at;
    }

  pub run_ends : (n : ℕ) → n ≤ length s.members → Ending n → Ending 0
  run_ends zero le e = e
  run_ends (suc n) le e = run_ends n (omega (arith, le)) (ends_on n (omega (arith, le)) e)
