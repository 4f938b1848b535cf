-- Every part of a statement keeps what holds of the machine's states, and so does every run.
use Rattle.std.proofs.Common.{◌≡◌, ◌≢◌, ◌⊎◌, ℕ, zero, suc, ◌+◌, ◌-◌, ◌≤◌, ◌<◌, ◌==◌, ◌||◌, Bool, true, false, cond, List, [], ◌∷◌, ◌++◌, length, All, Option, Some, Result, Ok, Err, inl, inr, refl, sym, ap, ◌∙◌, subst, arith, length-append}
use Rattle.std.specs.Prelude.{slice_get, slice_set}
use Rattle.std.proofs.lemmas.List.Elements.{All-append, All-weaker, All-nil, All-head, All-tail}
use Rattle.kb_name.specs.Names.{is_device_name}
use Rattle.kb_ops.specs.declared.rows.Op.{Op}
use Rattle.kb_keys.specs.declared.policy.Action.{Action}
use Rattle.kb_snap.specs.Chains.{Deed, Founded, Stepped, Merged, Rekeyed, Revision, Chain, ops_in}
use Rattle.kb_snap.specs.Members.{roles_of, is_allowed, IsNamed, IsDeclared}
use Rattle.kb_keys.specs.Members.{is_writer}
use Rattle.kb_snap.specs.Answers.{RekeyFault}
use Rattle.kb_device.specs.Journals.{blank}
use Rattle.kb_device.specs.Parts.{Part, new_part}
use Rattle.kb_snap.specs.Lawful.{Follows, IsLawful}
use Rattle.kb_ops.specs.Grammar.{IsProper}
use Rattle.kb_log.specs.LogList.{area_size}
use Rattle.kb_device.specs.Meets.{NoneOf, Meets, FitsArea, held}
use Rattle.kb_world.specs.Statements.{Statement, Reply, Act, SetSeed, Declare, DoFound, DoRekey, SetMoment, SetRule, See, ListChain, AuditChain, On}
use Rattle.kb_world.specs.Statements as statements
use Rattle.kb_world.specs.Machine.{most_devices, merger, IsBatch, new_member, Member, State, new_state, Turns, PicksFlight, PicksNone, NotesAnswer, NotesNone, Picking, Landing, Noting, Rekeys, Founds, ActStep, Progress, Steps, Lacks, Ends, Run, next}
use Rattle.kb_snap.specs.Rekeys.{RekeyStep}
use Rattle.kb_device.specs.Waits.{WaitingMeets}
use Rattle.kb_world.specs.Good.{MemberMeets, names_of, IsGood}
use Rattle.kb_snap.proofs.Chains.{by_other}
use Rattle.std.proofs.lemmas.List.{length-set}
use Rattle.kb_snap.proofs.Lists.{get_there}
use Rattle.kb_world.proofs.Rows.{plan_few}
use Rattle.kb_snap.proofs.Lawful.{lawful_push}
use Rattle.kb_device.proofs.PartSteps.{Stands, all_one, left_keeps, powered_keeps}
use Rattle.kb_world.proofs.MemberLonger.{member_longer}
use Rattle.kb_device.proofs.Steps.{Grows, closed_waiting, call_keeps, pick_keeps, no_pick_keeps, pull_keeps, fetch_keeps, open_keeps, settle_grows, note_keeps, put_grows, lost_grows, backup_keeps, restore_keeps}

-- ---- lists of members

pub get_set : {A : Type 0} (xs : List A) (i j : ℕ) (x m : A) → slice_get (slice_set xs i x) j ≡ Some m → ((j ≡ i) × (m ≡ x)) ⊎ ((j ≢ i) × (slice_get xs j ≡ Some m))
get_set [] i j x m h = cc
get_set (y ∷ xs) zero zero x m h = inl (refl, cc)
get_set (y ∷ xs) zero (suc j) x m h = inr ((λ e. absurd (omega (arith, e))), h)
get_set (y ∷ xs) (suc i) zero x m h = inr ((λ e. absurd (omega (arith, e))), h)
get_set (y ∷ xs) (suc i) (suc j) x m h = elim (get_set xs i j x m h) [
  | inl e ↦ inl (ap suc e.0, e.1)
  | inr e ↦ inr ((λ s. e.0 (omega (arith, s))), e.1)
]

pub get_push : {A : Type 0} (xs : List A) (x m : A) (j : ℕ) → slice_get (xs ++ x ∷ []) j ≡ Some m → ((j ≡ length xs) × (m ≡ x)) ⊎ (slice_get xs j ≡ Some m)
get_push [] x m zero h = inl (refl, cc)
get_push [] x m (suc j) h = cc
get_push (y ∷ xs) x m zero h = inr h
get_push (y ∷ xs) x m (suc j) h = elim (get_push xs x m j h) [ inl e ↦ inl (ap suc e.0, e.1) | inr e ↦ inr e ]

-- ---- members

to_stands : (d : ℕ) (c : Chain) (m : Member) → MemberMeets d c m → Stands d c m.name m.part m.waiting
to_stands d c m h = record { part = h.part; acknowledged = h.acknowledged; waiting = h.waiting }

to_member : (d : ℕ) (c : Chain) (m : Member) → is_device_name m.name ≡ true → IsBatch m.batch → Stands d c m.name m.part m.waiting → MemberMeets d c m
to_member d c m device batch h = record { name = device; batch = batch; part = h.part; acknowledged = h.acknowledged; waiting = h.waiting }

-- ---- names

names_get : (members : List Member) (i : ℕ) (m : Member) → slice_get members i ≡ Some m → slice_get (names_of members) i ≡ Some m.name
names_get [] i m e = cc
names_get (x ∷ members) zero m e = (let same : x ≡ m = cc in ap (λ (y : Member). Some y.name) same)
names_get (x ∷ members) (suc i) m e = names_get members i m e

names_set : (members : List Member) (i : ℕ) (was is : Member) → slice_get members i ≡ Some was → is.name ≡ was.name → names_of (slice_set members i is) ≡ names_of members
names_set [] i was is e same = cc
names_set (x ∷ members) zero was is e same = (let first : x ≡ was = cc in ap (λ n. n ∷ names_of members) (same ∙ ap (λ (y : Member). y.name) (sym first)))
names_set (x ∷ members) (suc i) was is e same = ap (λ l. x.name ∷ l) (names_set members i was is e same)

pub length-names : (members : List Member) → length (names_of members) ≡ length members
length-names [] = refl
length-names (x ∷ members) = ap (λ n. suc n) (length-names members)

names_push : (members : List Member) (m : Member) → names_of (members ++ m ∷ []) ≡ names_of members ++ m.name ∷ []
names_push [] m = refl
names_push (x ∷ members) m = ap (λ l. x.name ∷ l) (names_push members m)

get_longer : {A : Type 0} (xs ys : List A) (i : ℕ) (x : A) → slice_get xs i ≡ Some x → slice_get (xs ++ ys) i ≡ Some x
get_longer [] ys i x h = cc
get_longer (y ∷ xs) ys zero x h = h
get_longer (y ∷ xs) ys (suc i) x h = get_longer xs ys i x h

named_more : (m n : ℕ) (deed : Deed) → m ≤ n → IsNamed m deed → IsNamed n deed
named_more m n Founded le h = tt
named_more m n (Stepped ops) le h = tt
named_more m n (Merged base rule ops) le h = tt
named_more m n (Rekeyed a who) le h = (h.0, (let w = h.1 in omega arith))

-- the revision of a device that is declared
declared_by : (s : State) (d : ℕ) (m : Member) (x : Revision) → 1 ≤ d → slice_get s.members (d - 1) ≡ Some m → x.writer ≡ d → x.name ≡ m.name → IsNamed (length s.members) x.deed → IsDeclared (names_of s.members) x
declared_by s d m x numbered found writer name who = record {
  numbered = omega (arith, writer);
  named = ap (λ n. slice_get (names_of s.members) (n - 1)) writer ∙ names_get s.members (d - 1) m found ∙ ap Some (sym name);
  who = subst (λ n. IsNamed n x.deed) (sym (length-names s.members)) who;
}

-- ---- states

module _ (s t : State) (d : ℕ) (was is : Member) (c' : Chain) (good : IsGood s) (numbered : 1 ≤ d) (found : slice_get s.members (d - 1) ≡ Some was)
    (state : t ≡ record s { chain = c'; members = slice_set s.members (d - 1) is }) (name_is : is.name ≡ was.name) where
  with_chain : IsLawful c' → All (IsDeclared (names_of s.members)) c' → MemberMeets d c' is → ((k : ℕ) (m : Member) → k ≢ d → MemberMeets k s.chain m → MemberMeets k c' m) → IsGood t
  with_chain lawful declared here others = subst IsGood (sym state) (record {
    moment = good.moment;
    rule = good.rule;
    devices = subst (λ n. n ≤ most_devices) (sym (length-set s.members (d - 1) is)) good.devices;
    chain = lawful;
    declared = subst (λ l. All (IsDeclared l) c') (sym (names_set s.members (d - 1) was is found name_is)) declared;
    members = λ i m e. elim (get_set s.members (d - 1) i is m e) [
      | inl (at, same) ↦ (
          let number : d ≡ i + 1 = omega arith in
          subst (λ (x : Member). MemberMeets (i + 1) c' x) (sym same) (subst (λ k. MemberMeets k c' is) number here))
      | inr (off, there) ↦ others (i + 1) m (λ e. off (omega (arith, e))) (good.members i m there)
    ];
  })

  -- the chain stays
  pub turned_keeps : c' ≡ s.chain → MemberMeets d s.chain is → IsGood t
  turned_keeps same here =
      with_chain (subst IsLawful (sym same) good.chain) (subst (All (IsDeclared (names_of s.members))) (sym same) good.declared) (subst (λ c. MemberMeets d c is) (sym same) here)
      (λ k m ne h. subst (λ c. MemberMeets k c m) (sym same) h)

  -- or it grows by a revision of the device
  pub grown_keeps : (x : Revision) → c' ≡ s.chain ++ x ∷ [] → x.writer ≡ d → x.name ≡ is.name → ((n : ℕ) → IsNamed n x.deed) → Follows s.chain x → MemberMeets d c' is → IsGood t
  grown_keeps x long writer name who follows here =
      let one = declared_by s d was x numbered found writer (name ∙ name_is) (who (length s.members)) in
      with_chain
      (subst IsLawful (sym long) (lawful_push [] s.chain x good.chain follows))
      (subst (All (IsDeclared (names_of s.members))) (sym long) (All-append (IsDeclared (names_of s.members)) s.chain (x ∷ []) good.declared (all_one (IsDeclared (names_of s.members)) x one)))
      here
      (λ k m ne h. subst (λ c. MemberMeets k c m) (sym long) (member_longer k s.chain x (by_other k x (λ e. ne (sym e ∙ writer))) m h))

  pub grows_keeps : Grows d s.chain is.name is.part is.waiting c' → is_device_name is.name ≡ true → IsBatch is.batch → IsGood t
  grows_keeps (inl stays) device batch = turned_keeps stays.0 (to_member d s.chain is device batch stays.1)
  grows_keeps (inr grows) device batch = grown_keeps grows.0 grows.1 grows.2 grows.3 grows.4 grows.5 (to_member d c' is device batch grows.6)

-- ---- revisions without operations

or_right : (a b : Bool) → b ≡ true → (a || b) ≡ true
or_right true b e = refl
or_right false b e = e

empty_by : (b : Bool) (ops : List Op) → ops ≡ [] → cond b ops [] ≡ []
empty_by true ops e = e
empty_by false ops e = refl

-- the chain grows by a revision that holds no operations
plain_grows : (s t : State) (x : Revision) → IsGood s → t ≡ record s { chain = s.chain ++ x ∷ [] } → ops_in x.deed ≡ [] → IsDeclared (names_of s.members) x → Follows s.chain x → IsGood t
plain_grows s t x good state none declared follows = subst IsGood (sym state) (record {
  moment = good.moment;
  rule = good.rule;
  devices = good.devices;
  chain = lawful_push [] s.chain x good.chain follows;
  declared = All-append (IsDeclared (names_of s.members)) s.chain (x ∷ []) good.declared (all_one (IsDeclared (names_of s.members)) x declared);
  members = λ i m e. member_longer (i + 1) s.chain x (empty_by (x.writer == i + 1) (ops_in x.deed) none) m (good.members i m e);
})

not_empty : (c : Chain) (by : ℕ) → is_writer (roles_of c by) ≡ true → c ≢ []
not_empty c by writes e = (let no : false ≡ true = ap (λ l. is_writer (roles_of l by)) (sym e) ∙ writes in cc)

rekey_keeps : (by : ℕ) (a : Action) (who : ℕ) (reply : Reply) (s t : State) → Rekeys by a who reply s t → IsGood s → IsGood t
rekey_keeps by a who reply s t h good = answered h.answer h.step where
  answered : (answer : Result ℕ RekeyFault) → RekeyStep s.chain (record { writer = by; name = h.member.name; moment = s.moment; deed = Rekeyed a who }) by a who answer h.chain → IsGood t
  answered (Ok n) step =
      let y : Revision = record { writer = by; name = h.member.name; moment = s.moment; deed = Rekeyed a who } in
      plain_grows s t y good (h.state ∙ ap (λ c. record s { chain = c }) step.4) refl (declared_by s by h.member y h.numbered h.found refl refl h.declared)
      (record { allowed = or_right (length s.chain == 0) (is_writer (roles_of s.chain by)) step.0; room = step.2; own = tt; counts = tt; fits = (not_empty s.chain by step.0, step.1) })
  answered (Err fault) step = subst IsGood (sym (h.state ∙ ap (λ c. record s { chain = c }) step.1)) good

found_keeps : (d : ℕ) (s t : State) → Founds d s t → IsGood s → IsGood t
found_keeps d s t h good =
    let x : Revision = record { writer = d; name = h.member.name; moment = s.moment; deed = Founded } in
    let state : t ≡ record s { chain = s.chain ++ x ∷ [] } = h.state ∙ ap (λ c. record s { chain = c ++ x ∷ [] }) (sym h.none) in
    let empty : length s.chain ≡ 0 = ap length h.none in
    plain_grows s t x good state refl (declared_by s d h.member x h.numbered h.found refl refl tt)
    (record { allowed = ap (λ c. is_allowed c d) h.none; room = omega arith; own = tt; counts = tt; fits = h.none })

-- ---- a new device

none_by : (names : List (List ℕ)) (d : ℕ) (c : Chain) → All (IsDeclared names) c → length names < d → NoneOf d c
none_by names d [] all lt = refl
none_by names d (x ∷ c) all lt =
    let low = All-head (IsDeclared names) x c all in
    let within = get_there names (x.writer - 1) x.name low.named in
    let ne : x.writer ≡ d → ⊥ = λ e. omega (arith, e) in
    (λ i. by_other d x ne i ++ none_by names d c (All-tail (IsDeclared names) x c all) lt i)

new_meets : (d : ℕ) (c : Chain) (name : List ℕ) (size : ℕ) → is_device_name name ≡ true → 4096 ≤ size → NoneOf d c → MemberMeets d c (new_member name size)
new_meets d c name size device from none =
    let p : Part = new_part size in
    let m : Meets d c blank = record {
      within = omega arith;
      base = refl;
      counts = tt;
      own = tt;
      fit = tt;
      proper = All-nil IsProper;
      small = omega arith;
      few = omega arith;
      marked = λ e. cc;
      started = λ some. absurd (omega arith);
      beyond = inl (inl none);
    } in
    record {
      name = device;
      batch = (omega arith, omega arith);
      part = record { some = omega arith; may = all_one (Meets d c) blank m; areas = all_one (FitsArea (area_size size)) blank (omega arith); session = λ e. cc; none = λ _. (refl, refl) };
      acknowledged = record { settled = λ e. cc; held = all_one (λ j. held d c j ≡ []) blank refl; without = (blank, (0, (omega arith), refl), refl); shelf = λ kept is. cc };
      waiting = tt;
    }

declare_keeps : (name : List ℕ) (size : ℕ) (s t : State) → length s.members < most_devices → is_device_name name ≡ true → 4096 ≤ size → t ≡ record s { members = s.members ++ new_member name size ∷ [] } → IsGood s → IsGood t
declare_keeps name size s t room device from state good =
    let new : Member = new_member name size in
    let more = names_push s.members new in
    subst IsGood (sym state) (record {
      moment = good.moment;
      rule = good.rule;
      devices = (let e = length-append s.members (new ∷ []) in omega arith);
      chain = good.chain;
      declared = All-weaker (IsDeclared (names_of s.members)) (IsDeclared (names_of (s.members ++ new ∷ []))) (λ x h. record {
        numbered = h.numbered;
        named = ap (λ l. slice_get l (x.writer - 1)) more ∙ get_longer (names_of s.members) (name ∷ []) (x.writer - 1) x.name h.named;
        who = named_more (length (names_of s.members)) (length (names_of (s.members ++ new ∷ []))) x.deed (let e = ap length more in let a = length-append (names_of s.members) (name ∷ []) in omega arith) h.who;
      }) s.chain good.declared;
      members = λ i m e. elim (get_push s.members new m i e) [
        | inl last ↦
            subst (λ (y : Member). MemberMeets (i + 1) s.chain y) (sym last.1)
            (new_meets (i + 1) s.chain name size device from (none_by (names_of s.members) (i + 1) s.chain good.declared (let at = last.0 in let e = length-names s.members in omega arith)))
        | inr there ↦ good.members i m there
      ];
    })

-- ---- parts of statements

module _ (s t : State) (good : IsGood s) where
  -- a device of a good state
  at_device : (d : ℕ) (was : Member) → 1 ≤ d → slice_get s.members (d - 1) ≡ Some was → MemberMeets d s.chain was
  at_device d was numbered found = subst (λ k. MemberMeets k s.chain was) (let e : d - 1 + 1 ≡ d = omega arith in e) (good.members (d - 1) was found)

  -- a device that went on, where the chain stays
  goes_on : (d : ℕ) (goes : Member → Member → Chain → Type 0) → (h : Turns d goes s t) → h.chain ≡ s.chain → (to : Member) → h.is ≡ to → to.name ≡ h.was.name → (IsBatch h.was.batch → IsBatch to.batch)
      → (MemberMeets d s.chain h.was → Stands d s.chain h.was.name to.part to.waiting) → IsGood t
  goes_on d goes h same to is name batch keeps =
      let old = at_device d h.was h.numbered h.found in
      turned_keeps s t d h.was h.is h.chain good h.numbered h.found h.state (ap (λ (m : Member). m.name) is ∙ name) same
      (subst (MemberMeets d s.chain) (sym is) (to_member d s.chain to (subst (λ n. is_device_name n ≡ true) (sym name) old.name) (batch old.batch) (subst (λ n. Stands d s.chain n to.part to.waiting) (sym name) (keeps old))))

  -- and where it may grow
  grows_on : (d : ℕ) (goes : Member → Member → Chain → Type 0) → (h : Turns d goes s t) → (to : Member) → h.is ≡ to → to.name ≡ h.was.name → (IsBatch h.was.batch → IsBatch to.batch)
      → (MemberMeets d s.chain h.was → Grows d s.chain h.was.name to.part to.waiting h.chain) → IsGood t
  grows_on d goes h to is name batch keeps =
      let old = at_device d h.was h.numbered h.found in
      grows_keeps s t d h.was to h.chain good h.numbered h.found (h.state ∙ ap (λ (m : Member). record s { chain = h.chain; members = slice_set s.members (d - 1) m }) is) name
      (subst (λ n. Grows d s.chain n to.part to.waiting h.chain) (sym name) (keeps old)) (subst (λ n. is_device_name n ≡ true) (sym name) old.name) (batch old.batch)

  picks : (d : ℕ) (reply : Reply) (h : Turns d (Picking d s reply) s t) → h.chain ≡ s.chain → PicksFlight d reply h.was h.is ⊎ PicksNone d reply h.was h.is → IsGood t
  picks d reply h same (inl p) = goes_on d (Picking d s reply) h same _ p.member refl (λ b. b)
      (λ old. pick_keeps d s.chain h.was.name h.was.part h.was.waiting (to_stands d s.chain h.was old) h.was.batch old.batch.0 old.batch.1 p.flight p.ask p.part p.step)
  picks d reply h same (inr p) = goes_on d (Picking d s reply) h same _ p.member refl (λ b. b)
      (λ old. no_pick_keeps d s.chain h.was.name h.was.part h.was.waiting (to_stands d s.chain h.was old) h.was.batch p.answer p.part p.step)

  -- a device that stays
  stays_on : (d : ℕ) (goes : Member → Member → Chain → Type 0) → (h : Turns d goes s t) → h.chain ≡ s.chain → h.is ≡ h.was → IsGood t
  stays_on d goes h same is = goes_on d goes h same h.was is refl (λ b. b) (λ old. to_stands d s.chain h.was old)

  lands : (d : ℕ) (reply : Reply) (h : Turns d (Landing d s reply) s t) → Landing d s reply h.was h.is h.chain → IsGood t
  lands d reply h (inl (inr p)) = grows_on d (Landing d s reply) h _ p.member refl (λ b. b)
      (λ old. lost_grows d s.chain h.was.name h.was.part p.ask p.lost h.chain (subst (Stands d s.chain h.was.name h.was.part) p.waits (to_stands d s.chain h.was old)) p.step)
  lands d reply h (inl (inl p)) = grows_on d (Landing d s reply) h _ p.member refl (λ b. b)
      (λ old. put_grows d s.chain h.was.name h.was.part p.ask p.answer h.chain (subst (Stands d s.chain h.was.name h.was.part) p.waits (to_stands d s.chain h.was old)) p.step)
  lands d reply h (inr (same, p)) = stays_on d (Landing d s reply) h same p.member

  notes : (d : ℕ) (reply : Reply) (h : Turns d (Noting d s reply) s t) → h.chain ≡ s.chain → NotesAnswer reply h.was h.is ⊎ NotesNone reply h.was h.is → IsGood t
  notes d reply h same (inl p) = goes_on d (Noting d s reply) h same _ p.member refl (λ b. b)
      (λ old. note_keeps d s.chain h.was.name h.was.part old.part old.acknowledged p.put p.answer p.part (subst (WaitingMeets d s.chain h.was.name h.was.part) p.waits old.waiting) p.step)
  notes d reply h same (inr p) = stays_on d (Noting d s reply) h same p.member

  pub act_keeps : (act : Act) (reply : Reply) → ActStep s act reply t → IsGood t
  act_keeps (SetSeed seed) reply h = subst IsGood (sym h.1) (record { moment = good.moment; devices = good.devices; rule = good.rule; chain = good.chain; declared = good.declared; members = good.members })
  act_keeps (Declare name size) reply h = declare_keeps name size s t h.1 h.2 h.3.from h.4 good
  act_keeps (SetMoment moment) reply h = subst IsGood (sym h.2) (record { moment = h.1; devices = good.devices; rule = good.rule; chain = good.chain; declared = good.declared; members = good.members })
  act_keeps (SetRule rule) reply h = subst IsGood (sym h.2) (record { moment = good.moment; devices = good.devices; rule = h.1; chain = good.chain; declared = good.declared; members = good.members })
  act_keeps (DoFound d) reply h = found_keeps d s t h.1 good
  act_keeps (DoRekey by a who) reply h = rekey_keeps by a who reply s t h good
  act_keeps (On d (statements.Call request)) reply h = goes_on d _ h h.step.0 _ h.step.1.member refl (λ b. b)
      (λ old. call_keeps d s.chain h.was.name h.was.part h.was.waiting (to_stands d s.chain h.was old) good.chain h.numbered request s.moment h.step.1.answer h.step.1.part h.step.1.step)
  act_keeps (See d view) reply h = subst IsGood (sym h.state) good
  act_keeps (On d statements.Pick) reply h = picks d reply h h.step.0 h.step.1
  act_keeps (On d statements.Land) reply h = lands d reply h h.step
  act_keeps (On d statements.Note) reply h = notes d reply h h.step.0 h.step.1
  act_keeps (On d statements.Pull) reply h = goes_on d _ h h.step.0 _ h.step.1.member refl (λ b. b)
      (λ old. pull_keeps d s.chain h.was.name h.was.part h.was.waiting (to_stands d s.chain h.was old) h.step.1.answer h.step.1.part h.step.1.step)
  act_keeps (On d (statements.Batch most)) reply h = goes_on d _ h h.step.0 _ h.step.3 refl (λ b. h.step.2) (λ old. to_stands d s.chain h.was old)
  act_keeps (On d statements.Fetch) reply h = goes_on d _ h h.step.0 _ h.step.1.member refl (λ b. b)
      (λ old. fetch_keeps d s.chain h.was.name h.was.part h.was.waiting (to_stands d s.chain h.was old) h.step.1.answer h.step.1.part h.step.1.step)
  act_keeps (On d statements.Settle) reply h = grows_on d _ h _ h.step.member refl (λ b. b)
      (λ old. settle_grows d s.chain h.was.name h.was.part h.was.waiting (to_stands d s.chain h.was old) good.chain (plan_few s good d h.was h.numbered h.found old.part) (merger s h.was) (record { name = old.name; moment = good.moment; rule = good.rule }) refl h.step.answer h.chain h.step.part h.step.step)
  act_keeps (On d (statements.Fuse steps)) reply h = goes_on d _ h h.step.0 _ h.step.2 refl (λ b. b)
      (λ old. left_keeps d s.chain h.was.name h.was.part h.was.waiting (Some steps) (to_stands d s.chain h.was old))
  act_keeps (On d (statements.Lose side)) reply h = goes_on d _ h h.step.0 _ h.step.2 refl (λ b. b) (λ old. to_stands d s.chain h.was old)
  act_keeps (On d statements.Power) reply h = goes_on d _ h h.step.0 _ h.step.2 refl (λ b. b)
      (λ old. powered_keeps d s.chain h.was.name h.was.part h.was.waiting (to_stands d s.chain h.was old))
  act_keeps (On d statements.Backup) reply h = goes_on d _ h h.step.0 _ h.step.1.member refl (λ b. b)
      (λ old. backup_keeps d s.chain h.was.name h.was.part h.was.waiting (to_stands d s.chain h.was old) h.step.1.answer h.step.1.part h.step.1.step)
  act_keeps (On d (statements.Restore size)) reply h = goes_on d _ h h.step.0 _ h.step.2.member refl (λ b. b)
      (λ old. restore_keeps d s.chain h.was.name h.was.part h.was.waiting (to_stands d s.chain h.was old) good.chain size h.step.2.answer h.step.2.part h.step.2.step)
  act_keeps (On d statements.Open) reply h = goes_on d _ h h.step.0 _ h.step.1.member refl (λ b. b)
      (λ old. open_keeps d s.chain h.was.name h.was.part h.was.waiting (to_stands d s.chain h.was old) h.step.1.answer h.step.1.part h.step.1.step (closed_waiting d s.chain h.was.name h.was.part h.was.waiting old.waiting))
  act_keeps ListChain reply h = subst IsGood (sym h.1) good
  act_keeps AuditChain reply h = subst IsGood (sym h.1) good

-- ---- statements and runs

lack_keeps : (act : Option Act) (s t : State) → Lacks act s t → IsGood s → IsGood t
lack_keeps act s t (inl h) good = subst IsGood (sym h) good
lack_keeps act s t (inr (d, is, h)) good = goes_on s t good d _ h h.step.0 _ h.step.2 refl (λ b. b) (λ old.
    let low = h.step.1 in
    subst (λ (q : Part). Stands d s.chain h.was.name q h.was.waiting) (sym low.part) (left_keeps d s.chain h.was.name h.was.part h.was.waiting low.left (to_stands d s.chain h.was old)))

progress_keeps : (statement : Statement) (before : List Reply) (s : State) (replies : List Reply) (t : State) → Progress statement before s replies t → IsGood s → IsGood t
progress_keeps statement before s [] t h good = subst IsGood (sym h) good
progress_keeps statement before s (reply ∷ replies) t h good = progress_keeps statement (before ++ reply ∷ []) h.1 replies t h.4 (act_keeps s h.1 good h.0 reply h.3)

pub steps_keep : (s : State) (statement : Statement) (replies : List Reply) (t : State) → Steps s statement replies t → IsGood s → IsGood t
steps_keep s statement replies t h good = progress_keeps statement [] s replies t h.0 good

pub ends_keep : (s : State) (statement : Statement) (t : State) → Ends s statement t → IsGood s → IsGood t
ends_keep s statement t h good = lack_keeps (next statement h.0) h.1 t h.3 (progress_keeps statement [] s h.0 h.1 h.2 good)

pub run_keeps : (s : State) (statements : List Statement) (each : List (List Reply)) (t : State) → Run s statements each t → IsGood s → IsGood t
run_keeps s [] [] t h good = subst IsGood (sym h) good
run_keeps s (statement ∷ statements) (replies ∷ each) t h good = run_keeps h.0 statements each t h.2 (steps_keep s statement replies h.0 h.1 good)
run_keeps s [] (replies ∷ each) t h good = absurd h
run_keeps s (statement ∷ statements) [] t h good = absurd h

pub new_good : IsGood new_state
new_good = record { moment = omega arith; devices = omega arith; rule = (omega arith, omega arith); chain = tt; declared = All-nil (IsDeclared []); members = λ i m e. cc }
