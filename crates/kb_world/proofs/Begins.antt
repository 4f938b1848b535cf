-- A script has replies: each of its statements can be done, and ends.
use Rattle.std.proofs.Common.{◌≡◌, ◌⊎◌, ℕ, zero, suc, ◌+◌, ◌-◌, ◌≤◌, ◌<◌, Bool, true, false, List, [], ◌∷◌, ◌++◌, length, drop, All, Option, Some, None, Result, Ok, Err, inl, inr, refl, sym, ap, ◌∙◌, subst, arith, length-append, length-drop, append_assoc}
use Rattle.std.specs.Prelude.{slice_get, slice_set, slice_index_or}
use Rattle.std.proofs.lemmas.List.{length-set}
use Rattle.std.proofs.lemmas.List.Elements.{All-nil, All-cons}
use Rattle.kb_rules.specs.declared.report.Report.{Report}
use Rattle.kb_snap.specs.Chains.{Chain}
use Rattle.kb_device.specs.Answers.{PickFault, Noted, NoteFault, FetchFault, SettleFault}
use Rattle.kb_device.specs.Answers as answers
use Rattle.kb_device.specs.Journals.{blank}
use Rattle.kb_device.specs.Parts.{Part, NoteStep}
use Rattle.kb_device.specs.Meets.{FlightMeets, Flying}
use Rattle.kb_world.specs.Statements.{Statement, LandFault, Reply, ByPick, ByLand, ByNote, ByFetch, BySettle, Turn, Act, SetSeed, Declare, DoFound, DoRekey, SetMoment, SetRule, See, ListChain, AuditChain, On}
use Rattle.kb_world.specs.Statements as statements
use Rattle.kb_world.specs.Machine.{TurnStep, Member, State, new_state, Turns, Landing, PicksFlight, PicksNone, NotesAnswer, NotesNone, ActStep, Progress, Steps, Run, next, next_after, last_reply}
use Rattle.kb_world.specs.Good.{IsGood}
use Rattle.kb_world.specs.RunLaws.{TurnAsks, IsDevice, IsAsked, IsPlain}
use Rattle.kb_world.specs.RunReplies.{IsInRange, IsEarly, IsOneOf, MayStand, declared_by, founded_by, MayFollow, ScriptsHaveReplies, ScriptsAreAnswered}
use Rattle.kb_snap.proofs.Lists.{append_none, member_at}
use Rattle.kb_device.proofs.PartSteps.{at_session}
use Rattle.kb_world.proofs.GoodStates.{device_meets}
use Rattle.kb_world.proofs.Machine.{act_keeps, steps_keep, new_good}
use Rattle.kb_world.proofs.PartAnswers.{part_answers}
use Rattle.kb_world.proofs.Determined.{plain_answers}

-- ---- what each part leaves

get_same : {A : Type 0} (xs : List A) (i : ℕ) (x m : A) → slice_get xs i ≡ Some m → slice_get (slice_set xs i x) i ≡ Some x
get_same [] i x m h = cc
get_same (y ∷ xs) zero x m h = refl
get_same (y ∷ xs) (suc i) x m h = get_same xs i x m h

abbrev declared : Act → ℕ → ℕ
declared (Declare name size) n = n + 1
declared act n = n

module _ (s t : State) where
  turn_count : (d : ℕ) (goes : Member → Member → Chain → Type 0) → Turns d goes s t → length t.members ≡ length s.members
  turn_count d goes h = ap (λ (x : State). length x.members) h.state ∙ length-set s.members (d - 1) h.is

  turn_device : (d : ℕ) (goes : Member → Member → Chain → Type 0) (h : Turns d goes s t) → IsDevice t d h.is
  turn_device d goes h = record { numbered = h.numbered; found = ap (λ (x : State). slice_get x.members (d - 1)) h.state ∙ get_same s.members (d - 1) h.is h.was h.found }

  act_count : (act : Act) (reply : Reply) → ActStep s act reply t → length t.members ≡ declared act (length s.members)
  act_count (SetSeed seed) reply h = ap (λ (x : State). length x.members) h.1
  act_count (Declare name size) reply h = ap (λ (x : State). length x.members) h.4 ∙ length-append s.members _
  act_count (SetMoment moment) reply h = ap (λ (x : State). length x.members) h.2
  act_count (SetRule rule) reply h = ap (λ (x : State). length x.members) h.2
  act_count (DoFound d) reply h = ap (λ (x : State). length x.members) h.1.state
  act_count (DoRekey by a who) reply h = ap (λ (x : State). length x.members) h.state
  act_count (See d view) reply h = ap (λ (x : State). length x.members) h.state
  act_count (On d turn) reply h = turn_count d _ h
  act_count ListChain reply h = ap (λ (x : State). length x.members) h.1
  act_count AuditChain reply h = ap (λ (x : State). length x.members) h.1

  -- ---- which replies come

  pick_reply : (d : ℕ) (reply : Reply) → ActStep s (On d statements.Pick) reply t → (answer : Result (ℕ × ℕ × ℕ) PickFault) × (reply ≡ ByPick answer)
  pick_reply d reply h = by h.step.1 where
    by : PicksFlight d reply h.was h.is ⊎ PicksNone d reply h.was h.is → (answer : Result (ℕ × ℕ × ℕ) PickFault) × (reply ≡ ByPick answer)
    by (inl p) = (_, p.reply_is)
    by (inr p) = (_, p.reply_is)

  land_reply : (d : ℕ) (reply : Reply) → ActStep s (On d statements.Land) reply t → (answer : Result ℕ LandFault) × (reply ≡ ByLand answer)
  land_reply d reply h = by h.step where
    by : Landing d s reply h.was h.is h.chain → (answer : Result ℕ LandFault) × (reply ≡ ByLand answer)
    by (inl (inl p)) = (_, p.reply_is)
    by (inl (inr p)) = (_, p.reply_is)
    by (inr (same, p)) = (_, p.reply_is)

  note_reply : (d : ℕ) (reply : Reply) → ActStep s (On d statements.Note) reply t → (answer : Result Noted NoteFault) × (reply ≡ ByNote answer)
  note_reply d reply h = by h.step.1 where
    by : NotesAnswer reply h.was h.is ⊎ NotesNone reply h.was h.is → (answer : Result Noted NoteFault) × (reply ≡ ByNote answer)
    by (inl p) = (_, p.reply_is)
    by (inr p) = (_, p.reply_is)

-- ---- the queue of a device

abbrev queue_of : Part → ℕ
queue_of p = length (slice_index_or p.may 0 blank).queue

abbrev queue_in : Option Member → ℕ
queue_in None = 0
queue_in (Some m) = queue_of m.part

abbrev queue_at : State → ℕ → ℕ
queue_at s d = queue_in (slice_get s.members (d - 1))

module _ (s t : State) (d : ℕ) where
  turn_queue : (goes : Member → Member → Chain → Type 0) (h : Turns d goes s t) → (queue_at s d ≡ queue_of h.was.part) × (queue_at t d ≡ queue_of h.is.part)
  turn_queue goes h = (ap queue_in h.found, ap queue_in (turn_device s t d goes h).found)

  pick_queue : (x : ℕ × ℕ × ℕ) → ActStep s (On d statements.Pick) (ByPick (Ok x)) t → queue_at t d ≡ queue_at s d
  pick_queue x h = by h.step.1 where
    by : PicksFlight d (ByPick (Ok x)) h.was h.is ⊎ PicksNone d (ByPick (Ok x)) h.was h.is → queue_at t d ≡ queue_at s d
    by (inl p) = (turn_queue _ h).1 ∙ ap (λ (m : Member). queue_of m.part) p.member ∙ ap queue_of p.step.part ∙ sym (turn_queue _ h).0
    by (inr p) = absurd (let no = p.reply_is in cc)

  land_queue : (reply : Reply) → ActStep s (On d statements.Land) reply t → queue_at t d ≡ queue_at s d
  land_queue reply h = by h.step where
    by : Landing d s reply h.was h.is h.chain → queue_at t d ≡ queue_at s d
    by (inl (inr p)) = (turn_queue _ h).1 ∙ ap (λ (m : Member). queue_of m.part) p.member ∙ sym (turn_queue _ h).0
    by (inl (inl p)) = (turn_queue _ h).1 ∙ ap (λ (m : Member). queue_of m.part) p.member ∙ sym (turn_queue _ h).0
    by (inr (same, p)) = (turn_queue _ h).1 ∙ ap (λ (m : Member). queue_of m.part) p.member ∙ sym (turn_queue _ h).0

  -- a note of what landed shortens it
  note_queue : (n : ℕ) → IsGood s → ActStep s (On d statements.Note) (ByNote (Ok (answers.Landed n))) t → queue_at t d < queue_at s d
  note_queue n good h = by h.step.1 where
    by : NotesAnswer (ByNote (Ok (answers.Landed n))) h.was h.is ⊎ NotesNone (ByNote (Ok (answers.Landed n))) h.was h.is → queue_at t d < queue_at s d
    by (inr p) = absurd (let no = p.reply_is in cc)
    by (inl p) =
        let answer : p.answer ≡ Ok (answers.Landed n) = (let e = p.reply_is in cc) in
        let step = subst (λ a. NoteStep h.was.part p.put a p.part) answer p.step in
        let lands = step.2 in
        let meets = device_meets s d h.was good (record { numbered = h.numbered; found = h.found }) in
        let session = at_session d s.chain h.was.part lands.journal meets.part lands.flies.at in
        let flying : Flying d s.chain lands.journal lands.flight = subst (FlightMeets d s.chain lands.journal) lands.flies.flight_is session.flight in
        let old : queue_at s d ≡ length lands.journal.queue = (turn_queue _ h).0 ∙ ap (λ may. length (slice_index_or may 0 blank).queue) lands.flies.at.journal_is in
        let new : queue_at t d ≡ length (drop lands.flight.count lands.journal.queue) = (turn_queue _ h).1 ∙ ap (λ (m : Member). queue_of m.part) p.member ∙ ap queue_of lands.part in
        let some = flying.some in
        let few = flying.few in
        let cut = length-drop lands.flight.count lands.journal.queue in
        omega arith

-- ---- a statement to its end

-- the rest of a statement can be done, and ends
record Done (statement : Statement) (before : List Reply) (s : State) : Type 0 where
  replies : List Reply
  state : State
  progress : Progress statement before s replies state
  end : next statement (before ++ replies) ≡ None
  plain : All IsPlain replies
  count : length state.members ≡ length s.members

abbrev Device : State → ℕ → Type 0
Device s d = (m : Member) × IsDevice s d m

last_push : (before : List Reply) (reply : Reply) → last_reply (before ++ reply ∷ []) ≡ Some reply
last_push [] reply = refl
last_push (r ∷ []) reply = refl
last_push (r ∷ x ∷ before) reply = last_push (x ∷ before) reply

-- the part that comes behind a reply
next_push : (statement : Statement) (before : List Reply) (reply : Reply) → next statement (before ++ reply ∷ []) ≡ next_after statement (Some reply)
next_push statement before reply = ap (next_after statement) (last_push before reply)

-- one part more, and the rest
add : (statement : Statement) (before : List Reply) (s : State) (act : Act) (reply : Reply) (mid : State) → next statement before ≡ Some act → ActStep s act reply mid → IsPlain reply → length mid.members ≡ length s.members
    → Done statement (before ++ reply ∷ []) mid → Done statement before s
add statement before s act reply mid e step plain count rest = record {
  replies = reply ∷ rest.replies;
  state = rest.state;
  progress = (act, mid, e, step, rest.progress);
  end = ap (next statement) (sym (append_assoc before (reply ∷ []) rest.replies)) ∙ rest.end;
  plain = All-cons IsPlain reply rest.replies plain rest.plain;
  count = rest.count ∙ count;
}

-- no part more
stop : (statement : Statement) (before : List Reply) (s : State) → next statement before ≡ None → Done statement before s
stop statement before s e = record { replies = []; state = s; progress = refl; end = ap (next statement) (append_none before) ∙ e; plain = All-nil IsPlain; count = refl }

-- which part follows in a flush or a drain
record Rounds (statement : Statement) (d : ℕ) : Type 0 where
  refused : (fault : PickFault) → next_after statement (Some (ByPick (Err fault))) ≡ None
  picked : (x : ℕ × ℕ × ℕ) → next_after statement (Some (ByPick (Ok x))) ≡ Some (On d statements.Land)
  put : (x : Result ℕ LandFault) → (next_after statement (Some (ByLand x)) ≡ None) ⊎ (next_after statement (Some (ByLand x)) ≡ Some (On d statements.Note))
  noted : (x : Result Noted NoteFault) → (next_after statement (Some (ByNote x)) ≡ None) ⊎ ((n : ℕ) × (x ≡ Ok (answers.Landed n)) × (next_after statement (Some (ByNote x)) ≡ Some (On d statements.Pick)))

flush_rounds : (d : ℕ) → Rounds (statements.Flush d) d
flush_rounds d = record { refused = λ fault. refl; picked = λ x. refl; put = by; noted = λ x. inl refl } where
  by : (x : Result ℕ LandFault) → (next_after (statements.Flush d) (Some (ByLand x)) ≡ None) ⊎ (next_after (statements.Flush d) (Some (ByLand x)) ≡ Some (On d statements.Note))
  by (Ok n) = inr refl
  by (Err statements.NoFlight) = inr refl
  by (Err (statements.LinkFault lost)) = inl refl
  by (Err (statements.ByFolder fault)) = inr refl

drain_rounds : (d : ℕ) → Rounds (statements.Drain d) d
drain_rounds d = record { refused = λ fault. refl; picked = λ x. refl; put = (flush_rounds d).put; noted = by } where
  by : (x : Result Noted NoteFault) → (next_after (statements.Drain d) (Some (ByNote x)) ≡ None) ⊎ ((n : ℕ) × (x ≡ Ok (answers.Landed n)) × (next_after (statements.Drain d) (Some (ByNote x)) ≡ Some (On d statements.Pick)))
  by (Ok (answers.Landed n)) = inr (n, refl, refl)
  by (Ok (answers.Noted.Branched at)) = inl refl
  by (Ok answers.Kept) = inl refl
  by (Err fault) = inl refl

module _ (statement : Statement) (d : ℕ) (rounds : Rounds statement d) where
  -- what goes on with a shorter queue
  abbrev Shorter : State → Type 0
  Shorter s = (before : List Reply) (t : State) → IsGood t → Device t d → queue_at t d < queue_at s d → next statement before ≡ Some (On d statements.Pick) → Done statement before t

  round_note : (before : List Reply) (s t u : State) → IsGood t → Device t d → queue_at t d ≡ queue_at s d → next statement before ≡ Some (On d statements.Note) → Shorter s → Done statement before t
  round_note before s t u good device same e shorter =
      let a = part_answers t good (On d statements.Note) (device.0, device.1, tt) in
      let r = note_reply t a.1 d a.0 a.2 in
      add statement before t (On d statements.Note) a.0 a.1 e a.2 a.3 (act_count t a.1 (On d statements.Note) a.0 a.2) (elim (rounds.noted r.0) [
        | inl none ↦ stop statement (before ++ a.0 ∷ []) a.1 (next_push statement before a.0 ∙ ap (λ x. next_after statement (Some x)) r.1 ∙ none)
        | inr more ↦ (
            let landed : a.0 ≡ ByNote (Ok (answers.Landed more.0)) = r.1 ∙ ap ByNote more.1 in
            let less = note_queue t a.1 d more.0 good (subst (λ x. ActStep t (On d statements.Note) x a.1) landed a.2) in
            shorter (before ++ a.0 ∷ []) a.1 (act_keeps t a.1 good (On d statements.Note) a.0 a.2) (a.2.is, turn_device t a.1 d _ a.2) (subst (λ n. queue_at a.1 d < n) same less)
            (next_push statement before a.0 ∙ ap (λ x. next_after statement (Some x)) r.1 ∙ more.2))
      ])

  round_put : (before : List Reply) (s t : State) → IsGood t → Device t d → queue_at t d ≡ queue_at s d → next statement before ≡ Some (On d statements.Land) → Shorter s → Done statement before t
  round_put before s t good device same e shorter =
      let a = part_answers t good (On d statements.Land) (device.0, device.1, tt) in
      let r = land_reply t a.1 d a.0 a.2 in
      let after = next_push statement before a.0 ∙ ap (λ x. next_after statement (Some x)) r.1 in
      add statement before t (On d statements.Land) a.0 a.1 e a.2 a.3 (act_count t a.1 (On d statements.Land) a.0 a.2) (elim (rounds.put r.0) [
        | inl none ↦ stop statement (before ++ a.0 ∷ []) a.1 (after ∙ none)
        | inr more ↦ round_note (before ++ a.0 ∷ []) s a.1 t (act_keeps t a.1 good (On d statements.Land) a.0 a.2) (a.2.is, turn_device t a.1 d _ a.2) (land_queue t a.1 d a.0 a.2 ∙ same) (after ∙ more) shorter
      ])

  round : (before : List Reply) (s : State) → IsGood s → Device s d → next statement before ≡ Some (On d statements.Pick) → Shorter s → Done statement before s
  round before s good device e shorter = add statement before s (On d statements.Pick) a.0 a.1 e a.2 a.3 (act_count s a.1 (On d statements.Pick) a.0 a.2) (by r.0 r.1) where
    a : (reply : Reply) × (t : State) × ActStep s (On d statements.Pick) reply t × IsPlain reply
    a = part_answers s good (On d statements.Pick) (device.0, device.1, tt)

    r : (answer : Result (ℕ × ℕ × ℕ) PickFault) × (a.0 ≡ ByPick answer)
    r = pick_reply s a.1 d a.0 a.2

    by : (answer : Result (ℕ × ℕ × ℕ) PickFault) → a.0 ≡ ByPick answer → Done statement (before ++ a.0 ∷ []) a.1
    by (Err fault) is = stop statement (before ++ a.0 ∷ []) a.1 (next_push statement before a.0 ∙ ap (λ x. next_after statement (Some x)) is ∙ rounds.refused fault)
    by (Ok x) is =
        round_put (before ++ a.0 ∷ []) s a.1 (act_keeps s a.1 good (On d statements.Pick) a.0 a.2) (a.2.is, turn_device s a.1 d _ a.2) (pick_queue s a.1 d x (subst (λ y. ActStep s (On d statements.Pick) y a.1) is a.2))
        (next_push statement before a.0 ∙ ap (λ y. next_after statement (Some y)) is ∙ rounds.picked x) shorter

  all_rounds : (most : ℕ) (before : List Reply) (s : State) → IsGood s → Device s d → queue_at s d ≤ most → next statement before ≡ Some (On d statements.Pick) → Done statement before s
  all_rounds zero before s good device le e = round before s good device e (λ b t g v lt f. absurd (omega arith))
  all_rounds (suc most) before s good device le e = round before s good device e (λ b t g v lt f. all_rounds most b t g v (omega arith) f)

-- a resolution
settle_done : (before : List Reply) (s : State) (d : ℕ) (statement : Statement) → IsGood s → Device s d → next statement before ≡ Some (On d statements.Settle) → ((answer : Result (ℕ × Report) SettleFault) → next_after statement (Some (BySettle answer)) ≡ None) → Done statement before s
settle_done before s d statement good device e last =
    let a = part_answers s good (On d statements.Settle) (device.0, device.1, tt) in
    let is : a.0 ≡ BySettle a.2.step.answer = a.2.step.reply_is in
    add statement before s (On d statements.Settle) a.0 a.1 e a.2 a.3 (act_count s a.1 (On d statements.Settle) a.0 a.2)
    (stop statement (before ++ a.0 ∷ []) a.1 (next_push statement before a.0 ∙ ap (λ y. next_after statement (Some y)) is ∙ last a.2.step.answer))

resolve_done : (s : State) (d : ℕ) → IsGood s → Device s d → Done (statements.Resolve d) [] s
resolve_done s d good device = add (statements.Resolve d) [] s (On d statements.Fetch) a.0 a.1 refl a.2 a.3 (act_count s a.1 (On d statements.Fetch) a.0 a.2) (by a.2.step.1.answer a.2.step.1.reply_is) where
  a : (reply : Reply) × (t : State) × ActStep s (On d statements.Fetch) reply t × IsPlain reply
  a = part_answers s good (On d statements.Fetch) (device.0, device.1, tt)

  by : (answer : Result ℕ FetchFault) → a.0 ≡ ByFetch answer → Done (statements.Resolve d) (a.0 ∷ []) a.1
  by (Err fault) is = stop (statements.Resolve d) (a.0 ∷ []) a.1 (ap (λ y. next_after (statements.Resolve d) (Some y)) is)
  by (Ok n) is = settle_done (a.0 ∷ []) a.1 d (statements.Resolve d) (act_keeps s a.1 good (On d statements.Fetch) a.0 a.2) (a.2.is, turn_device s a.1 d _ a.2)
      (ap (λ y. next_after (statements.Resolve d) (Some y)) is) (λ answer. refl)

-- ---- scripts

-- so many devices are declared, and the chain is empty before the founding
abbrev After : ℕ → Bool → State → Type 0
After n founded s = (length s.members ≡ n) × (founded ≡ false → s.chain ≡ [])

record Stated (n : ℕ) (founded : Bool) (statement : Statement) (s : State) : Type 0 where
  replies : List Reply
  state : State
  steps : Steps s statement replies state
  plain : All IsPlain replies
  after : After (declared_by n statement) (founded_by founded statement) state

device_of : (s : State) (n d : ℕ) → length s.members ≡ n → IsOneOf n d → Device s d
device_of s n d count one =
    let from = one.0 in
    let to = one.1 in
    let m = member_at s.members (d - 1) (omega arith) in
    (m.0, record { numbered = one.0; found = m.1 })

-- a statement of one part
single : (n : ℕ) (founded : Bool) (act : Act) (s : State) → IsGood s → IsAsked s act → ((reply : Reply) (t : State) → ActStep s act reply t → After (declared_by n (statements.Do act)) (founded_by founded (statements.Do act)) t) → Stated n founded (statements.Do act) s
single n founded act s good ask after =
    let a = part_answers s good act ask in
    record { replies = a.0 ∷ []; state = a.1; steps = ((act, a.1, refl, a.2, refl), refl); plain = All-cons IsPlain a.0 [] a.3 (All-nil IsPlain); after = after a.0 a.1 a.2 }

-- what a turn asks for
asks : (turn : Turn) → IsInRange turn → TurnAsks turn
asks (statements.Batch most) range = range
asks (statements.Restore size) range = range
asks turn range = tt

-- an early turn leaves the chain
early : (s : State) (turn : Turn) (d : ℕ) (reply : Reply) (was is : Member) (c : Chain) → IsEarly turn → TurnStep s d turn reply was is c → c ≡ s.chain
early s (statements.Fuse steps) d reply was is c e h = h.0
early s turn d reply was is c e h = absurd e

-- once the folder is founded, the devices alone are counted
counted : (n : ℕ) (t : State) → length t.members ≡ n → After n true t
counted n t e = (e, λ no. cc)

of_done : (n : ℕ) (statement : Statement) (s : State) → length s.members ≡ n → declared_by n statement ≡ n → founded_by true statement ≡ true → Done statement [] s → Stated n true statement s
of_done n statement s count same founded h = record {
  replies = h.replies;
  state = h.state;
  steps = (h.progress, h.end);
  plain = h.plain;
  after = (h.count ∙ count ∙ sym same, λ no. absurd (let e : true ≡ false = sym founded ∙ no in cc));
}

stated : (n : ℕ) (founded : Bool) (statement : Statement) (s : State) → IsGood s → After n founded s → MayStand n founded statement → Stated n founded statement s
stated n founded (statements.Do (SetSeed seed)) s good after may = single n founded (SetSeed seed) s good tt (λ r t h. (act_count s t (SetSeed seed) r h ∙ after.0, λ no. ap (λ (x : State). x.chain) h.1 ∙ after.1 no))
stated n founded (statements.Do (Declare name size)) s good after may = single n founded (Declare name size) s good ((let lt = may.0 in let same = after.0 in omega arith), may.1, may.2)
    (λ r t h. (act_count s t (Declare name size) r h ∙ ap (λ k. k + 1) after.0, λ no. ap (λ (x : State). x.chain) h.4 ∙ after.1 no))
stated n founded (statements.Do (SetMoment moment)) s good after may = single n founded (SetMoment moment) s good may (λ r t h. (act_count s t (SetMoment moment) r h ∙ after.0, λ no. ap (λ (x : State). x.chain) h.2 ∙ after.1 no))
stated n false (statements.Do (DoFound d)) s good after may = single n false (DoFound d) s good (device_of s n d after.0 may, after.1 refl) (λ r t h. counted n t (act_count s t (DoFound d) r h ∙ after.0))
stated n true (statements.Do (DoFound d)) s good after may = absurd may
stated n true (statements.Do (SetRule rule)) s good after may = single n true (SetRule rule) s good may (λ r t h. counted n t (act_count s t (SetRule rule) r h ∙ after.0))
stated n true (statements.Do (DoRekey by a who)) s good after may = single n true (DoRekey by a who) s good (device_of s n by after.0 may.0, device_of s n who after.0 may.1, may.2)
    (λ r t h. counted n t (act_count s t (DoRekey by a who) r h ∙ after.0))
stated n true (statements.Do (See d view)) s good after may = single n true (See d view) s good (device_of s n d after.0 may) (λ r t h. counted n t (act_count s t (See d view) r h ∙ after.0))
stated n false (statements.Do (On d turn)) s good after may =
    let m = device_of s n d after.0 may.0 in
    single n false (On d turn) s good (m.0, m.1, asks turn may.2) (λ r t h. (act_count s t (On d turn) r h ∙ after.0, λ no. ap (λ (x : State). x.chain) h.state ∙ early s turn d r h.was h.is h.chain may.1 h.step ∙ after.1 no))
stated n true (statements.Do (On d turn)) s good after may =
    let m = device_of s n d after.0 may.0 in
    single n true (On d turn) s good (m.0, m.1, asks turn may.1) (λ r t h. counted n t (act_count s t (On d turn) r h ∙ after.0))
stated n true (statements.Do ListChain) s good after may = single n true ListChain s good tt (λ r t h. counted n t (act_count s t ListChain r h ∙ after.0))
stated n true (statements.Do AuditChain) s good after may = single n true AuditChain s good tt (λ r t h. counted n t (act_count s t AuditChain r h ∙ after.0))
stated n true (statements.Flush d) s good after may = of_done n (statements.Flush d) s after.0 refl refl (all_rounds (statements.Flush d) d (flush_rounds d) (queue_at s d) [] s good (device_of s n d after.0 may) (omega arith) refl)
stated n true (statements.Drain d) s good after may = of_done n (statements.Drain d) s after.0 refl refl (all_rounds (statements.Drain d) d (drain_rounds d) (queue_at s d) [] s good (device_of s n d after.0 may) (omega arith) refl)
stated n true (statements.Resolve d) s good after may = of_done n (statements.Resolve d) s after.0 refl refl (resolve_done s d good (device_of s n d after.0 may))
stated n false statement s good after may = absurd may

record Answered (statements : List Statement) (s : State) : Type 0 where
  each : List (List Reply)
  state : State
  run : Run s statements each state
  plain : All (All IsPlain) each

answered : (n : ℕ) (founded : Bool) (statements : List Statement) (s : State) → IsGood s → After n founded s → MayFollow n founded statements → Answered statements s
answered n founded [] s good after may = record { each = []; state = s; run = refl; plain = All-nil (All IsPlain) }
answered n founded (statement ∷ statements) s good after may =
    let first = stated n founded statement s good after may.0 in
    let rest = answered (declared_by n statement) (founded_by founded statement) statements first.state (steps_keep s statement first.replies first.state first.steps good) first.after may.1
    in
    record { each = first.replies ∷ rest.each; state = rest.state; run = (first.state, first.steps, rest.run); plain = All-cons (All IsPlain) first.replies rest.each first.plain rest.plain }

pub scripts_reply : ScriptsHaveReplies
scripts_reply statements script =
    let a = answered 0 false statements new_state new_good (refl, λ no. refl) script in
    (a.each, record { state = a.state; run = a.run; plain = a.plain })

pub scripts_answered : ScriptsAreAnswered
scripts_answered statements script =
    let all = scripts_reply statements script in
    (all.0, plain_answers statements all.0 all.1)
