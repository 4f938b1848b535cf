-- Statements of several parts, part by part.
use Rattle.std.proofs.Common.{◌≡◌, ℕ, zero, suc, ◌+◌, ◌-◌, ◌≤◌, Bool, true, false, List, [], ◌∷◌, ◌++◌, length, Option, Some, None, Result, Ok, Err, inl, inr, refl, sym, ap, ◌∙◌, subst, arith, append_assoc, append-nil, length-append}
use Rattle.std.specs.Prelude.{slice_get, slice_set}
use Rattle.std.specs.Option.{option_map}
use Rattle.kb_edge.specs.declared.disk.Disk.{Ghosts}
use Rattle.kb_script.specs.declared.statements.Statement as script
use Rattle.kb_script.specs.declared.statements.Statement.TheVariants as said
use Rattle.kb_lines.specs.declared.lines.Line.{Line}
use Rattle.kb_device.specs.Answers as answers
use Rattle.kb_snap.specs.Answers.{PutFault}
use Rattle.kb_device.specs.Answers.{Noted, NoteFault, PickFault}
use Rattle.kb_snap.specs.Chains.{Chain}
use Rattle.kb_snap.specs.Puts.{Ask, PutStep}
use Rattle.kb_device.specs.Parts.{Part, NoteStep}
use Rattle.kb_world.specs.Statements.{Statement, Reply, Silent, Off, ByRekey, ByCall, ByLook, ByStatus, ByPick, ByLand, ByNote, ByPull, ByFetch, BySettle, ByOpen, ByBackup, ByRestore, ByPast, ByReclaim, Lists, Audited, Act, On, Do}
use Rattle.kb_world.specs.Statements as statements
use Rattle.kb_world.specs.Machine.{Member, State, ActStep, Progress, Steps, Lacks, Ends, Stage, ToPick, ToLand, ToNote, stage_act, flush_stage, drain_stage, next, next_after, last_reply, PicksFlight, PicksNone, IsNotAsked, PutsAsk, PutsNone, NotesAnswer, NotesNone}
use Rattle.kb_device.specs.Waits.{Asked, Answered}
use Rattle.kb_folder.specs.Chains.{Names}
use Rattle.kb_world.specs.Spoken.{statement_of, device_of}
use Rattle.kb_world.specs.Printed.{printed, all_printed}
use Rattle.sha2.specs.Sha256.{sha256}
use Rattle.kb_seal.specs.Sealing.{seal_by_hmac, sign_by_hmac}
use Rattle.kb_folder.specs.Held.{held}
use Rattle.kb_device.proofs.Longer.{chain_length}
use Rattle.kb_world.specs.Standing.{WorldStands, IsStanding, device_count}
use Rattle.kb_world.specs.Doing.{MayDo, Tells, Does, DoesOn, GoesOn, Flushes, stage_if, is_picked, is_carried, is_noted}
use Rattle.kb_world.specs.declared.world.World.{World}

-- ---- the machine's statements

-- one more part
pub Progress-more : (statement : Statement) (before : List Reply) (s : State) (each : List Reply) (mid : State) (act : Act) (reply : Reply) (t : State)
    → Progress statement before s each mid → next statement (before ++ each) ≡ Some act → ActStep mid act reply t → Progress statement before s (each ++ reply ∷ []) t
Progress-more statement before s [] mid act reply t so_far comes step =
    (act, t, ap (next statement) (sym (append-nil before)) ∙ comes, subst (λ u. ActStep u act reply t) so_far step, refl)
Progress-more statement before s (first ∷ each) mid act reply t so_far comes step = (
  so_far.0,
  so_far.1,
  so_far.2,
  so_far.3,
  Progress-more statement (before ++ first ∷ []) so_far.1 each mid act reply t so_far.4 (ap (next statement) (append_assoc before (first ∷ []) each) ∙ comes) step,
)

pub steps_one : (act : Act) (s : State) (reply : Reply) (t : State) → ActStep s act reply t → Steps s (Do act) (reply ∷ []) t
steps_one act s reply t step = ((act, t, refl, step, refl), refl)

pub lacks_first : (statement : Statement) (s t : State) → t ≡ s → Ends s statement t
lacks_first statement s t same = ([], s, refl, inl same)

-- ---- flushes

-- the stage that comes next in a flush
stage_next : (d : ℕ) (before : List Reply) (stage : Option Stage) → flush_stage (last_reply before) ≡ stage → next (statements.Flush d) before ≡ option_map (stage_act d) stage
stage_next d before stage e = ap (option_map (stage_act d)) e

pub flush_one : (d : ℕ) (s t : State) (one : Reply) → ActStep s (On d statements.Pick) one t → flush_stage (Some one) ≡ None → Steps s (statements.Flush d) (one ∷ []) t
flush_one d s t one step ends = ((On d statements.Pick, t, refl, step, refl), stage_next d (one ∷ []) None ends)

pub flush_two : (d : ℕ) (s mid t : State) (one two : Reply) → ActStep s (On d statements.Pick) one mid → flush_stage (Some one) ≡ Some ToLand → ActStep mid (On d statements.Land) two t → Progress (statements.Flush d) [] s (one ∷ two ∷ []) t
flush_two d s mid t one two first goes second = (On d statements.Pick, mid, refl, first, (On d statements.Land, t, stage_next d (one ∷ []) (Some ToLand) goes, second, refl))

pub flush_three : (d : ℕ) (s mid late t : State) (one two three : Reply) → ActStep s (On d statements.Pick) one mid → flush_stage (Some one) ≡ Some ToLand → ActStep mid (On d statements.Land) two late → flush_stage (Some two) ≡ Some ToNote
    → ActStep late (On d statements.Note) three t → flush_stage (Some three) ≡ None → Steps s (statements.Flush d) (one ∷ two ∷ three ∷ []) t
flush_three d s mid late t one two three first goes second on third ends =
    ((On d statements.Pick, mid, refl, first, (On d statements.Land, late, stage_next d (one ∷ []) (Some ToLand) goes, second, (On d statements.Note, t, stage_next d (one ∷ two ∷ []) (Some ToNote) on, third, refl))), stage_next d (one ∷ two ∷ three ∷ []) None ends)

pub flush_ends : (d : ℕ) (s mid t : State) (one : Reply) → ActStep s (On d statements.Pick) one mid → t ≡ mid → Ends s (statements.Flush d) t
flush_ends d s mid t one first same = (one ∷ [], mid, (On d statements.Pick, mid, refl, first, refl), inl same)

pub flush_ends_late : (d : ℕ) (s mid late t : State) (one two : Reply) → ActStep s (On d statements.Pick) one mid → flush_stage (Some one) ≡ Some ToLand → ActStep mid (On d statements.Land) two late → t ≡ late → Ends s (statements.Flush d) t
flush_ends_late d s mid late t one two first goes second same = (one ∷ two ∷ [], late, flush_two d s mid late one two first goes second, inl same)

-- ---- what a noted flush did

not_some : {X : Type 0} (x : X) → ◌≡◌ {A = Option X} None (Some x) → ⊥
not_some x e = cc

member_once : (members : List Member) (i : ℕ) (m n : Member) → slice_get members i ≡ Some m → slice_get members i ≡ Some n → m ≡ n
member_once members i m n a b = cc

set_at : (members : List Member) (i : ℕ) (m was n : Member) → slice_get members i ≡ Some was → slice_get (slice_set members i m) i ≡ Some n → n ≡ m
set_at [] i m was n there at = cc
set_at (x ∷ members) zero m was n there at = cc
set_at (x ∷ members) (suc i) m was n there at = set_at members i m was n there at

asks_put : (ask : Ask) (answer : Result ℕ PutFault) → Asked ask ≡ Answered answer → ⊥
asks_put ask answer e = cc

-- a pick that was not refused asks for a put
picked_waits : (d : ℕ) (s mid : State) (one : Reply) → ActStep s (On d statements.Pick) one mid → flush_stage (Some one) ≡ Some ToLand → (n : Member) → slice_get mid.members (d - 1) ≡ Some n → (ask : Ask) × (n.waiting ≡ Asked ask)
picked_waits d s mid one step goes n at = elim step.step.1 [
  | inl picks ↦ (
      let same : n ≡ step.is = set_at s.members (d - 1) step.is step.was n step.found (ap (λ (u : State). slice_get u.members (d - 1)) (sym step.state) ∙ at) in
      (picks.ask, ap (λ (x : Member). x.waiting) (same ∙ picks.member)))
  | inr none ↦ absurd (not_some ToLand (sym (refuses none.answer) ∙ ap (λ r. flush_stage (Some r)) (sym none.reply_is) ∙ goes))
]
  where
    refuses : (fault : PickFault) → flush_stage (Some (ByPick (Err fault))) ≡ None
    refuses fault = refl

answer_once : (a b : Result ℕ PutFault) → Answered a ≡ Answered b → a ≡ b
answer_once a b e = cc

-- a note that a drain goes on after is of a put that was taken
noted_put : (answer : Result Noted NoteFault) (put : Result ℕ PutFault) (p q : Part) → NoteStep p put answer q → drain_stage (Some (ByNote answer)) ≡ Some ToPick → (number : ℕ) × (put ≡ Ok number)
noted_put (Ok (answers.Landed n)) put p q step goes = (step.0, step.1)
noted_put (Ok (answers.Noted.Branched at)) put p q step goes = absurd (not_some ToPick goes)
noted_put (Ok answers.Kept) put p q step goes = absurd (not_some ToPick goes)
noted_put (Err fault) put p q step goes = absurd (not_some ToPick goes)

put_grows : (c : Chain) (ask : Ask) (put : Result ℕ PutFault) (n : ℕ) (c' : Chain) → PutStep c ask put c' → put ≡ Ok n → length c' ≡ length c + 1
put_grows c ask put n c' step ok =
    let taken : PutStep c ask (Ok n) c' = subst (λ r. PutStep c ask r c') ok step in
    ap length taken.3 ∙ length-append c (ask.revision ∷ [])

module _ (d : ℕ) (s mid late t : State) (one two three : Reply) (first : ActStep s (On d statements.Pick) one mid) (goes : flush_stage (Some one) ≡ Some ToLand) (second : ActStep mid (On d statements.Land) two late) (on : flush_stage (Some two) ≡ Some ToNote)
    (third : ActStep late (On d statements.Note) three t) (again : drain_stage (Some three) ≡ Some ToPick) where
  -- the chain is one revision longer once a flush's operation is noted
  put_noted : (ask : Ask) (answer : Result ℕ PutFault) → second.is ≡ record second.was { waiting = Answered answer } → PutStep mid.chain ask answer second.chain → length second.chain ≡ length mid.chain + 1
  put_noted ask answer is step =
      let same : third.was ≡ second.is = set_at mid.members (d - 1) second.is second.was third.was second.found (ap (λ (u : State). slice_get u.members (d - 1)) (sym second.state) ∙ third.found) in
      elim third.step.1 [
        | inl a ↦ (
            let put : a.put ≡ answer = answer_once a.put answer (sym a.waits ∙ ap (λ (x : Member). x.waiting) (same ∙ is)) in
            let noted = noted_put a.answer a.put third.was.part a.part a.step (ap (λ r. drain_stage (Some r)) (sym a.reply_is) ∙ again) in
            put_grows mid.chain ask answer noted.0 second.chain step (sym put ∙ noted.1))
        | inr none ↦ absurd (not_some ToPick (ap (λ r. drain_stage (Some r)) (sym none.reply_is) ∙ again))
      ]

  pub flush_grows : length t.chain ≡ length s.chain + 1
  flush_grows =
      let waits = picked_waits d s mid one first goes second.was second.found in
      let landed : length second.chain ≡ length mid.chain + 1 = elim second.step [
        | inl (inl p) ↦ put_noted p.ask p.answer p.member p.step
        | inl (inr l) ↦ absurd (not_some ToNote (ap (λ r. flush_stage (Some r)) (sym l.reply_is) ∙ on))
        | inr none ↦ absurd (subst IsNotAsked waits.1 none.1.none)
      ] in
      let started : length mid.chain ≡ length s.chain = ap (λ (u : State). length u.chain) first.state ∙ ap length first.step.0 in
      let ended : length t.chain ≡ length late.chain = ap (λ (u : State). length u.chain) third.state ∙ ap length third.step.0 in
      let between : length late.chain ≡ length second.chain = ap (λ (u : State). length u.chain) second.state in
      omega (arith, landed, started, ended, between)

-- ---- drains

-- a flush goes on as a drain does
next_same : (d : ℕ) (last : Option Reply) (act : Act) → option_map (stage_act d) (flush_stage last) ≡ Some act → option_map (stage_act d) (drain_stage last) ≡ Some act
next_same d None act e = e
next_same d (Some Silent) act e = e
next_same d (Some Off) act e = e
next_same d (Some (ByRekey a)) act e = e
next_same d (Some (ByCall a)) act e = e
next_same d (Some (ByLook a)) act e = e
next_same d (Some (ByStatus a)) act e = e
next_same d (Some (ByPick (Ok a))) act e = e
next_same d (Some (ByPick (Err a))) act e = e
next_same d (Some (ByLand (Ok a))) act e = e
next_same d (Some (ByLand (Err statements.NoFlight))) act e = e
next_same d (Some (ByLand (Err (statements.LinkFault a)))) act e = e
next_same d (Some (ByLand (Err (statements.ByFolder a)))) act e = e
next_same d (Some (ByNote (Ok (answers.Landed a)))) act e = cc
next_same d (Some (ByNote (Ok (answers.Noted.Branched a)))) act e = e
next_same d (Some (ByNote (Ok answers.Kept))) act e = e
next_same d (Some (ByNote (Err a))) act e = e
next_same d (Some (ByPull a)) act e = e
next_same d (Some (ByFetch a)) act e = e
next_same d (Some (BySettle a)) act e = e
next_same d (Some (ByOpen a)) act e = e
next_same d (Some (ByBackup a)) act e = e
next_same d (Some (ByRestore a)) act e = e
next_same d (Some (ByPast a)) act e = e
next_same d (Some (ByReclaim a)) act e = e
next_same d (Some (Lists a)) act e = e
next_same d (Some (Audited a)) act e = e

last_behind : (before : List Reply) (x : Reply) (xs : List Reply) → last_reply (before ++ x ∷ xs) ≡ last_reply (x ∷ xs)
last_behind [] x xs = refl
last_behind (y ∷ []) x xs = refl
last_behind (y ∷ z ∷ before) x xs = last_behind (z ∷ before) x xs

-- what a drain does next behind parts of a flush, where it began one
drain_next : (d : ℕ) (before seen : List Reply) (act : Act) → drain_stage (last_reply before) ≡ Some ToPick → next (statements.Flush d) seen ≡ Some act → next (statements.Drain d) (before ++ seen) ≡ Some act
drain_next d before [] act ready e = ap (λ l. option_map (stage_act d) (drain_stage (last_reply l))) (append-nil before) ∙ ap (option_map (stage_act d)) ready ∙ e
drain_next d before (x ∷ xs) act ready e = ap (λ l. option_map (stage_act d) (drain_stage l)) (last_behind before x xs) ∙ next_same d (last_reply (x ∷ xs)) act e

as_drain : (d : ℕ) (before seen : List Reply) (s : State) (more : List Reply) (t : State) → drain_stage (last_reply before) ≡ Some ToPick → Progress (statements.Flush d) seen s more t → Progress (statements.Drain d) (before ++ seen) s more t
as_drain d before seen s [] t ready h = h
as_drain d before seen s (reply ∷ more) t ready h = (
  h.0,
  h.1,
  drain_next d before seen h.0 ready h.2,
  h.3,
  subst (λ l. Progress (statements.Drain d) l h.1 more t) (sym (append_assoc before seen (reply ∷ []))) (as_drain d before (seen ++ reply ∷ []) h.1 more t ready h.4),
)

progress_join : (statement : Statement) (before : List Reply) (s : State) (a : List Reply) (mid : State) (b : List Reply) (t : State) → Progress statement before s a mid → Progress statement (before ++ a) mid b t → Progress statement before s (a ++ b) t
progress_join statement before s [] mid b t first second =
    subst (λ u. Progress statement before u b t) first (subst (λ l. Progress statement l mid b t) (append-nil before) second)
progress_join statement before s (reply ∷ a) mid b t first second = (
  first.0,
  first.1,
  first.2,
  first.3,
  progress_join statement (before ++ reply ∷ []) first.1 a mid b t first.4 (subst (λ l. Progress statement l mid b t) (sym (append_assoc before (reply ∷ []) a)) second),
)

printed_join : (names : Names) (d : ℕ) (a b : List Reply) → all_printed names d (a ++ b) ≡ all_printed names d a ++ all_printed names d b
printed_join names d [] b = refl
printed_join names d (reply ∷ a) b = ap (λ l. printed names d reply ++ l) (printed_join names d a b) ∙ sym (append_assoc (printed names d reply) (all_printed names d a) (all_printed names d b))

-- a drain so far, which goes on with a pick
pub record Drained (names : Names) (d : ℕ) (s : State) (lines : List Line) (t : State) : Type 0 where
  pub replies : List Reply
  pub progress : Progress (statements.Drain d) [] s replies t
  pub lines_are : lines ≡ all_printed names d replies
  pub ready : drain_stage (last_reply replies) ≡ Some ToPick

pub drain_begins : (names : Names) (d : ℕ) (s : State) (lines : List Line) → lines ≡ [] → Drained names d s lines s
drain_begins names d s lines none = record { replies = []; progress = refl; lines_are = none; ready = refl }

-- the last reply of both is that of the flush, which has some
last_of_flush : (d : ℕ) (a b : List Reply) → next (statements.Flush d) b ≡ None → last_reply (a ++ b) ≡ last_reply b
last_of_flush d a [] ends = cc
last_of_flush d a (x ∷ xs) ends = last_behind a x xs

module _ (names : Names) (d : ℕ) (s mid : State) (old new : List Line) (so_far : Drained names d s old mid) where
  drained : (t : State) (noted : Bool) → (h : Flushes names d mid noted old new t) → Progress (statements.Drain d) [] s (so_far.replies ++ h.replies) t
  drained t noted h = progress_join (statements.Drain d) [] s so_far.replies mid h.replies t so_far.progress
      (subst (λ l. Progress (statements.Drain d) l mid h.replies t) (append-nil so_far.replies) (as_drain d so_far.replies [] mid h.replies t so_far.ready h.steps.0))

  drained_lines : (t : State) (noted : Bool) → (h : Flushes names d mid noted old new t) → new ≡ all_printed names d (so_far.replies ++ h.replies)
  drained_lines t noted h = h.lines_are ∙ ap (λ l. l ++ all_printed names d h.replies) so_far.lines_are ∙ sym (printed_join names d so_far.replies h.replies)

  pub drain_more : (t : State) → Flushes names d mid true old new t → Drained names d s new t
  drain_more t h = record {
    replies = so_far.replies ++ h.replies;
    progress = drained t true h;
    lines_are = drained_lines t true h;
    ready = ap drain_stage (last_of_flush d so_far.replies h.replies h.steps.1) ∙ h.goes;
  }

  pub drain_done : (t : State) → Flushes names d mid false old new t → Does names s (said.Drain d) new t
  drain_done t h = record {
    replies = so_far.replies ++ h.replies;
    steps = (drained t false h, ap (λ l. option_map (stage_act d) (drain_stage l)) (last_of_flush d so_far.replies h.replies h.steps.1) ∙ ap (option_map (stage_act d)) h.goes);
    lines_are = drained_lines t false h;
  }

pub drain_lacks : (names : Names) (d : ℕ) (s mid : State) (old : List Line) → Drained names d s old mid → (t : State) → Ends mid (statements.Flush d) t → Ends s (statements.Drain d) t
drain_lacks names d s mid old so_far t (replies, late, progress, lacks) = (
  so_far.replies ++ replies,
  late,
  progress_join (statements.Drain d) [] s so_far.replies mid replies late so_far.progress (subst (λ l. Progress (statements.Drain d) l mid replies late) (append-nil so_far.replies) (as_drain d so_far.replies [] mid replies late so_far.ready progress)),
  lacking lacks,
)
  where
    lacking : Lacks (next (statements.Flush d) replies) late t → Lacks (next (statements.Drain d) (so_far.replies ++ replies)) late t
    lacking (inl same) = inl same
    lacking (inr l) = inr (l.0, drain_next d so_far.replies replies (On l.0 statements.Open) so_far.ready l.1, l.2)

-- ---- statements as they are read

module _ {M D : Type 0} {disks : Ghosts D} (w v : World M D disks) (given statement : script.Statement) (is : given ≡ statement) where
  pub as_given : (P : script.Statement → Names → State → State → Type 0) → ((names : Names) (s : State) → WorldStands names w s → MayDo names s statement → (t : State) × P statement names s t × WorldStands names v t) → DoesOn w v given (P given)
  as_given P h = subst (λ st. DoesOn w v st (P st)) (sym is) h

  -- one part that prints a line
  pub one_part : (d : ℕ) (act : Act) (says : Reply → Type 0) (line : Line) (lines : List Line) → statement_of statement ≡ Do act → device_of statement ≡ d → lines ≡ line ∷ []
      → ((names : Names) (s : State) → WorldStands names w s → MayDo names s statement → (t : State) × Tells names d s act line says t × WorldStands names v t) → DoesOn w v given (λ names s t. Does names s given lines t)
  one_part d act says line lines spoken device one goes = as_given (λ st names s t. Does names s st lines t) (λ names s h may.
      let to = goes names s h may in
      let told = to.1 in (
        to.0,
        record {
          replies = told.reply ∷ [];
          steps = subst (λ st. Steps s st (told.reply ∷ []) to.0) (sym spoken) (steps_one act s told.reply to.0 told.step);
          lines_are = one ∙ sym told.line_is ∙ ap (λ k. printed names k told.reply) (sym device) ∙ sym (append-nil (printed names (device_of statement) told.reply));
        },
        to.2,
      ))

  -- one that prints nothing
  pub one_silent : (act : Act) (lines : List Line) → statement_of statement ≡ Do act → lines ≡ []
      → ((names : Names) (s : State) → WorldStands names w s → MayDo names s statement → (t : State) × ActStep s act statements.Silent t × WorldStands names v t) → DoesOn w v given (λ names s t. Does names s given lines t)
  one_silent act lines spoken none goes = as_given (λ st names s t. Does names s st lines t) (λ names s h may.
      let to = goes names s h may in (
        to.0,
        record {
          replies = statements.Silent ∷ [];
          steps = subst (λ st. Steps s st (statements.Silent ∷ []) to.0) (sym spoken) (steps_one act s statements.Silent to.0 to.1);
          lines_are = none;
        },
        to.2,
      ))

  -- want of memory in the first part
  pub one_lacks : ((names : Names) (s : State) → WorldStands names w s → MayDo names s statement → (t : State) × (t ≡ s) × WorldStands names v t) → DoesOn w v given (λ names s t. Ends s (statement_of given) t)
  one_lacks goes = as_given (λ st names s t. Ends s (statement_of st) t) (λ names s h may. let to = goes names s h may in (to.0, lacks_first (statement_of statement) s to.0 to.1, to.2))

  -- or in its only part
  pub one_lacks_part : (act : Act) → statement_of statement ≡ Do act → GoesOn w v (λ names s t. Lacks (Some act) s t) → DoesOn w v given (λ names s t. Ends s (statement_of given) t)
  one_lacks_part act spoken goes = as_given (λ st names s t. Ends s (statement_of st) t) (λ names s h may.
      let to = goes names s h in
      (to.0, subst (λ st. Ends s st to.0) (sym spoken) ([], s, refl, to.1), to.2))

-- nothing was done
pub still : {M D : Type 0} {disks : Ghosts D} (w : World M D disks) (given : script.Statement) → DoesOn w w given (λ names s t. Ends s (statement_of given) t)
still w given = λ names s h may. (s, lacks_first (statement_of given) s s refl, h)

-- ---- a world's flush

abbrev pub PickSays : Line → Reply → Type 0
PickSays line reply = (flush_stage (Some reply) ≡ stage_if (is_picked line) ToLand) × (drain_stage (Some reply) ≡ flush_stage (Some reply))

abbrev pub LandSays : Line → Reply → Type 0
LandSays line reply = (flush_stage (Some reply) ≡ stage_if (is_carried line) ToNote) × (drain_stage (Some reply) ≡ flush_stage (Some reply))

abbrev pub NoteSays : Line → Reply → Type 0
NoteSays line reply = (flush_stage (Some reply) ≡ None) × (drain_stage (Some reply) ≡ stage_if (is_noted line) ToPick)

module _ {M D : Type 0} {disks : Ghosts D} where
  pub stands_after : (w v : World M D disks) (P : Names → State → State → Type 0) → IsStanding w → GoesOn w v P → IsStanding v
  stands_after w v P stands goes = let to = goes stands.0 stands.1 stands.2 in (stands.0, to.0, to.2)

  -- as many revisions as the chain has
  pub world_length : (w : World M D disks) (names : Names) (s : State) → WorldStands names w s → (held w.folder).state.length ≡ length s.chain
  world_length w names s h = sym h.folder.stands.sound.counted ∙ sym (chain_length seal_by_hmac sign_by_hmac sha256 s.seed names (held w.folder) s.chain h.folder)

  pub world_within : (w : World M D disks) → IsStanding w → (held w.folder).state.length ≤ 1000000
  world_within w stands = let has = stands.2.folder in let le = has.stands.sound.within in let is = has.limit in omega (arith, le, is)

  module _ (w u : World M D disks) (d : ℕ) (first : Line) (picks : GoesOn w u (λ names s t. Tells names d s (On d statements.Pick) first (PickSays first) t)) where
    -- a refused pick alone
    pub flushed_one : (old new : List Line) → new ≡ old ++ first ∷ [] → is_picked first ≡ false → GoesOn w u (λ names s t. Flushes names d s false old new t)
    flushed_one old new lines none = λ names s h.
        let to = picks names s h in
        let told = to.1 in
        let ends : flush_stage (Some told.reply) ≡ None = told.so.0 ∙ ap (λ b. stage_if b ToLand) none in (
          to.0,
          record {
            replies = told.reply ∷ [];
            steps = flush_one d s to.0 told.reply told.step ends;
            lines_are = lines ∙ ap (λ l. old ++ l) (sym told.line_is ∙ sym (append-nil (printed names d told.reply)));
            goes = told.so.1 ∙ ends;
          },
          to.2,
        )

    -- want of memory in the put
    pub flush_lacks_put : (v : World M D disks) → GoesOn u v (λ names s t. t ≡ s) → GoesOn w v (λ names s t. Ends s (statements.Flush d) t)
    flush_lacks_put v stays = λ names s h.
        let to = picks names s h in
        let last = stays names to.0 to.2 in
        (last.0, flush_ends d s to.0 last.0 to.1.reply to.1.step last.1, last.2)

    module _ (picked : is_picked first ≡ true) (z : World M D disks) (second : Line) (lands : GoesOn u z (λ names s t. Tells names d s (On d statements.Land) second (LandSays second) t)) where
      goes_on : (reply : Reply) → PickSays first reply → flush_stage (Some reply) ≡ Some ToLand
      goes_on reply so = so.0 ∙ ap (λ b. stage_if b ToLand) picked

      -- no note of a put that was lost
      pub flushed_two : (old new : List Line) → new ≡ (old ++ first ∷ []) ++ second ∷ [] → is_carried second ≡ false → GoesOn w z (λ names s t. Flushes names d s false old new t)
      flushed_two old new lines lost = λ names s h.
          let one = picks names s h in
          let two = lands names one.0 one.2 in
          let ends : flush_stage (Some two.1.reply) ≡ None = two.1.so.0 ∙ ap (λ b. stage_if b ToNote) lost in
          let printed_are : all_printed names d (one.1.reply ∷ two.1.reply ∷ []) ≡ first ∷ second ∷ [] = (λ i. one.1.line_is i ++ (two.1.line_is i ++ [])) in (
            two.0,
            record {
              replies = one.1.reply ∷ two.1.reply ∷ [];
              steps = (flush_two d s one.0 two.0 one.1.reply two.1.reply one.1.step (goes_on one.1.reply one.1.so) two.1.step, stage_next d (one.1.reply ∷ two.1.reply ∷ []) None ends);
              lines_are = lines ∙ append_assoc old (first ∷ []) (second ∷ []) ∙ ap (λ l. old ++ l) (sym printed_are);
              goes = two.1.so.1 ∙ ends;
            },
            two.2,
          )

      -- want of memory in the note
      pub flush_lacks_note : (v : World M D disks) → GoesOn z v (λ names s t. t ≡ s) → GoesOn w v (λ names s t. Ends s (statements.Flush d) t)
      flush_lacks_note v stays = λ names s h.
          let one = picks names s h in
          let two = lands names one.0 one.2 in
          let last = stays names two.0 two.2 in
          (last.0, flush_ends_late d s one.0 two.0 last.0 one.1.reply two.1.reply one.1.step (goes_on one.1.reply one.1.so) two.1.step last.1, last.2)

      module _ (carried : is_carried second ≡ true) (v : World M D disks) (third : Line) (notes : GoesOn z v (λ names s t. Tells names d s (On d statements.Note) third (NoteSays third) t)) where
        notes_on : (reply : Reply) → LandSays second reply → flush_stage (Some reply) ≡ Some ToNote
        notes_on reply so = so.0 ∙ ap (λ b. stage_if b ToNote) carried

        pub flushed_three : (old new : List Line) → new ≡ ((old ++ first ∷ []) ++ second ∷ []) ++ third ∷ [] → GoesOn w v (λ names s t. Flushes names d s (is_noted third) old new t)
        flushed_three old new lines = λ names s h.
            let one = picks names s h in
            let two = lands names one.0 one.2 in
            let three = notes names two.0 two.2 in
            let printed_are : all_printed names d (one.1.reply ∷ two.1.reply ∷ three.1.reply ∷ []) ≡ first ∷ second ∷ third ∷ [] = (λ i. one.1.line_is i ++ (two.1.line_is i ++ (three.1.line_is i ++ []))) in (
              three.0,
              record {
                replies = one.1.reply ∷ two.1.reply ∷ three.1.reply ∷ [];
                steps = flush_three d s one.0 two.0 three.0 one.1.reply two.1.reply three.1.reply one.1.step (goes_on one.1.reply one.1.so) two.1.step (notes_on two.1.reply two.1.so) three.1.step three.1.so.0;
                lines_are = lines ∙ append_assoc (old ++ first ∷ []) (second ∷ []) (third ∷ []) ∙ append_assoc old (first ∷ []) (second ∷ third ∷ []) ∙ ap (λ l. old ++ l) (sym printed_are);
                goes = three.1.so.1;
              },
              three.2,
            )

        pub flushed_grows : IsStanding w → is_noted third ≡ true → (held v.folder).state.length ≡ (held w.folder).state.length + 1
        flushed_grows stands noted =
            let names = stands.0 in
            let s = stands.1 in
            let one = picks names s stands.2 in
            let two = lands names one.0 one.2 in
            let three = notes names two.0 two.2 in
            let grows = flush_grows d s one.0 two.0 three.0 one.1.reply two.1.reply three.1.reply one.1.step (goes_on one.1.reply one.1.so) two.1.step (notes_on two.1.reply two.1.so) three.1.step (three.1.so.1 ∙ ap (λ b. stage_if b ToPick) noted) in
            let before = world_length w names s stands.2 in
            let after = world_length v names three.0 three.2 in
            omega (arith, grows, before, after)

  -- want of memory before or in the pick
  pub flush_lacks : (w v : World M D disks) (d : ℕ) → GoesOn w v (λ names s t. t ≡ s) → GoesOn w v (λ names s t. Ends s (statements.Flush d) t)
  flush_lacks w v d stays = λ names s h. let to = stays names s h in (to.0, lacks_first (statements.Flush d) s to.0 to.1, to.2)

  -- ---- and its drain

  pub record Draining (w v : World M D disks) (d : ℕ) (lines : List Line) : Type 0 where
    pub stands : IsStanding v
    pub count : device_count v ≡ device_count w
    pub drained : GoesOn w v (λ names s t. Drained names d s lines t)

  pub draining_begins : (w : World M D disks) (d : ℕ) (lines : List Line) → IsStanding w → lines ≡ [] → Draining w w d lines
  draining_begins w d lines stands none = record { stands = stands; count = refl; drained = λ names s h. (s, drain_begins names d s lines none, h) }

  module _ (w v u : World M D disks) (d : ℕ) (old new : List Line) (so_far : Draining w v d old) where
    pub draining_more : (noted : Bool) → noted ≡ true → GoesOn v u (λ names s t. Flushes names d s noted old new t) → device_count u ≡ device_count v → Draining w u d new
    draining_more noted is flushes count = record {
      stands = stands_after v u _ so_far.stands flushes;
      count = count ∙ so_far.count;
      drained = λ names s h. (
          let first = so_far.drained names s h in
          let then = flushes names first.0 first.2 in
          (then.0, drain_more names d s first.0 old new first.1 then.0 (subst (λ b. Flushes names d first.0 b old new then.0) is then.1), then.2));
    }

    pub draining_done : (noted : Bool) → noted ≡ false → GoesOn v u (λ names s t. Flushes names d s noted old new t) → GoesOn w u (λ names s t. Does names s (said.Drain d) new t)
    draining_done noted is flushes = λ names s h.
        let first = so_far.drained names s h in
        let then = flushes names first.0 first.2 in
        (then.0, drain_done names d s first.0 old new first.1 then.0 (subst (λ b. Flushes names d first.0 b old new then.0) is then.1), then.2)

    pub draining_lacks : GoesOn v u (λ names s t. Ends s (statements.Flush d) t) → GoesOn w u (λ names s t. Ends s (statements.Drain d) t)
    draining_lacks ends = λ names s h.
        let first = so_far.drained names s h in
        let then = ends names first.0 first.2 in
        (then.0, drain_lacks names d s first.0 old first.1 then.0 then.1, then.2)
