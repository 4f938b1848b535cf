-- Statements that fit may be done in the states of their run, and are a script of the plain machine.
use Rattle.std.proofs.Common.{◌≡◌, ℕ, zero, suc, ◌+◌, ◌-◌, ◌<◌, ◌≤◌, Bool, true, false, List, [], ◌∷◌, ◌++◌, length, take, Option, Some, None, refl, sym, ap, ◌∙◌, subst, arith, length-append}
use Rattle.std.specs.Prelude.{slice_get, slice_index_or}
use Rattle.std.specs.Option.{option_map}
use Rattle.std.proofs.lemmas.List.{length-set}
use Rattle.kb_keys.specs.declared.policy.Role.{Role}
use Rattle.kb_keys.specs.declared.policy.Role.TheVariants.{Writer, Reader}
use Rattle.kb_keys.specs.declared.policy.Action.TheVariants as action
use Rattle.kb_snap.specs.Rekeys.{grant_of}
use Rattle.kb_script.specs.declared.statements.Statement.{Statement}
use Rattle.kb_script.specs.declared.statements.Statement.TheVariants.{Seed, Device, Found, Grant, Revoke, At, Open, Pick, Land, Note, Flush, Drain, Pull, Fetch, Settle, Resolve, Status, Fuse, Lose, Power, Folder, Verify, File, Look}
use Rattle.kb_script.specs.Fit.{IsFit, AllFitFrom, declared_after, found_after}
use Rattle.kb_world.specs.Statements.{Reply, Act, Turn, On, SetSeed, Declare, DoFound, DoRekey, SetMoment, See, ListChain, AuditChain}
use Rattle.kb_world.specs.Statements as machine
use Rattle.kb_world.specs.Machine.{State, ActStep, Progress, Steps, Run, Stage, ToPick, ToLand, ToNote, ToFetch, ToSettle, stage_act, next_after, last_reply}
use Rattle.kb_world.specs.RunLaws.{IsChange}
use Rattle.kb_world.specs.RunReplies.{MayStand, MayFollow, declared_by, founded_by}
use Rattle.kb_folder.specs.Chains.{Names}
use Rattle.kb_world.specs.Spoken.{statement_of}
use Rattle.kb_world.specs.Doing.{MayDo}
use Rattle.kb_top.specs.Replies.{declared_names, names_in, plain}

-- ---- how many devices are declared after statements, and whether the folder is founded

abbrev pub declared_after_all : ℕ → List Statement → ℕ
declared_after_all count [] = count
declared_after_all count (statement ∷ statements) = declared_after_all (declared_after count statement) statements

abbrev pub found_after_all : Bool → List Statement → Bool
found_after_all found [] = found
found_after_all found (statement ∷ statements) = found_after_all (found_after found statement) statements

pub declared_push : (count : ℕ) (statements : List Statement) (statement : Statement) → declared_after_all count (statements ++ statement ∷ []) ≡ declared_after (declared_after_all count statements) statement
declared_push count [] statement = refl
declared_push count (first ∷ statements) statement = declared_push (declared_after count first) statements statement

pub found_push : (found : Bool) (statements : List Statement) (statement : Statement) → found_after_all found (statements ++ statement ∷ []) ≡ found_after (found_after_all found statements) statement
found_push found [] statement = refl
found_push found (first ∷ statements) statement = found_push (found_after found first) statements statement

-- each statement fits where it comes
pub fit_at : (count : ℕ) (found : Bool) (statements : List Statement) (n : ℕ) (statement : Statement)
    → AllFitFrom count found statements → slice_get statements n ≡ Some statement → IsFit (declared_after_all count (take n statements)) (found_after_all found (take n statements)) statement
fit_at count found [] n statement fit e = cc
fit_at count found (first ∷ statements) zero statement fit e = let same : first ≡ statement = cc in subst (λ s. IsFit count found s) same fit.0
fit_at count found (first ∷ statements) (suc n) statement fit e = fit_at (declared_after count first) (found_after found first) statements n statement fit.1 e

-- ---- names

named_count : (statements : List Statement) (count : ℕ) → declared_after_all count statements ≡ count + length (declared_names statements)
named_count [] count = omega arith
named_count (Device name size ∷ statements) count = let more = named_count statements (count + 1) in omega (arith, more)
named_count (statement ∷ statements) count = named_count statements count

name_at : (statements : List Statement) (n : ℕ) (name : List ℕ) (size : ℕ) → slice_get statements n ≡ Some (Device name size) → slice_index_or (declared_names statements) (length (declared_names (take n statements))) [] ≡ name
name_at [] n name size e = cc
name_at (Device other bytes ∷ statements) zero name size e = cc
name_at (statement ∷ statements) zero name size e = cc
name_at (Device other bytes ∷ statements) (suc n) name size e = name_at statements n name size e
name_at (statement ∷ statements) (suc n) name size e = name_at statements n name size e

-- the device that a statement declares has its name
pub declares : (statements : List Statement) (n : ℕ) (name : List ℕ) (size : ℕ) → slice_get statements n ≡ Some (Device name size) → names_in statements (declared_after_all 0 (take n statements) + 1) ≡ name
declares statements n name size e =
    let count : declared_after_all 0 (take n statements) + 1 - 1 ≡ length (declared_names (take n statements)) = (let c = named_count (take n statements) 0 in omega (arith, c)) in
    ap (λ i. slice_index_or (declared_names statements) i []) count ∙ name_at statements n name size e

-- what is said of a name where a device is declared
abbrev pub NamesNext : Names → ℕ → Statement → Type 0
NamesNext names count (Device name size) = names (count + 1) ≡ name
NamesNext names count statement = Unit {0}

pub names_next : (statements : List Statement) (n : ℕ) (statement : Statement) → slice_get statements n ≡ Some statement → NamesNext (names_in statements) (declared_after_all 0 (take n statements)) statement
names_next statements n (Device name size) e = declares statements n name size e
names_next statements n statement e = tt

-- ---- what a statement leaves

-- a statement of one part
pub record Once (s : State) (act : Act) (replies : List Reply) (t : State) : Type 0 where
  pub reply : Reply
  pub replies_are : replies ≡ reply ∷ []
  pub step : ActStep s act reply t

pub once : (s : State) (act : Act) (replies : List Reply) (t : State) → Steps s (machine.Do act) replies t → Once s act replies t
once s act [] t h = cc
once s act (reply ∷ []) t h =
    let same : act ≡ h.0.0 = (let e = h.0.2 in cc) in
    record { reply = reply; replies_are = refl; step = subst (λ u. ActStep s act reply u) (sym h.0.4) (subst (λ a. ActStep s a reply h.0.1) (sym same) h.0.3) }
once s act (reply ∷ more ∷ replies) t h = (let e = h.0.4.2 in cc)

-- each part of a statement is a turn of a device
abbrev Turned : machine.Statement → Type 0
Turned statement = (before : Option Reply) (act : Act) → next_after statement before ≡ Some act → (d : ℕ) × (turn : Turn) × (act ≡ On d turn)

staged : (d : ℕ) (stage : Option Stage) (act : Act) → option_map (stage_act d) stage ≡ Some act → (e : ℕ) × (turn : Turn) × (act ≡ On e turn)
staged d None act h = cc
staged d (Some ToPick) act h = (d, machine.Pick, cc)
staged d (Some ToLand) act h = (d, machine.Land, cc)
staged d (Some ToNote) act h = (d, machine.Note, cc)
staged d (Some ToFetch) act h = (d, machine.Fetch, cc)
staged d (Some ToSettle) act h = (d, machine.Settle, cc)

turn_count : (s t : State) (d : ℕ) (turn : Turn) (reply : Reply) → ActStep s (On d turn) reply t → length t.members ≡ length s.members
turn_count s t d turn reply h = ap (λ (x : State). length x.members) h.state ∙ length-set s.members (d - 1) h.is

turns_count : (statement : machine.Statement) → Turned statement → (before : List Reply) (s : State) (replies : List Reply) (t : State) → Progress statement before s replies t → length t.members ≡ length s.members
turns_count statement turned before s [] t h = ap (λ (x : State). length x.members) h
turns_count statement turned before s (reply ∷ replies) t h =
    let one = turned (last_reply before) h.0 h.2 in
    turns_count statement turned (before ++ reply ∷ []) h.1 replies t h.4
    ∙ turn_count s h.1 one.0 one.1 reply (subst (λ a. ActStep s a reply h.1) one.2 h.3)

-- so many devices are declared, and the chain is empty before the founding
abbrev pub After : ℕ → Bool → State → Type 0
After count found s = (length s.members ≡ count) × (found ≡ false → s.chain ≡ [])

founded : (found : Bool) (P : Type 0) → found ≡ true → found ≡ false → P
founded found P is none = absurd (let e : true ≡ false = sym is ∙ none in cc)

module _ (s t : State) (count : ℕ) (found : Bool) (replies : List Reply) (was : After count found s) where
  -- behind the founding the devices alone are counted
  one_turn : (d : ℕ) (turn : Turn) → found ≡ true → Steps s (machine.Do (On d turn)) replies t → After count found t
  one_turn d turn is h = let one = once s (On d turn) replies t h in (turn_count s t d turn one.reply one.step ∙ was.0, founded found _ is)

  -- what leaves devices and chain
  leaves : (mid : State) → t ≡ mid → mid.members ≡ s.members → mid.chain ≡ s.chain → After count found t
  leaves mid e members chain = (ap (λ (x : State). length x.members) e ∙ ap length members ∙ was.0, λ no. ap (λ (x : State). x.chain) e ∙ chain ∙ was.1 no)

  pub after : (statement : Statement) → IsFit count found statement → Steps s (statement_of statement) replies t → After (declared_after count statement) (found_after found statement) t
  after (Seed seed) fit h = let one = once s (SetSeed seed) replies t h in leaves _ one.step.1 refl refl
  after (Device name size) fit h =
      let one = once s (Declare name size) replies t h in
      (ap (λ (x : State). length x.members) one.step.4 ∙ length-append s.members _ ∙ ap (λ k. k + 1) was.0, λ no. ap (λ (x : State). x.chain) one.step.4 ∙ was.1 no)
  after (Found d) fit h = let one = once s (DoFound d) replies t h in (ap (λ (x : State). length x.members) one.step.1.state ∙ was.0, λ no. cc)
  after (Grant by d role) fit h = let one = once s (DoRekey by (grant_of role) d) replies t h in (ap (λ (x : State). length x.members) one.step.state ∙ was.0, founded found _ fit.0)
  after (Revoke by d) fit h = let one = once s (DoRekey by action.Revoke d) replies t h in (ap (λ (x : State). length x.members) one.step.state ∙ was.0, founded found _ fit.0)
  after (At moment) fit h = let one = once s (SetMoment moment) replies t h in leaves _ one.step.2 refl refl
  after (Open d) fit h = one_turn d machine.Open fit.0 h
  after (Pick d) fit h = one_turn d machine.Pick fit.0 h
  after (Land d) fit h = one_turn d machine.Land fit.0 h
  after (Note d) fit h = one_turn d machine.Note fit.0 h
  after (Flush d) fit h = (turns_count (machine.Flush d) (λ before act e. staged d _ act e) [] s replies t h.0 ∙ was.0, founded found _ fit.0)
  after (Drain d) fit h = (turns_count (machine.Drain d) (λ before act e. staged d _ act e) [] s replies t h.0 ∙ was.0, founded found _ fit.0)
  after (Pull d) fit h = one_turn d machine.Pull fit.0 h
  after (Fetch d) fit h = one_turn d machine.Fetch fit.0 h
  after (Settle d) fit h = one_turn d machine.Settle fit.0 h
  after (Resolve d) fit h = (turns_count (machine.Resolve d) (λ before act e. staged d _ act e) [] s replies t h.0 ∙ was.0, founded found _ fit.0)
  after (Status d) fit h = let one = once s (See d machine.Tell) replies t h in leaves _ one.step.state refl refl
  after (Fuse d steps) fit h =
      let one = once s (On d (machine.Fuse steps)) replies t h in
      (turn_count s t d (machine.Fuse steps) one.reply one.step ∙ was.0, λ no. ap (λ (x : State). x.chain) one.step.state ∙ one.step.step.0 ∙ was.1 no)
  after (Lose d side) fit h = one_turn d (machine.Lose side) fit.0 h
  after (Power d pick) fit h = one_turn d machine.Power fit.0 h
  after Folder fit h = let one = once s ListChain replies t h in leaves _ one.step.1 refl refl
  after Verify fit h = let one = once s AuditChain replies t h in leaves _ one.step.1 refl refl
  after (File d request) fit h = one_turn d (machine.Call request) fit.0 h
  after (Look d show) fit h = let one = once s (See d (machine.Look show)) replies t h in leaves _ one.step.state refl refl

-- ---- a statement that fits may be done

may_do_here : (names : Names) (s : State) (found : Bool) (statement : Statement) → IsFit (length s.members) found statement → (found ≡ false → s.chain ≡ []) → NamesNext names (length s.members) statement → MayDo names s statement
may_do_here names s found (Seed seed) fit chain name = fit
may_do_here names s found (Device text size) fit chain name = (fit.0, fit.1, fit.2, fit.3, name)
may_do_here names s found (Found d) fit chain name = (fit.1, chain fit.0)
may_do_here names s found (Grant by d role) fit chain name = (fit.1, fit.2)
may_do_here names s found (Revoke by d) fit chain name = (fit.1, fit.2)
may_do_here names s found (At moment) fit chain name = fit
may_do_here names s found (Fuse d steps) fit chain name = fit
may_do_here names s found Folder fit chain name = tt
may_do_here names s found Verify fit chain name = tt
may_do_here names s found statement fit chain name = fit.1

pub may_do : (names : Names) (s : State) (count : ℕ) (found : Bool) (statement : Statement) → After count found s → IsFit count found statement → NamesNext names count statement → MayDo names s statement
may_do names s count found statement after fit name =
    may_do_here names s found statement (subst (λ n. IsFit n found statement) (sym after.0) fit) after.1 (subst (λ n. NamesNext names n statement) (sym after.0) name)

-- ---- it is a script of the plain machine

is_change : (role : Role) → IsChange (grant_of role)
is_change Writer = tt
is_change Reader = tt

may_stand : (count : ℕ) (found : Bool) (statement : Statement) → IsFit count found statement → MayStand count found (statement_of statement)
may_stand count found (Seed seed) fit = tt
may_stand count found (Device name size) fit = (fit.0, fit.1, record { from = fit.2; to = fit.3 })
may_stand count found (At moment) fit = fit
may_stand count false (Found d) fit = fit.1
may_stand count true (Found d) fit = (let e = fit.0 in cc)
may_stand count false (Fuse d steps) fit = (fit, tt, tt)
may_stand count true (Fuse d steps) fit = (fit, tt)
may_stand count true (Grant by d role) fit = (fit.1, fit.2, is_change role)
may_stand count true (Revoke by d) fit = (fit.1, fit.2, tt)
may_stand count true (Open d) fit = (fit.1, tt)
may_stand count true (Pick d) fit = (fit.1, tt)
may_stand count true (Land d) fit = (fit.1, tt)
may_stand count true (Note d) fit = (fit.1, tt)
may_stand count true (Flush d) fit = fit.1
may_stand count true (Drain d) fit = fit.1
may_stand count true (Pull d) fit = (fit.1, tt)
may_stand count true (Fetch d) fit = (fit.1, tt)
may_stand count true (Settle d) fit = (fit.1, tt)
may_stand count true (Resolve d) fit = fit.1
may_stand count true (Status d) fit = fit.1
may_stand count true (Lose d side) fit = (fit.1, tt)
may_stand count true (Power d pick) fit = (fit.1, tt)
may_stand count true Folder fit = tt
may_stand count true Verify fit = tt
may_stand count true (File d request) fit = (fit.1, tt)
may_stand count true (Look d show) fit = fit.1
may_stand count false Folder fit = cc
may_stand count false Verify fit = cc
may_stand count false statement fit = (let e = fit.0 in cc)

same_count : (count : ℕ) (statement : Statement) → declared_after count statement ≡ declared_by count (statement_of statement)
same_count count (Device name size) = refl
same_count count statement = refl

same_found : (found : Bool) (statement : Statement) → found_after found statement ≡ founded_by found (statement_of statement)
same_found found (Found d) = refl
same_found found statement = refl

pub may_follow : (count : ℕ) (found : Bool) (statements : List Statement) → AllFitFrom count found statements → MayFollow count found (plain statements)
may_follow count found [] fit = tt
may_follow count found (statement ∷ statements) fit = (
  may_stand count found statement fit.0,
  subst (λ n. MayFollow n (founded_by found (statement_of statement)) (plain statements)) (same_count count statement)
      (subst (λ b. MayFollow (declared_after count statement) b (plain statements)) (same_found found statement)
      (may_follow (declared_after count statement) (found_after found statement) statements fit.1)),
)

-- ---- after all statements

pub all_after : (count : ℕ) (found : Bool) (statements : List Statement) (each : List (List Reply)) (s t : State) → AllFitFrom count found statements → After count found s → Run s (plain statements) each t
    → After (declared_after_all count statements) (found_after_all found statements) t
all_after count found [] [] s t fit was run = subst (λ u. After count found u) (sym run) was
all_after count found (statement ∷ statements) (replies ∷ each) s t fit was run =
    all_after (declared_after count statement) (found_after found statement) statements each run.0 t fit.1 (after s run.0 count found replies was statement fit.0 run.1) run.2
all_after count found [] (replies ∷ each) s t fit was run = absurd run
all_after count found (statement ∷ statements) [] s t fit was run = absurd run

-- no statement takes a device away
pub declared_grows : (count : ℕ) (statements : List Statement) → count ≤ declared_after_all count statements
declared_grows count [] = omega arith
declared_grows count (Device name size ∷ statements) = let more = declared_grows (count + 1) statements in omega (arith, more)
declared_grows count (statement ∷ statements) = declared_grows count statements
