-- What the two notes of an opening do together, and the session that begins with them.
use Rattle.std.proofs.Common.{◌≡◌, ℕ, suc, zero, ◌+◌, ◌<◌, ◌≤◌, true, false, List, [], ◌∷◌, length, drop, Option, Some, None, Result, Err, inl, inr, refl, sym, ap, subst, ◌∙◌, arith}
use Rattle.std.specs.Prelude.{nat_le}
use Rattle.std.specs.List.{AllByRecursion}
use Rattle.std.proofs.lemmas.Bool.Decides.{nat_tests}
use Rattle.kb_edge.specs.Disk.{FallsBy}
use Rattle.kb_ops.specs.declared.rows.Op.{Op}
use Rattle.kb_ops.specs.Grammar.{IsProper}
use Rattle.kb_ops.specs.Trees.{Tree, fold_ops, FitAll}
use Rattle.kb_keys.specs.declared.policy.Role.{Role}
use Rattle.kb_journal.specs.State.{State, HasState, empty}
use Rattle.kb_journal.proofs.Good.{Follows, good_empty, good_leads}
use Rattle.kb_device.specs.declared.opening.StartFault.{StartFault}
use Rattle.kb_device.specs.declared.opening.StartFault.TheVariants as start
use Rattle.kb_device.specs.declared.opening.Taking.{Taking}
use Rattle.kb_device.specs.Inside.{IsRunning}
use Rattle.kb_device.specs.Left.{PointsAll}
use Rattle.kb_device.specs.Stands.{Platter}
use Rattle.kb_device.specs.Heads.{Read}
use Rattle.kb_device.specs.Noting.{Writes, Stops}
use Rattle.kb_device.specs.Opening.{taken_by, caught_by, CanTake, CanStart, count_of, IfStarted}
use Rattle.kb_device.specs.Opened.{started, Resumes, StopsResuming}
use Rattle.kb_device.proofs.Falls.{falls_both, runs_out, out_more}
use Rattle.kb_device.proofs.Starts.{known_is, queue_is, kept_up, head_up}

-- ---- the disk

pub resumes_twice : (a b c : Platter) (taken after : State) → Writes taken a b → Writes after b c → Resumes 8 after a c
resumes_twice a b c taken after w v = record { images = v.images; size = v.size ∙ w.size; left = falls_both 4 4 a.left b.left c.left w.left v.left }

pub stops_first : (a b : Platter) (found taken after : State) → Stops found taken a b → StopsResuming 8 found taken after a b
stops_first a b found taken after s = record {
  images = λ image may. elim (s.images image may) [ inl has ↦ inl has | inr has ↦ inr (inl has) ];
  size = s.size;
  ran_out = out_more 4 8 a.left b.left (omega arith) s.ran_out;
}

pub stops_second : (a b c : Platter) (found taken after : State) → Writes taken a b → Stops taken after b c → StopsResuming 8 found taken after a c
stops_second a b c found taken after w s = record {
  images = λ image may. inr (s.images image may);
  size = s.size ∙ w.size;
  ran_out = runs_out 4 4 a.left b.left c.left w.left s.ran_out;
}

-- and behind the opening of the journal
pub resumes_from : (a b c : Platter) (after : State) → b.content ≡ a.content → FallsBy 1 a.left b.left → Resumes 8 after b c → Resumes 9 after a c
resumes_from a b c after same falls r = record { images = r.images; size = r.size ∙ ap length same; left = falls_both 1 8 a.left b.left c.left falls r.left }

pub stops_from : (a b c : Platter) (found taken after : State) → b.content ≡ a.content → FallsBy 1 a.left b.left → StopsResuming 8 found taken after b c → StopsResuming 9 found taken after a c
stops_from a b c found taken after same falls s = record { images = s.images; size = s.size ∙ ap length same; ran_out = runs_out 1 8 a.left b.left c.left falls s.ran_out }

-- ---- the queue

-- the operations of a state's queue are proper
pub proper_of : (s : State) (image : List ℕ) → HasState s image → AllByRecursion IsProper s.queue
proper_of s image (ps, _, leads, _) = follow s.base s.queue (good_leads empty s ps good_empty leads).queue where
  follow : (n : ℕ) (queue : List Op) → Follows n queue → AllByRecursion IsProper queue
  follow n [] f = tt
  follow n (op ∷ queue) f = (f.0.proper, follow (n + 1) queue f.3)

all_drop : (n : ℕ) (queue : List Op) → AllByRecursion IsProper queue → AllByRecursion IsProper (drop n queue)
all_drop zero queue all = all
all_drop (suc n) [] all = tt
all_drop (suc n) (op ∷ queue) all = all_drop n queue all.1

-- ---- what is taken over

pub can_take : (s : State) (taking : Option Taking) (r : Read) (shown : Tree) → CanStart s.known s.queue taking r shown → CanTake s taking
can_take s None r shown can = tt
can_take s (Some t) r shown can = (
  elim can.can [ inl later ↦ later | inr none ↦ cc ],
  elim can.some [ inl none ↦ cc | inr some ↦ some ],
  can.count,
)

module _ (s : State) (taking : Option Taking) (r : Read) (shown : Tree) (can : CanStart s.known s.queue taking r shown) where
  abbrev taken : State
  taken = taken_by s taking

  pub can_know : taken.known ≤ r.number
  can_know = subst (λ n. n ≤ r.number) (sym (known_is s taking)) can.later

  pub is_flushed : taken.known < r.number → taken.queue ≡ []
  is_flushed less = queue_is s taking ∙ can.flushed (subst (λ n. n < r.number) (known_is s taking) less)

  known_low : 1 ≤ (caught_by taken r).known
  known_low = elim (nat_le r.number taken.known) as (λ b. nat_le r.number taken.known ≡ b → 1 ≤ (caught_by taken r).known) [
    | true ↦ λ y. (let le : r.number ≤ taken.known = grind (arith, nat_tests, y) in let some = can.readable.some in subst (λ (t : State). 1 ≤ t.known) (sym (kept_up taken r y)) (let low : 1 ≤ taken.known = omega (arith, le, some) in low))
    | false ↦ λ y. subst (λ (t : State). 1 ≤ t.known) (sym (head_up taken r y)) can.readable.some
  ] refl

  -- what is left of the queue
  pub left_is : (caught_by taken r).queue ≡ drop (count_of taking) s.queue
  left_is = elim (nat_le r.number taken.known) as (λ b. nat_le r.number taken.known ≡ b → (caught_by taken r).queue ≡ drop (count_of taking) s.queue) [
    | true ↦ λ y. ap (λ (t : State). t.queue) (kept_up taken r y) ∙ queue_is s taking
    | false ↦ λ y. (let less : taken.known < r.number = grind (arith, nat_tests, y) in ap (λ (t : State). t.queue) (head_up taken r y) ∙ sym (is_flushed less) ∙ queue_is s taking)
  ] refl

  pub begins_running : (role : Option Role) → AllByRecursion IsProper s.queue → PointsAll r.tree r.kept → IsRunning (started s taking r shown role)
  begins_running role proper all = record {
    known = known_low;
    proper = subst (λ q. AllByRecursion IsProper q) (sym left_is) (all_drop (count_of taking) s.queue proper);
    few = omega arith;
    ahead = omega arith;
    fit = subst (λ q. FitAll q r.tree) (sym left_is) can.fit;
    shown = can.shown_is ∙ ap (λ q. fold_ops q r.tree) (sym left_is);
    pointed = record { all = λ _. all; beside = λ op rest queue one. cc };
    first = can.readable.first;
    last = can.readable.last;
    keyed = can.readable.keyed;
    aloft = λ a is. cc;
  }

-- ---- why an opening doesn't go on

pub foreign_so : {X : Type 0} (why : StartFault) (P : X → Type 0) (Q : Type 0) → why ≡ start.Foreign → (let x : Result X StartFault = Err why in IfStarted x P Q) → Q
foreign_so start.Foreign P Q is h = h
foreign_so (start.BadFolder number) P Q is h = absurd h
foreign_so start.Memory P Q is h = cc

pub bad_never : {X : Type 0} (why : StartFault) (number : ℕ) (P : X → Type 0) (Q : Type 0) → why ≡ start.BadFolder number → (let x : Result X StartFault = Err why in IfStarted x P Q) → ⊥
bad_never start.Foreign number P Q is h = cc
bad_never (start.BadFolder n) number P Q is h = h
bad_never start.Memory number P Q is h = cc
