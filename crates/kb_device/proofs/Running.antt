-- What a session keeps whatever the folder.
use Rattle.std.proofs.Common.{◌≡◌, ℕ, ◌+◌, ◌≤◌, false, List, ◌∷◌, length, drop, Option, Some, None, inl, inr, sym, ap, subst, ◌∙◌, arith}
use Rattle.std.specs.Prelude.{IsSome}
use Rattle.kb_ops.specs.declared.rows.Op.{Op}
use Rattle.kb_ops.specs.Trees.{Tree, fold_ops, Fits, FitAll}
use Rattle.std.specs.List.{AllByRecursion}
use Rattle.kb_ops.specs.Grammar.{IsProper}
use Rattle.kb_keys.specs.Rings.{key_at}
use Rattle.kb_snap.specs.Pointers.{Kept}
use Rattle.kb_device.specs.Inside.{Aloft, Inside, PointsBeside, IsRunning, HasDone}
use Rattle.kb_device.specs.Left.{PointsAll}
use Rattle.kb_device.proofs.Beside.{done_beside}
use Rattle.kb_device.specs.Parts.{Flight}
use Rattle.kb_device.specs.Picking.{GoesAhead, MayGoAhead, Picks, with_flight}
use Rattle.kb_device.specs.declared.answers.Picked.{Picked}
use Rattle.kb_device.specs.declared.patching.OldFile.{OldFile}

-- the next operation fits the base table, where that isn't ahead
pub fits_next : (s : Inside) (op : Op) (rest : List Op) → IsRunning s → s.journal.queue ≡ op ∷ rest → s.ahead ≡ 0 → Fits op s.base
fits_next s op rest r queue none =
    let h : FitAll (drop 0 (op ∷ rest)) s.base = subst (λ l. FitAll (drop 0 l) s.base) queue (subst (λ n. FitAll (drop n s.journal.queue) s.base) none r.fit) in
    h.0

rest_fits : (op : Op) (rest : List Op) (ahead ahead' : ℕ) (base base' : Tree) (kept kept' : Kept) (written written' : Option OldFile) → HasDone op ahead ahead' base base' kept kept' written written' → FitAll (drop ahead (op ∷ rest)) base → FitAll rest base'
rest_fits op rest ahead ahead' base base' kept kept' written written' d fit = elim d.does [
  | inl (one, same, _, _) ↦ subst (λ t. FitAll rest t) (sym same) (subst (λ n. FitAll (drop n (op ∷ rest)) base) one fit)
  | inr (none, fits, does, _, _) ↦ subst (λ t. FitAll rest t) (sym does) (subst (λ n. FitAll (drop n (op ∷ rest)) base) none fit).1
]

-- and makes the same tree
rest_makes : (op : Op) (rest : List Op) (ahead ahead' : ℕ) (base base' : Tree) (kept kept' : Kept) (written written' : Option OldFile) → HasDone op ahead ahead' base base' kept kept' written written' → fold_ops (drop ahead (op ∷ rest)) base ≡ fold_ops rest base'
rest_makes op rest ahead ahead' base base' kept kept' written written' d = elim d.does [
  | inl (one, same, _, _) ↦ ap (λ n. fold_ops (drop n (op ∷ rest)) base) one ∙ ap (fold_ops rest) (sym same)
  | inr (none, fits, does, _, _) ↦ ap (λ n. fold_ops (drop n (op ∷ rest)) base) none ∙ ap (fold_ops rest) (sym does)
]

-- its rows beside a write have pointers
pub goes_beside : (s t : Inside) → IsRunning s → (g : GoesAhead s t) → (left : Kept) → HasDone g.op s.ahead t.ahead s.base t.base s.kept left s.written t.written → PointsBeside t.base g.op.change left t.written
goes_beside s t r g left done = done_beside g.op s.ahead t.ahead s.base t.base s.kept left s.written t.written done r.pointed.all (r.pointed.beside g.op g.rest g.queue)

-- a session whose base table went ahead
pub running_ahead : (s t : Inside) (aloft : Option Aloft) → IsRunning s → s.journal.mark ≡ false → (g : GoesAhead s t) → t ≡ with_flight s t aloft → ((a : Aloft) → aloft ≡ Some a → (a.flight.number ≡ s.journal.known + 1) × (a.flight.count ≡ 1) × PointsAll t.base a.kept) → IsRunning t
running_ahead s t aloft r clear g same flies =
    let journal : t.journal ≡ s.journal = ap (λ (x : Inside). x.journal) same in
    let generation : t.generation ≡ s.generation = ap (λ (x : Inside). x.generation) same in
    let ring : t.ring ≡ s.ring = ap (λ (x : Inside). x.ring) same in
    let aloft_is : t.aloft ≡ aloft = ap (λ (x : Inside). x.aloft) same in
    let queue : t.journal.queue ≡ g.op ∷ g.rest = ap (λ j. j.queue) journal ∙ g.queue in
    let one : t.ahead ≡ 1 = g.done.ahead_is in
    record {
      known = subst (λ j. 1 ≤ j.known) (sym journal) r.known;
      proper = subst (λ l. AllByRecursion IsProper l) (sym (ap (λ j. j.queue) journal)) r.proper;
      few = omega arith;
      ahead = subst (λ l. t.ahead ≤ length l) (sym queue) (let some : 1 ≤ length (g.op ∷ g.rest) = omega arith in omega arith);
      fit = subst (λ n. FitAll (drop n t.journal.queue) t.base) (sym one) (subst (λ l. FitAll (drop 1 l) t.base) (sym queue) (rest_fits g.op g.rest s.ahead t.ahead s.base t.base s.kept t.kept s.written t.written g.done (subst (λ l. FitAll (drop s.ahead l) s.base) g.queue r.fit)));
      shown = ap (λ (x : Inside). x.shown) same ∙ r.shown ∙ ap (λ l. fold_ops (drop s.ahead l) s.base) g.queue ∙ rest_makes g.op g.rest s.ahead t.ahead s.base t.base s.kept t.kept s.written t.written g.done
          ∙ ap (λ l. fold_ops (drop 1 l) t.base) (sym queue) ∙ ap (λ n. fold_ops (drop n t.journal.queue) t.base) (sym one);
      pointed = record {
        all = λ none. (let no : 1 ≡ 0 = sym one ∙ none in cc);
        beside = λ op rest first _. (let here : g.op ≡ op = (let e : g.op ∷ g.rest ≡ op ∷ rest = sym queue ∙ first in cc) in
            subst (λ (o : Op). PointsBeside t.base o.change t.kept t.written) here (goes_beside s t r g t.kept g.done));
      };
      first = subst (λ n. 1 ≤ n) (sym generation) r.first;
      last = subst (λ n. n ≤ 64) (sym generation) r.last;
      keyed = subst (λ n. IsSome (key_at t.ring n)) (sym generation) (subst (λ k. IsSome (key_at k s.generation)) (sym ring) r.keyed);
      aloft = λ a is. (let f = flies a (sym aloft_is ∙ is) in record { number = f.0 ∙ ap (λ j. j.known + 1) (sym journal); count = f.1; ahead = one; clear = ap (λ j. j.mark) journal ∙ clear; all = f.2 });
    }

-- a session that made a request of what it went ahead by
pub picks_run : (sealed signed : List ℕ → List ℕ → List ℕ) (hashed : List ℕ → List ℕ) (secret : List ℕ) (s t : Inside) (picked : Picked) → IsRunning s → Picks sealed signed hashed secret s picked t → IsRunning t
picks_run sealed signed hashed secret s t picked r picks =
    running_ahead s t (Some picks.aloft) r picks.clear picks.ahead picks.session (λ a is.
    let same : picks.aloft ≡ a = cc in
    subst (λ (x : Aloft). (x.flight.number ≡ s.journal.known + 1) × (x.flight.count ≡ 1) × PointsAll t.base x.kept) same (
      ap (λ (x : Flight). x.number) picks.made.flight ∙ picks.made.number ∙ ap (λ (x : Inside). x.journal.known + 1) picks.session,
      ap (λ (x : Flight). x.count) picks.made.flight,
      picks.made.all,
    ))

-- and one that made none
pub goes_run : (s t : Inside) → IsRunning s → s.aloft ≡ None → s.journal.mark ≡ false → MayGoAhead s t → IsRunning t
goes_run s t r free clear (inl same) = subst IsRunning (sym same) r
goes_run s t r free clear (inr (g, same, cache)) = running_ahead s t s.aloft r clear g same (λ a is. let no : None ≡ Some a = sym free ∙ is in cc)
