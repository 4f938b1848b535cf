-- A session with one more operation in its queue.
use Rattle.std.proofs.Common.{◌≡◌, ℕ, ◌≤◌, length, List, [], ◌∷◌, ◌++◌, drop, refl, sym, ap, subst, ◌∙◌, arith, length-append}
use Rattle.std.specs.List.{AllByRecursion}
use Rattle.std.proofs.lemmas.List.{drop-append-le}
use Rattle.kb_ops.specs.declared.rows.Op.{Op}
use Rattle.kb_ops.specs.Trees.{Tree, apply, fold_ops, Fits, FitAll}
use Rattle.kb_ops.specs.Grammar.{IsProper}
use Rattle.kb_device.specs.Inside.{Inside, IsRunning}
use Rattle.kb_device.specs.Calling.{with_queued}

pub fit_push : (ops : List Op) (op : Op) (t : Tree) → FitAll ops t → Fits op (fold_ops ops t) → FitAll (ops ++ op ∷ []) t
fit_push [] op t all fits = (fits, tt)
fit_push (o ∷ ops) op t all fits = (all.0, fit_push ops op (apply o t) all.1 fits)

pub fold_push : (ops : List Op) (op : Op) (t : Tree) → fold_ops (ops ++ op ∷ []) t ≡ apply op (fold_ops ops t)
fold_push [] op t = refl
fold_push (o ∷ ops) op t = fold_push ops op (apply o t)

proper_push : (ops : List Op) (op : Op) → AllByRecursion IsProper ops → IsProper op → AllByRecursion IsProper (ops ++ op ∷ [])
proper_push [] op all is = (is, tt)
proper_push (o ∷ ops) op all is = (all.0, proper_push ops op all.1 is)

-- the first of a queue stays the first
pub first_pushed : (ops : List Op) (op first : Op) (rest : List Op) → 1 ≤ length ops → ops ++ op ∷ [] ≡ first ∷ rest → (more : List Op) × (ops ≡ first ∷ more)
first_pushed [] op first rest some e = absurd (omega (arith, some))
first_pushed (o ∷ ops) op first rest some e = (ops, (let same : o ≡ first = cc in ap (λ x. x ∷ ops) same))

running_queued : (s : Inside) (op : Op) → IsRunning s → Fits op s.shown → IsProper op → IsRunning (with_queued s op)
running_queued s op r fits proper =
    let behind : drop s.ahead (s.journal.queue ++ op ∷ []) ≡ drop s.ahead s.journal.queue ++ op ∷ [] = drop-append-le s.ahead s.journal.queue (op ∷ []) r.ahead in
    record {
      known = r.known;
      proper = proper_push s.journal.queue op r.proper proper;
      few = r.few;
      ahead = (let le = r.ahead in omega (arith, le, length-append s.journal.queue (op ∷ [])));
      fit = subst (λ l. FitAll l s.base) (sym behind) (fit_push (drop s.ahead s.journal.queue) op s.base r.fit (subst (Fits op) r.shown fits));
      shown = ap (apply op) r.shown ∙ sym (fold_push (drop s.ahead s.journal.queue) op s.base) ∙ ap (λ l. fold_ops l s.base) (sym behind);
      pointed = record { all = r.pointed.all; beside = λ first rest queue one. (let old = first_pushed s.journal.queue op first rest (let le = r.ahead in omega (arith, le, one)) queue in r.pointed.beside first old.0 old.1 one) };
      first = r.first;
      last = r.last;
      keyed = r.keyed;
      aloft = λ a is. (let f = r.aloft a is in record { number = f.number; count = f.count; ahead = f.ahead; clear = f.clear; all = f.all });
    }

-- it goes on
pub running_next : (s t : Inside) (op : Op) → IsRunning s → Fits op s.shown → IsProper op → t ≡ with_queued s op → IsRunning t
running_next s t op r fits proper same = subst IsRunning (sym same) (running_queued s op r fits proper)
