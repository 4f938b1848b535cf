-- Lists of operations: their seqs, whose they are, and how they fit.
use Rattle.std.proofs.Common.{◌≡◌, ◌⊎◌, ℕ, zero, suc, ◌+◌, ◌^◌, ◌≤◌, ◌<◌, ◌==◌, List, [], ◌∷◌, ◌++◌, length, take, drop, ◌∙◌, subst, arith}
use Rattle.kb_ops.specs.declared.rows.Op.{Op}
use Rattle.kb_ops.specs.Trees.{Tree, fold_ops, Fits, FitAll}
use Rattle.kb_ops.proofs.Changes.{folds_join}
use Rattle.kb_snap.specs.Lawful.{AreOf, CountsFrom}
use Rattle.kb_snap.proofs.Lists.{cut}

pub counts_push : (n : ℕ) (ops : List Op) (op : Op) → CountsFrom n ops → op.seq ≡ n + length ops → CountsFrom n (ops ++ op ∷ [])
counts_push n [] op h e = (omega (arith, e), tt)
counts_push n (o ∷ ops) op h e = (h.0, counts_push (n + 1) ops op h.1 (omega (arith, e)))

pub counts_drop : (n count : ℕ) (ops : List Op) → CountsFrom n ops → CountsFrom (n + count) (drop count ops)
counts_drop n zero ops h = subst (λ k. CountsFrom k ops) (let e : n ≡ n + 0 = omega arith in e) h
counts_drop n (suc count) [] h = tt
counts_drop n (suc count) (op ∷ ops) h = subst (λ k. CountsFrom k (drop count ops)) (let e : n + 1 + count ≡ n + suc count = omega arith in e) (counts_drop (n + 1) count ops h.1)

pub counts_append : (n : ℕ) (xs ys : List Op) → CountsFrom n xs → CountsFrom (n + length xs) ys → CountsFrom n (xs ++ ys)
counts_append n [] ys h k = subst (λ m. CountsFrom m ys) (let e : n + 0 ≡ n = omega arith in e) k
counts_append n (x ∷ xs) ys h k = (h.0, counts_append (n + 1) xs ys h.1 (subst (λ m. CountsFrom m ys) (let e : n + length (x ∷ xs) ≡ n + 1 + length xs = omega arith in e) k))

pub own_push : (d : ℕ) (ops : List Op) (op : Op) → AreOf d ops → op.device ≡ d → AreOf d (ops ++ op ∷ [])
own_push d [] op all is = (is, tt)
own_push d (o ∷ ops) op all is = (all.0, own_push d ops op all.1 is)

pub own_drop : (d count : ℕ) (ops : List Op) → AreOf d ops → AreOf d (drop count ops)
own_drop d zero ops h = h
own_drop d (suc count) [] h = tt
own_drop d (suc count) (op ∷ ops) h = own_drop d count ops h.1

pub own_take : (d count : ℕ) (ops : List Op) → AreOf d ops → AreOf d (take count ops)
own_take d zero ops h = tt
own_take d (suc count) [] h = tt
own_take d (suc count) (op ∷ ops) h = (h.0, own_take d count ops h.1)

pub counts_take : (n count : ℕ) (ops : List Op) → CountsFrom n ops → CountsFrom n (take count ops)
counts_take n zero ops h = tt
counts_take n (suc count) [] h = tt
counts_take n (suc count) (op ∷ ops) h = (h.0, counts_take (n + 1) count ops h.1)

pub fit_push : (ops : List Op) (op : Op) (t : Tree) → FitAll ops t → Fits op (fold_ops ops t) → FitAll (ops ++ op ∷ []) t
fit_push ops op t all fits = (folds_join ops (op ∷ []) t).1.1 (all, (fits, tt))

-- the first of a queue and the others
pub fit_take : (count : ℕ) (ops : List Op) (t : Tree) → FitAll ops t → FitAll (take count ops) t
fit_take count ops t h = ((folds_join (take count ops) (drop count ops) t).1.0 (subst (λ l. FitAll l t) (cut count ops) h)).0

pub fit_drop : (count : ℕ) (ops : List Op) (t : Tree) → FitAll ops t → FitAll (drop count ops) (fold_ops (take count ops) t)
fit_drop count ops t h = ((folds_join (take count ops) (drop count ops) t).1.0 (subst (λ l. FitAll l t) (cut count ops) h)).1
