-- The pieces that are built, one after another.
use Rattle.std.proofs.Common.{◌≡◌, ℕ, ◌+◌, ◌≤◌, ◌<◌, List, [], ◌∷◌, ◌++◌, length, get_or, take, drop, map, sym, ap, ◌∙◌, arith}
use Rattle.std.specs.Prelude.{Vec, sum_by}
use Rattle.std.specs.declared.alloc.Global.{Global}
use Rattle.std.proofs.lemmas.List.{drop_more, take_more, map_push}
use Rattle.std.proofs.lemmas.List.Sums.{sum_by-cons}
use Rattle.kb_ops.specs.declared.rows.Op.{Op as Operation}
use Rattle.kb_ops.specs.Grammar.{op_text}
use Rattle.kb_log.specs.LogList.{lists_of}
use Rattle.kb_journal.specs.State.{use_of, queued_text}

queued_sum : (ops : List Operation) → sum_by (λ (p : List ℕ). length p) (map queued_text ops) ≤ sum_by (λ (o : Operation). 6 + length (op_text o)) ops
queued_sum [] = omega arith
queued_sum (o ∷ ops) =
    omega (arith, sum_by-cons (λ (p : List ℕ). length p) (queued_text o) (map queued_text ops), sum_by-cons (λ (o : Operation). 6 + length (op_text o)) o ops, queued_sum ops)

pub texts_fit : (ops : List Operation) (lists : List (List ℕ)) → lists ≡ map queued_text ops → 42 + sum_by (λ (p : List ℕ). length p) lists ≤ use_of ops
texts_fit ops lists is =
    let same : sum_by (λ (p : List ℕ). length p) lists ≡ sum_by (λ (p : List ℕ). length p) (map queued_text ops) = ap (λ (l : List (List ℕ)). sum_by (λ (p : List ℕ). length p) l) is in
    omega (arith, same, queued_sum ops)

pub texts_at : (texts : List (Vec ℕ Global)) (i : ℕ) (text : Vec ℕ Global) → i < length texts → text ≡ get_or texts i text
    → (sum_by (λ (p : List ℕ). length p) (lists_of (drop i texts)) ≡ length text.items + sum_by (λ (p : List ℕ). length p) (lists_of (drop (i + 1) texts))) × (lists_of (take (i + 1) texts) ≡ lists_of (take i texts) ++ text.items ∷ [])
texts_at texts i text lt is =
    let behind : drop i texts ≡ text ∷ drop (i + 1) texts = drop_more texts i text lt ∙ ap (λ (v : Vec ℕ Global). v ∷ drop (i + 1) texts) (sym is) in
    let front : take (i + 1) texts ≡ take i texts ++ text ∷ [] = take_more texts i text lt ∙ ap (λ (v : Vec ℕ Global). take i texts ++ v ∷ []) (sym is) in (
      ap (λ (l : List (Vec ℕ Global)). sum_by (λ (p : List ℕ). length p) (lists_of l)) behind ∙ sum_by-cons (λ (p : List ℕ). length p) text.items (lists_of (drop (i + 1) texts)),
      ap lists_of front ∙ map_push (λ (v : Vec ℕ Global). v.items) (take i texts) text,
    )
