-- The bytes of the compacted text, kept as the queue grows and as its first leave.
use Rattle.std.proofs.Common.{◌≡◌, ◌≤◌, ℕ, ◌+◌, ◌-◌, List, [], ◌∷◌, ◌++◌, length, map, drop, sym, ap, ◌∙◌, arith}
use Rattle.std.specs.Prelude.{Vec, sum_by}
use Rattle.std.specs.declared.alloc.Global.{Global}
use Rattle.std.proofs.lemmas.List.{drop-map}
use Rattle.std.proofs.lemmas.List.Sums.{sum_by_push}
use Rattle.kb_ops.specs.declared.rows.Op.{Op as Operation}
use Rattle.kb_ops.specs.Grammar.{op_text}
use Rattle.kb_log.specs.LogList.{lists_of}
use Rattle.kb_journal.specs.State.{use_of, queued_text}
use Rattle.kb_journal.proofs.Compacting.{queue_sum}

-- the bytes of records
abbrev pub records : List (List ℕ) → ℕ
records lists = sum_by (λ (p : List ℕ). 5 + length p) lists

more : (used added total text op sum : ℕ) → used ≡ 48 + total → added ≡ 5 + text → text ≡ 1 + op → sum ≡ total + (6 + op) → used + added ≡ 48 + sum
more used added total text op sum a b c d = omega arith

pub counted_push : (ops new : List Operation) (op : Operation) (text : List ℕ) (used added : ℕ) → used ≡ use_of ops → added ≡ 5 + length text → text ≡ queued_text op → new ≡ ops ++ op ∷ [] → used + added ≡ use_of new
counted_push ops new op text used added is is_added spelled pushed =
    more used added (sum_by (λ (o : Operation). 6 + length (op_text o)) ops) (length text) (length (op_text op)) (sum_by (λ (o : Operation). 6 + length (op_text o)) (ops ++ op ∷ [])) is is_added (ap length spelled ∙ one (length (op_text op))) (sum_by_push (λ (o : Operation). 6 + length (op_text o)) ops op)
    ∙ ap use_of (sym pushed)
  where
    one : (n : ℕ) → Prim.Native.Nat.suc n ≡ 1 + n
    one n = omega arith

-- what is left, and that what goes was there
pub record Leaves (used gone left : ℕ) : Type 0 where
  pub there : gone ≤ used
  pub left_is : used - gone ≡ left

less : (used gone total rest all left : ℕ) → used ≡ 48 + all → total ≡ all → rest ≡ left → gone + rest ≡ total → Leaves used gone (48 + left)
less used gone total rest all left a b c d = record { there = omega arith; left_is = omega arith }

pub counted_drop : (ops : List Operation) (texts : List (Vec ℕ Global)) (n used gone : ℕ) → lists_of texts ≡ map queued_text ops → used ≡ use_of ops → gone + records (lists_of (drop n texts)) ≡ records (lists_of texts) → Leaves used gone (use_of (drop n ops))
counted_drop ops texts n used gone spelled is goes =
    let left : lists_of (drop n texts) ≡ map queued_text (drop n ops) = sym (drop-map (λ (v : Vec ℕ Global). v.items) n texts) ∙ ap (λ (l : List (List ℕ)). drop n l) spelled ∙ drop-map queued_text n ops in
    less used gone (records (lists_of texts)) (records (lists_of (drop n texts))) (sum_by (λ (o : Operation). 6 + length (op_text o)) ops) (sum_by (λ (o : Operation). 6 + length (op_text o)) (drop n ops)) is (ap records spelled ∙ queue_sum ops) (ap records left ∙ queue_sum (drop n ops)) goes
