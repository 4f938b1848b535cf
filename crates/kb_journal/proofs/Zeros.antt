-- A disk of zeros has the empty state.
use Rattle.std.proofs.Common.{◌≡◌, ℕ, zero, suc, ◌-◌, ◌≤◌, Bool, true, cond, List, [], length, take, drop, None, Some, refl, ap, ◌∙◌, arith}
use Rattle.std.specs.Prelude.{replicate}
use Rattle.std.proofs.lemmas.Bool.Decides.{nat_tests}
use Rattle.std.proofs.lemmas.List.{take-replicate, drop-replicate, get_or-replicate, length-replicate}
use Rattle.kb_log.specs.LogList.{log_list, list_of, records, area_size, area_start, area_of, has_magic}
use Rattle.kb_journal.specs.State.{HasState, empty, is_whole}

no_list : (n : ℕ) → 1 ≤ n → list_of (replicate n 0) ≡ Some []
unfolding records
no_list zero some = absurd (omega arith)
no_list (suc n) some = refl

magic : (n : ℕ) → 8 ≤ n → has_magic (replicate n 0) ≡ true
magic n low = rw (take-replicate {X = ℕ} 8 n 0 low) refl

start : (n : ℕ) → 9 ≤ n → area_start (replicate n 0) ≡ 16
start n low = rw (get_or-replicate {A = ℕ} n 8 0 0 low) refl

area : (n : ℕ) → 4096 ≤ n → area_of (replicate n 0) ≡ replicate (area_size n) 0
area n low =
    let size : length (replicate n 0) ≡ n = length-replicate n 0 in
    let at : area_start (replicate n 0) ≡ 16 = start n (omega arith) in
    ap (λ (k : ℕ). take (area_size k) (drop (area_start (replicate n 0)) (replicate n 0))) size
    ∙ ap (λ (k : ℕ). take (area_size n) (drop k (replicate n 0))) at
    ∙ ap (λ (l : List ℕ). take (area_size n) l) (drop-replicate 16 n 0)
    ∙ take-replicate (area_size n) (n - 16) 0 (omega arith)

zeros_list : (n : ℕ) → 4096 ≤ n → log_list (replicate n 0) ≡ Some []
unfolding log_list
zeros_list n low =
    ap (λ (b : Bool). cond b (list_of (area_of (replicate n 0))) None) (magic n (omega arith)) ∙ ap list_of (area n low) ∙ no_list (area_size n) (omega arith)

pub zeros_state : (n : ℕ) → 4096 ≤ n → HasState empty (replicate n 0)
zeros_state n low =
    let whole : is_whole (area_size n) empty ≡ true = grind (arith, nat_tests) in
    ([], zeros_list n low, refl, ap (λ (k : ℕ). is_whole (area_size k) empty) (length-replicate n 0) ∙ whole)
