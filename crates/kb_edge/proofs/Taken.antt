-- What a read from the front of a list of bytes leaves.
use Rattle.std.proofs.Common.{◌≡◌, ◌≤◌, ◌+◌, ℕ, List, [], ◌++◌, length, take, drop, sym, ap, ◌∙◌, arith}
use Rattle.std.proofs.lemmas.List.{take-append-drop, drop-drop, length-take-le}
use Rattle.std.proofs.lemmas.List.{take_at}
use Rattle.std.proofs.lemmas.Grind.{common_steps}

pub consumed : (bs cut into : List ℕ) (at n : ℕ) → n ≤ length (drop at bs) → cut ≡ take n (drop at bs)
    → drop at bs ≡ take n (cut ++ drop n into) ++ drop (at + n) bs
consumed bs cut into at n fits copied =
    let size : length cut ≡ n = ap length copied ∙ length-take-le n (drop at bs) fits in
    let front : take n (cut ++ drop n into) ≡ take n (drop at bs) = take_at cut (drop n into) n size ∙ copied in
    sym (take-append-drop n (drop at bs)) ∙ ap (λ l. take n (drop at bs) ++ l) (drop-drop n at bs) ∙ ap (λ l. l ++ drop (at + n) bs) (sym front)

pub nothing_left : (bs : List ℕ) (at n : ℕ) → n ≡ 0 → length bs ≤ at → drop (at + n) bs ≡ []
nothing_left bs at n none all = grind (arith, common_steps)
