use Rattle.std.proofs.Common.{◌≡◌, ℕ, ◌+◌, ◌-◌, ◌<◌, ◌≤◌, map, ap, sym, ◌∙◌, arith}
use Rattle.std.specs.List.{range_with_len}
use Rattle.kb_chain.specs.Checks.{are_at, granted}
use Rattle.kb_chain.proofs.Places.{next_range, no_range, ahead_some, ahead_none}
use Rattle.kb_audit.proofs.fitting.are_granted.Goals as goal

pub generations-init : goal.generations-init
generations-init c = let h : (c.args.generation + 1) - 1 ≡ c.args.generation = omega arith in ap (λ n. are_at c.args.entries.now (map (λ j. (c.args.device, j)) (range_with_len 1 n))) h

pub generations-preserved : goal.generations-preserved
generations-preserved c =
    let i = c.generations.i in
    let f : ℕ → ℕ × ℕ = λ j. (c.args.device, j) in
    let here = next_range (i + 1) (c.args.generation + 1) (omega (arith, c.generations-test.true)) in
    sym (ahead_some c.generations.rest.now c.in-Some.more.now c.args.device (i + 1) (map f (range_with_len ((i + 1) + 1) ((c.args.generation + 1) - ((i + 1) + 1)))) c.in-Some.ensures)
    ∙ ap (λ xs. are_at c.generations.rest.now (map f xs)) (sym here) ∙ c.generations.invariant

pub returns-in-None : goal.returns-in-None
returns-in-None c =
    let i = c.generations.i in
    let f : ℕ → ℕ × ℕ = λ j. (c.args.device, j) in
    let here = next_range (i + 1) (c.args.generation + 1) (omega (arith, c.generations-test.true)) in
    sym (ahead_none c.generations.rest.now c.args.device (i + 1) (map f (range_with_len ((i + 1) + 1) ((c.args.generation + 1) - ((i + 1) + 1)))) c.in-None.ensures)
    ∙ ap (λ xs. are_at c.generations.rest.now (map f xs)) (sym here) ∙ c.generations.invariant

pub returns : goal.returns
returns c =
    let i = c.generations.i in
    let f : ℕ → ℕ × ℕ = λ j. (c.args.device, j) in
    c.is_done.ensures ∙ ap (λ xs. are_at c.generations.rest.now (map f xs)) (sym (no_range (i + 1) (c.args.generation + 1) (omega (arith, c.generations-test.false)))) ∙ c.generations.invariant
