use Rattle.std.proofs.Common.{◌≡◌, ◌+◌, ◌-◌, map}
use Rattle.std.specs.List.{range_with_len}
use Rattle.kb_chain.specs.Checks.{are_at, granted}
use Rattle.kb_audit.proofs.fitting.are_granted.Given as goal

abbrev pub invariant-generations : goal.invariant-generations
invariant-generations l = are_at l.rest (map (λ j. (l.device, j)) (range_with_len (l.i + 1) ((l.generation + 1) - (l.i + 1)))) ≡ are_at l.entries (granted l.device l.generation)
