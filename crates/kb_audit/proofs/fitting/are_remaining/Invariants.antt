use Rattle.std.proofs.Common.{◌≡◌, ◌-◌, map}
use Rattle.std.specs.List.{range_with_len, filter}
use Rattle.kb_chain.specs.Checks.{are_at, remaining, stays}
use Rattle.kb_audit.proofs.fitting.are_remaining.Given as goal

abbrev pub invariant-devices : goal.invariant-devices
invariant-devices l = are_at l.rest (map (λ d. (d, l.generation)) (filter (stays l.policy.0 l.gone) (range_with_len l.device (33 - l.device)))) ≡ are_at l.entries (remaining l.policy.0 l.gone l.generation)
