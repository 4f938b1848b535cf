use Rattle.std.proofs.Common.{◌-◌, ◌≡◌, ◌≤◌}
use Rattle.kb_rules.proofs.Climbs.{climbs}
use Rattle.kb_rules.proofs.walks.far.Given as goal

abbrev pub invariant-loop-steps : goal.invariant-loop-steps
invariant-loop-steps l = record {
  some : 1 ≤ l.steps;
  jumps : l.jumps.items ≡ climbs l.fn.ups.items l.steps;
}

abbrev pub decreases-loop-steps : goal.decreases-loop-steps
decreases-loop-steps l = l.count - l.steps
