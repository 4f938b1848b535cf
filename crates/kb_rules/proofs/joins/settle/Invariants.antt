use Rattle.std.proofs.Common.{◌≡◌, ◌-◌, take}
use Rattle.kb_rules.specs.Hosting.{settle}
use Rattle.kb_rules.proofs.joins.settle.Given as goal

-- the places that are left give what the whole path gives
abbrev pub invariant-loop-k : goal.invariant-loop-k
invariant-loop-k l = settle l.sides l.ups (take (l.count - l.k) l.path) l.known.items ≡ settle l.sides l.ups l.path l.fn.known.items
