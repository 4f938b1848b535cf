use Rattle.std.proofs.Common.{◌≡◌, ◌+◌, ℕ}
use Rattle.kb_rules.specs.Merge.{conflicted}
use Rattle.kb_rules.specs.PlaceSets.{has_place}
use Rattle.kb_rules.specs.Naming.{free_by}
use Rattle.kb_rules.proofs.names.free_name.Given as goal

-- from k on with the numbers that are left the first free name is the same
abbrev pub invariant-loop-k : goal.invariant-loop-k
invariant-loop-k l = (n : ℕ) → n + l.k ≡ l.all + 1 → free_by (has_place l.taken l.parent) (conflicted l.stamp l.name) n l.k ≡ free_by (has_place l.taken l.parent) (conflicted l.stamp l.name) l.all 1
