use Rattle.std.proofs.Common.{◌≡◌, ℕ, ◌-◌, List, drop}
use Rattle.std.specs.Prelude.{find}
use Rattle.kb_name.specs.declared.ids.NodeId.{NodeId}
use Rattle.kb_rules.specs.Hosting.{host_at, host_in}
use Rattle.kb_rules.proofs.hosts.hosts_of.Given as goal

abbrev pub invariant-loop-k : goal.invariant-loop-k
invariant-loop-k l = (p : NodeId) (n : List ℕ) → host_at l.hosts p n ≡ find (host_in l.sides p n) (drop (l.count - l.k) l.sides.ids.now)
