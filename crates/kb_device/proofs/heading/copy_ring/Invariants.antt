use Rattle.std.proofs.Common.{ℕ, ◌≤◌, List}
use Rattle.kb_device.specs.Stands.{RingStands}
use Rattle.kb_device.proofs.heading.copy_ring.Given as goal

abbrev pub invariant-keys : goal.invariant-keys
invariant-keys l = (seed : List ℕ) (generation : ℕ) → RingStands seed generation l.ring → l.top ≤ generation → RingStands seed l.i l.copy
