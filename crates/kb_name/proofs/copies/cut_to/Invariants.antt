use Rattle.std.proofs.Common.{◌≡◌, ◌≤◌, length}
use Rattle.kb_name.specs.Conflicted.{cut_to}
use Rattle.kb_name.proofs.copies.cut_to.Given as goal

abbrev pub invariant-loop-end : goal.invariant-loop-end
invariant-loop-end l = (l.end ≤ length l.text) × (cut_to l.end l.text ≡ cut_to l.fn.room l.text)

abbrev pub decreases-loop-end : goal.decreases-loop-end
decreases-loop-end l = l.end
