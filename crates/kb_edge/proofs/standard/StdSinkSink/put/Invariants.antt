use Rattle.std.proofs.Common.{◌≤◌, ◌-◌, length}
use Rattle.kb_edge.proofs.standard.StdSinkSink.put.Given as goal

abbrev pub invariant-loop-done : goal.invariant-loop-done
invariant-loop-done g l = (l.done ≤ length l.piece) × (l.fn.self.faults ≤ l.self.faults)

abbrev pub decreases-loop-done : goal.decreases-loop-done
decreases-loop-done g l = length l.piece - l.done
