use Rattle.kb_device.specs.Left.{AreOf}
use Rattle.kb_device.proofs.merged_pointers.pointers_of.Given as goal

abbrev pub invariant-loop-row : goal.invariant-loop-row
invariant-loop-row l = AreOf l.left l.kept
