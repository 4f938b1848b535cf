use Rattle.std.proofs.Common.{take}
use Rattle.kb_snap.specs.Lawful.{AreOf}
use Rattle.kb_device.proofs.opening.are_of.Given as goal

abbrev pub invariant-loop-op : goal.invariant-loop-op
invariant-loop-op l = AreOf l.d (take l.op-index l.queue)
