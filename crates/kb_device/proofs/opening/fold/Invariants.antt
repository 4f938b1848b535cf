use Rattle.std.proofs.Common.{◌≡◌, take}
use Rattle.kb_ops.specs.Trees.{fold_ops, FitAll}
use Rattle.kb_device.proofs.opening.fold.Given as goal

abbrev pub invariant-loop-op : goal.invariant-loop-op
invariant-loop-op l = (l.table.tree ≡ fold_ops (take l.op-index l.queue) l.initial.table.tree) × FitAll (take l.op-index l.queue) l.initial.table.tree
