use Rattle.std.proofs.Common.{◌-◌, ◌^◌}
use Rattle.kb_ops.specs.Trees.{look}
use Rattle.kb_snap.proofs.TopDown.{AreListed}
use Rattle.kb_snap.proofs.order.top_down.Given as goal

abbrev pub invariant-rows : goal.invariant-rows
invariant-rows l = AreListed (look l.table.tree) l.next l.ids.items

abbrev pub decreases-rows : goal.decreases-rows
decreases-rows l = 2 ^ 64 - l.next
