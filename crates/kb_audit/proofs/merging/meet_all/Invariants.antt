use Rattle.std.proofs.Common.{take}
use Rattle.std.specs.List.{AllByRecursion}
use Rattle.kb_ops.specs.declared.rows.Row.{Row}
use Rattle.kb_ops.specs.Trees.{look}
use Rattle.kb_audit.specs.Merging.{MeetAt}
use Rattle.kb_audit.proofs.merging.meet_all.Given as goal

abbrev pub invariant-rows : goal.invariant-rows
invariant-rows l = AllByRecursion (λ (r : Row). MeetAt (look l.base.tree) (look l.merged.tree) (look l.ours.tree) l.stamp r.id) (take l.row-index l.rows)
