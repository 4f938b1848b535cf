use Rattle.std.proofs.Common.{◌≡◌, take}
use Rattle.kb_apply.specs.Children.{children}
use Rattle.kb_apply.proofs.shows.children.Given as goal

abbrev pub invariant-loop-id : goal.invariant-loop-id
invariant-loop-id l = l.rows.items ≡ take l.id-index (children l.table.tree l.fn.parent)
