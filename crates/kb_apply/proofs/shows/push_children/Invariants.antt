use Rattle.std.proofs.Common.{◌≡◌, ◌++◌, map, vec_len}
use Rattle.kb_apply.specs.Waiting.{placed, stacked}
use Rattle.kb_apply.proofs.shows.push_children.Given as goal

abbrev pub invariant-loop-row : goal.invariant-loop-row
invariant-loop-row l = l.waiting.items ++ stacked (map (placed l.names) l.rows.items) ≡ l.initial.waiting.items ++ stacked (map (placed l.names) l.initial.rows.items)

abbrev pub decreases-loop-row : goal.decreases-loop-row
decreases-loop-row l = vec_len l.rows
