use Rattle.std.proofs.Common.{◌≡◌, Result, Ok, Err, IfOk, ◌∙◌}
use Rattle.kb_edge.specs.declared.faults.Memory.{Memory}
use Rattle.kb_ops.specs.Trees.{Tree}
use Rattle.kb_tree.specs.Held.{Held}
use Rattle.kb_snap.proofs.Sorts.{rows_kept}
use Rattle.kb_snap.proofs.rows.Rows.into_table.Goals as goal

pub from_rows-requires : goal.from_rows-requires
from_rows-requires c = (rows_kept c.args.self c.requires c.in_ok-rows.rows.items c.in_ok-rows.ensures).0

along : (a b : Tree) (r : Result Held Memory) → a ≡ b → IfOk r (λ table. table.tree ≡ a) → IfOk r (λ table. table.tree ≡ b)
along a b (Ok table) e h = h ∙ e
along a b (Err f) e h = h

pub returns : goal.returns
returns c = along _ _ c.from_rows.result (rows_kept c.args.self c.requires c.in_ok-rows.rows.items c.in_ok-rows.ensures).1 c.from_rows.ensures
