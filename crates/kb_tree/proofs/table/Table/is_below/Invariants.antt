use Rattle.std.proofs.Common.{◌≡◌, ◌+◌, ℕ}
use Rattle.std.specs.FinMap as map
use Rattle.kb_ops.specs.Trees.{look}
use Rattle.kb_ops.specs.Rows.{meets}
use Rattle.kb_ops.specs.Plan.{is_below}
use Rattle.kb_tree.proofs.table.Table.is_below.Given as goal

-- the steps that are left lead on from here
abbrev pub invariant-loop : goal.invariant-loop
invariant-loop l = (n : ℕ) → n + l.counter ≡ map.len l.self.tree → meets (look l.self.tree) l.node n l.from ≡ is_below l.self.tree l.node l.fn.from
