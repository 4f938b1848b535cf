use Rattle.std.proofs.Common.{◌≤◌, ◌^◌, subst}
use Rattle.std.specs.FinMap as map
use Rattle.kb_tree.specs.Held.{Held}
use Rattle.kb_tree.proofs.Few.{few}
use Rattle.kb_tree.proofs.table.Table.is_bounded.Goals as goal

pub returns : goal.returns
returns c = subst (λ (h : Held). map.len h.tree ≤ 2 ^ 32) c.self.view_is (few _ _ _ c.self.invariant)
