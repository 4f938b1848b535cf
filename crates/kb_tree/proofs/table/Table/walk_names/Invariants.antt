use Rattle.std.proofs.Common.{◌≡◌, drop}
use Rattle.kb_name.specs.Nodes.{root}
use Rattle.kb_ops.specs.Find.{find_from}
use Rattle.kb_tree.proofs.table.Table.walk_names.Given as goal

abbrev pub invariant-loop-name : goal.invariant-loop-name
invariant-loop-name l = find_from l.self.tree l.at (drop l.name-index l.names) ≡ find_from l.self.tree root l.names
