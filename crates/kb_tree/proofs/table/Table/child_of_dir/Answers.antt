use Rattle.std.proofs.Common.{sym, subst}
use Rattle.kb_tree.proofs.Found.{child_dir, ParentIsDir}
use Rattle.kb_tree.proofs.table.Table.child_of_dir.Goals as goal

pub returns-clause-dir : goal.returns-clause-dir
returns-clause-dir c =
    subst (ParentIsDir c.args.self.now.tree c.args.parent) (sym c.child.ensures)
    (child_dir c.args.self.now.tree c.is_well_formed.ensures c.args.parent c.args.name.now)
