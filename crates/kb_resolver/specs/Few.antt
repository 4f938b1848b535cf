-- How many files a branch splits.
use Rattle.std.specs.Prelude.{◌*◌, ◌≤◌, List, length}
use Rattle.kb_ops.specs.declared.rows.Op.{Op}
use Rattle.kb_ops.specs.Trees.{Tree, fold_ops}
use Rattle.kb_rules.specs.Merge.{splits}

-- a branch of so many operations splits at most two files for each
abbrev pub FewAreSplit : Type 0
FewAreSplit = (ops : List Op) (base merged : Tree) → length (splits base merged (fold_ops ops base)) ≤ 2 * length ops
