use Rattle.kb_ops.proofs.TreeKept.{fold_kept}
use Rattle.kb_ops.proofs.laws.fold_law.Goals as goal

pub returns : goal.returns
returns c = fold_kept
