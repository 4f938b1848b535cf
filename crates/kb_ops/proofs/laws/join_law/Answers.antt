use Rattle.kb_ops.proofs.Changes.{folds_join}
use Rattle.kb_ops.proofs.laws.join_law.Goals as goal

pub returns : goal.returns
returns c = folds_join
