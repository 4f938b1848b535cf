use Rattle.kb_ops.proofs.TreeKept.{apply_kept}
use Rattle.kb_ops.proofs.laws.kept_law.Goals as goal

pub returns : goal.returns
returns c = apply_kept
