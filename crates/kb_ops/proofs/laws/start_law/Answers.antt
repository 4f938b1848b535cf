use Rattle.kb_ops.proofs.TreeKept.{start_formed}
use Rattle.kb_ops.proofs.laws.start_law.Goals as goal

pub returns : goal.returns
returns c = start_formed
