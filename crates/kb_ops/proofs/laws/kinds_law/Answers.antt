use Rattle.kb_ops.proofs.Changes.{kinds_stay}
use Rattle.kb_ops.proofs.laws.kinds_law.Goals as goal

pub returns : goal.returns
returns c = kinds_stay
