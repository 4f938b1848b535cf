use Rattle.kb_ops.proofs.Changes.{others_stay}
use Rattle.kb_ops.proofs.laws.others_law.Goals as goal

pub returns : goal.returns
returns c = others_stay
