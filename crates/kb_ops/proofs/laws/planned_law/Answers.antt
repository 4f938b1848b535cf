use Rattle.kb_ops.proofs.Changes.{planned_fits}
use Rattle.kb_ops.proofs.laws.planned_law.Goals as goal

pub returns : goal.returns
returns c = planned_fits
