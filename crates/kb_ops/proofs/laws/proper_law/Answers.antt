use Rattle.kb_ops.proofs.Proper.{planned_proper}
use Rattle.kb_ops.proofs.laws.proper_law.Goals as goal

pub returns : goal.returns
returns c = planned_proper
