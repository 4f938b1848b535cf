use Rattle.kb_ops.proofs.PlanTable.{plan_is}
use Rattle.kb_ops.proofs.laws.plan_law.Goals as goal

pub returns : goal.returns
returns c = plan_is
