use Rattle.kb_world.proofs.Linked.{unlost}
use Rattle.kb_world.proofs.runs.unlost_runs_on.Goals as goal

pub returns : goal.returns
returns c = unlost
