use Rattle.kb_world.proofs.GoodStates.{runs_good}
use Rattle.kb_world.proofs.runs.runs_are_good.Goals as goal

pub returns : goal.returns
returns c = runs_good
