use Rattle.kb_world.proofs.Determined.{runs_determined}
use Rattle.kb_world.proofs.runs.runs_are_determined.Goals as goal

pub returns : goal.returns
returns c = runs_determined
