use Rattle.kb_world.proofs.GoodStates.{good_owned}
use Rattle.kb_world.proofs.runs.runs_are_owned.Goals as goal

pub returns : goal.returns
returns c = good_owned
