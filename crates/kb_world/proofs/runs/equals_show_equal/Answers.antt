use Rattle.kb_world.proofs.GoodStates.{equals_show}
use Rattle.kb_world.proofs.runs.equals_show_equal.Goals as goal

pub returns : goal.returns
returns c = equals_show
