use Rattle.kb_world.proofs.GoodStates.{none_foreign}
use Rattle.kb_world.proofs.runs.none_foreign.Goals as goal

pub returns : goal.returns
returns c = none_foreign
