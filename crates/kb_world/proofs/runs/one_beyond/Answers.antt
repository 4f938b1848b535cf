use Rattle.kb_world.proofs.GoodStates.{one_beyond}
use Rattle.kb_world.proofs.runs.one_beyond.Goals as goal

pub returns : goal.returns
returns c = one_beyond
