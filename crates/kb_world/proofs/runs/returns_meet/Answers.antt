use Rattle.kb_world.proofs.GoodStates.{returns_meet}
use Rattle.kb_world.proofs.runs.returns_meet.Goals as goal

pub returns : goal.returns
returns c = returns_meet
