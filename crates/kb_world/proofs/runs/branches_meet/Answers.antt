use Rattle.kb_world.proofs.GoodStates.{branches_meet}
use Rattle.kb_world.proofs.runs.branches_meet.Goals as goal

pub returns : goal.returns
returns c = branches_meet
