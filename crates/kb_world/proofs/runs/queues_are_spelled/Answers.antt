use Rattle.kb_world.proofs.GoodStates.{queues_spelled}
use Rattle.kb_world.proofs.runs.queues_are_spelled.Goals as goal

pub returns : goal.returns
returns c = queues_spelled
