use Rattle.kb_world.proofs.Determined.{parts_determined}
use Rattle.kb_world.proofs.runs.parts_are_determined.Goals as goal

pub returns : goal.returns
returns c = parts_determined
