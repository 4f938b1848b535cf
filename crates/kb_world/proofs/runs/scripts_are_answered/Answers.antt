use Rattle.kb_world.proofs.Begins.{scripts_answered}
use Rattle.kb_world.proofs.runs.scripts_are_answered.Goals as goal

pub returns : goal.returns
returns c = scripts_answered
