use Rattle.kb_world.proofs.Choices.{openings_choose}
use Rattle.kb_world.proofs.runs.openings_choose.Goals as goal

pub returns : goal.returns
returns c = openings_choose
