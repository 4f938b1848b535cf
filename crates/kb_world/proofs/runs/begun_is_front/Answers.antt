use Rattle.kb_world.proofs.Determined.{begun_first}
use Rattle.kb_world.proofs.runs.begun_is_front.Goals as goal

pub returns : goal.returns
returns c = begun_first
