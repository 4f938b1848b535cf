use Rattle.kb_world.proofs.Determined.{runs_begin}
use Rattle.kb_world.proofs.runs.runs_begin.Goals as goal

pub returns : goal.returns
returns c = runs_begin
