use Rattle.kb_world.proofs.Unfused.{unfused}
use Rattle.kb_world.proofs.runs.unfused_runs_on.Goals as goal

pub returns : goal.returns
returns c = unfused
