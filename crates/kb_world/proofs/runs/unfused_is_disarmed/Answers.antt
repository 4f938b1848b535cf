use Rattle.kb_world.proofs.Unfused.{unfused_disarmed}
use Rattle.kb_world.proofs.runs.unfused_is_disarmed.Goals as goal

pub returns : goal.returns
returns c = unfused_disarmed
