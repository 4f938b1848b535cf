use Rattle.kb_world.proofs.Determined.{replies_one}
use Rattle.kb_world.proofs.runs.replies_are_one.Goals as goal

pub returns : goal.returns
returns c = replies_one
