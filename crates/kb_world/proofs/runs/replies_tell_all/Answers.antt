use Rattle.kb_world.proofs.Choices.{replies_tell}
use Rattle.kb_world.proofs.runs.replies_tell_all.Goals as goal

pub returns : goal.returns
returns c = replies_tell
