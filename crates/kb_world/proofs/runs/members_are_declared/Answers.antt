use Rattle.kb_world.proofs.Roles.{members_declared}
use Rattle.kb_world.proofs.runs.members_are_declared.Goals as goal

pub returns : goal.returns
returns c = members_declared
