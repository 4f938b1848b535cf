use Rattle.kb_world.proofs.Begins.{scripts_reply}
use Rattle.kb_world.proofs.runs.scripts_have_replies.Goals as goal

pub returns : goal.returns
returns c = scripts_reply
