use Rattle.kb_world.proofs.One.{whole_one}
use Rattle.kb_world.proofs.runs.whole_have_one.Goals as goal

pub returns : goal.returns
returns c = whole_one
