use Rattle.kb_world.proofs.LiveRuns.{acts_keep}
use Rattle.kb_world.proofs.blocks.acts_keep.Goals as goal

pub returns : goal.returns
returns c = acts_keep
