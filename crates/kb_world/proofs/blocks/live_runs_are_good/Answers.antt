use Rattle.kb_world.proofs.LiveBlocks.{live_runs_good}
use Rattle.kb_world.proofs.blocks.live_runs_are_good.Goals as goal

pub returns : goal.returns
returns c = live_runs_good
