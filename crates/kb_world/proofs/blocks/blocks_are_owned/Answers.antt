use Rattle.kb_world.proofs.LiveBlocks.{blocks_own}
use Rattle.kb_world.proofs.blocks.blocks_are_owned.Goals as goal

pub returns : goal.returns
returns c = blocks_own
