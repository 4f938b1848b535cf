use Rattle.kb_world.proofs.LiveBlocks.{blocks_keep}
use Rattle.kb_world.proofs.blocks.blocks_keep.Goals as goal

pub returns : goal.returns
returns c = blocks_keep
