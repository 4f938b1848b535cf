use Rattle.kb_world.proofs.LiveBlocks.{blocks_are_acts}
use Rattle.kb_world.proofs.blocks.blocks_are_acts.Goals as goal

pub returns : goal.returns
returns c = blocks_are_acts
