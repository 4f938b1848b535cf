use Rattle.kb_world.proofs.GoodStates.{shelves_old}
use Rattle.kb_world.proofs.runs.shelves_are_old.Goals as goal

pub returns : goal.returns
returns c = shelves_old
