use Rattle.kb_apply.proofs.Listed.{listed_are_placed}
use Rattle.kb_apply.proofs.laws.placed_law.Goals as goal

pub returns : goal.returns
returns c = listed_are_placed
