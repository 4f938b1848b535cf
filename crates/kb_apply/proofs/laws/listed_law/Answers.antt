use Rattle.kb_apply.proofs.Listed.{all_are_listed}
use Rattle.kb_apply.proofs.laws.listed_law.Goals as goal

pub returns : goal.returns
returns c = all_are_listed
