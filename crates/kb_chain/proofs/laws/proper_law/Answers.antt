use Rattle.kb_chain.proofs.Proper.{proper, proper_private}
use Rattle.kb_chain.proofs.laws.proper_law.Goals as goal

pub returns : goal.returns
returns c = record { revisions = proper; privates = proper_private }
