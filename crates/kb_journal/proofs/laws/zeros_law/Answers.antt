use Rattle.kb_journal.proofs.Zeros.{zeros_state}
use Rattle.kb_journal.proofs.laws.zeros_law.Goals as goal

pub returns : goal.returns
returns c = zeros_state
