use Rattle.kb_journal.proofs.OneState.{one_state}
use Rattle.kb_journal.proofs.laws.one_state_law.Goals as goal

pub returns : goal.returns
returns c = one_state
