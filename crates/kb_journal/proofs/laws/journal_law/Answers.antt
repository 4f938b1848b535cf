use Rattle.kb_journal.proofs.Used.{stays_journal}
use Rattle.kb_journal.proofs.laws.journal_law.Goals as goal

pub returns : goal.returns
returns g c = stays_journal _ _
