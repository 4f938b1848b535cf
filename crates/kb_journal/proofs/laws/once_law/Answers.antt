use Rattle.kb_journal.specs.State.{empty}
use Rattle.kb_journal.proofs.Leading.{one_end}
use Rattle.kb_journal.proofs.laws.once_law.Goals as goal

pub returns : goal.returns
returns c = λ ps s t a b. one_end empty s t ps a b
