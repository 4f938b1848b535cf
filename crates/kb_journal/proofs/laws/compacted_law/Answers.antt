use Rattle.kb_journal.specs.State.{empty}
use Rattle.kb_journal.proofs.Again.{compacted_leads}
use Rattle.kb_journal.proofs.Good.{good_empty, good_leads}
use Rattle.kb_journal.proofs.laws.compacted_law.Goals as goal

pub returns : goal.returns
returns c = λ ps s leads. compacted_leads s (good_leads empty s ps good_empty leads)
