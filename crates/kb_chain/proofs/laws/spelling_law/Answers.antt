use Rattle.kb_chain.proofs.InTurn.{once_revision}
use Rattle.kb_chain.proofs.PrivateParts.{once_private}
use Rattle.kb_chain.proofs.laws.spelling_law.Goals as goal

pub returns : goal.returns
returns c = record { revisions = λ r s a b f g e. once_revision r s a b f g e; privates = λ kind p q a b f g e. once_private kind p q a b f g e }
