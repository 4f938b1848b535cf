use Rattle.kb_ops.proofs.Spelled.{spelled_once, spelled_apart}
use Rattle.kb_ops.proofs.laws.spelling_law.Goals as goal

pub returns : goal.returns
returns c = record { once = spelled_once; apart = spelled_apart }
