use Rattle.kb_device.proofs.PartLaws.{kept_old, kept_returns}
use Rattle.kb_device.proofs.part_laws.return_law.Goals as goal

pub returns-clause-old : goal.returns-clause-old
returns-clause-old c = kept_old

pub returns-clause-back : goal.returns-clause-back
returns-clause-back c = kept_returns
