use Rattle.kb_device.proofs.PlainOps.{plain_ops_lead}
use Rattle.kb_device.proofs.laws.plain_ops_law.Goals as goal

pub returns : goal.returns
returns c = plain_ops_lead
