use Rattle.kb_device.proofs.Plain.{journals_plain}
use Rattle.kb_device.proofs.part_laws.journals_are_plain.Goals as goal

pub returns : goal.returns
returns c = journals_plain
