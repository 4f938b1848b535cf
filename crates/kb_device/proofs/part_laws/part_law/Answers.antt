use Rattle.kb_device.proofs.PartLaws.{part_owned, none_foreign, one_beyond, spelled}
use Rattle.kb_device.proofs.part_laws.part_law.Goals as goal

pub returns-clause-owned : goal.returns-clause-owned
returns-clause-owned c = part_owned

pub returns-clause-ours : goal.returns-clause-ours
returns-clause-ours c = none_foreign

pub returns-clause-one : goal.returns-clause-one
returns-clause-one c = one_beyond

pub returns-clause-spelled : goal.returns-clause-spelled
returns-clause-spelled c = spelled
