use Rattle.kb_device.proofs.PartLonger.{others_keep}
use Rattle.kb_device.proofs.part_laws.others_keep.Goals as goal

pub returns : goal.returns
returns c = others_keep
