use Rattle.kb_device.proofs.Counting.{takes_few}
use Rattle.kb_device.proofs.patching.few_law.Goals as goal

pub returns : goal.returns
returns g c = takes_few c.write_law.ensures c.cut_law.ensures g.S.Sealer.sealed g.H.BlockHash.hashed
