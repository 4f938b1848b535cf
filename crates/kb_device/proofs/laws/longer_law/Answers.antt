use Rattle.kb_device.proofs.Longer.{stands_longer}
use Rattle.kb_device.proofs.laws.longer_law.Goals as goal

pub returns : goal.returns
returns g c seed names = stands_longer g.S.Sealer.sealed g.S.Sealer.signed g.H.BlockHash.hashed seed names
