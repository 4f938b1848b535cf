use Rattle.kb_keys.proofs.Giving.{rotated_give}
use Rattle.kb_keys.proofs.laws.rotated_law.Goals as goal

pub returns : goal.returns
returns g c = rotated_give g.S.Sealer.sealed
