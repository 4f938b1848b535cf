use Rattle.kb_keys.proofs.Giving.{added_give}
use Rattle.kb_keys.proofs.laws.added_law.Goals as goal

pub returns : goal.returns
returns g c = added_give g.S.Sealer.sealed
