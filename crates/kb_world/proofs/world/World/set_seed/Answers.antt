use Rattle.std.proofs.Common.{refl}
use Rattle.kb_world.proofs.Founding.{seeds}
use Rattle.kb_world.proofs.world.World.set_seed.Goals as goal

pub returns : goal.returns
returns g c = seeds c.args.self.now _ c.beginning_law.ensures.empty refl refl c.args.seed refl refl
