use Rattle.std.proofs.Common.{refl}
use Rattle.kb_world.proofs.Founding.{moves}
use Rattle.kb_world.proofs.world.World.set_moment.Goals as goal

pub returns : goal.returns
returns g c = moves c.args.self.now _ refl refl c.args.moment refl refl
