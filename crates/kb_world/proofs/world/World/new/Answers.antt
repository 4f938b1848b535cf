use Rattle.std.proofs.Common.{◌≡◌, refl}
use Rattle.kb_world.proofs.Founding.{starts}
use Rattle.kb_world.proofs.world.World.new.Goals as goal

pub returns-clause-stands : goal.returns-clause-stands
returns-clause-stands g c = let a = c.beginning_law.ensures.empty in let b = c.new.ensures in let d = c.new-2.ensures in starts _ a refl refl d.items b
