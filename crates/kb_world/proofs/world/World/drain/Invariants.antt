use Rattle.std.proofs.Common.{◌-◌}
use Rattle.kb_folder.specs.Held.{held}
use Rattle.kb_world.proofs.Rounds.{Draining}
use Rattle.kb_world.proofs.world.World.drain.Given as goal

abbrev pub invariant-flushes : goal.invariant-flushes
invariant-flushes g l = Draining l.fn.self l.self l.number l.lines.items

abbrev pub decreases-flushes : goal.decreases-flushes
decreases-flushes g l = 1000000 - (held l.self.folder).state.length
