use Rattle.std.proofs.Common.{arith}
use Rattle.kb_log.proofs.Seen.{size_seen, used_within}
use Rattle.kb_log.proofs.log.Log.used.Goals as goal

pub returns-clause-bound : goal.returns-clause-bound
returns-clause-bound g c =
    omega (arith, size_seen g.D.Disk.content g.D.Disk.dirty _ _ _ _ c.self.view_is c.self.invariant c.requires, used_within g.D.Disk.content g.D.Disk.dirty _ _ _ _ c.self.view_is c.self.invariant c.requires)
