use Rattle.std.proofs.Common.{inl}
use Rattle.kb_log.proofs.Seen.{images_seen}
use Rattle.kb_log.proofs.log.Log.compact.Goals as goal

pub returns-then-need-free-clause-every : goal.returns-then-need-free-clause-every
returns-then-need-free-clause-every g c = λ image may.
    inl (images_seen g.D.Disk.content g.D.Disk.dirty _ _ _ _ c.self.view_is c.self.invariant c.requires.open image may)
