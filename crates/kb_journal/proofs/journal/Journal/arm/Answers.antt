use Rattle.std.proofs.Common.{sym, ◌∙◌}
use Rattle.kb_journal.proofs.Armed.{armed}
use Rattle.kb_journal.proofs.journal.Journal.arm.Goals as goal

pub invariant_of-self : goal.invariant_of-self
invariant_of-self g c = λ open_now. armed g.D.Disk.content g.D.Disk.dirty c.self.inside.log c.arm.new.self c.self.inside.ready c.arm.ensures.payloads c.arm.ensures.content c.arm.ensures.dirty (c.self.invariant (sym c.arm.ensures.opened ∙ open_now))
