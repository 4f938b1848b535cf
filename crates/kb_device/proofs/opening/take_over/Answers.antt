use Rattle.std.proofs.Common.{sym, subst}
use Rattle.kb_device.specs.Noting.{Stops}
use Rattle.kb_device.specs.Views.{platter}
use Rattle.kb_device.specs.Opening.{taken_by}
use Rattle.kb_device.proofs.Folds.{stops_of}
use Rattle.kb_device.proofs.opening.take_over.Goals as goal

pub returns-in-Err-clause-stops : goal.returns-in-Err-clause-stops
returns-in-Err-clause-stops g c =
    let e = c.in-Err.ensures in
    subst (λ o. Stops c.args.journal.state (taken_by c.args.journal.state o) (platter g.D.Disk c.args.journal.disk) (platter g.D.Disk c.finish.result)) (sym c.in-Some.is)
    (stops_of g.D.Disk c.args.journal.state _ c.args.journal.disk c.note.new.self.disk c.finish.result c.finish.ensures e.every e.size e.spent)
