use Rattle.std.proofs.Common.{None}
use Rattle.kb_device.specs.Inside.{Inside}
use Rattle.kb_device.specs.Views.{inside}
use Rattle.kb_device.proofs.Queuing.{running_next}
use Rattle.kb_device.proofs.session.Session.add.Goals as goal

pub returns-clause-running : goal.returns-clause-running
returns-clause-running g c =
    running_next (inside c.args.self.now) _ c.args.op c.requires.running c.requires.fits c.requires.proper
    (λ i. let s : Inside = record (inside c.args.self.now) { journal = c.in-Ok.ensures.state i; shown = c.in-Ok.ensures.table i; plan = None } in s)
