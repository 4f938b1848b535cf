use Rattle.std.proofs.Common.{sym}
use Rattle.kb_device.proofs.Pasts.{clash}
use Rattle.kb_device.proofs.Folds.{own_more, not_own}
use Rattle.kb_device.proofs.opening.are_of.Goals as goal

pub returns-then-op-d : goal.returns-then-op-d
returns-then-op-d c = (λ h. absurd (clash (sym h)), λ h. absurd (c.if-op-d.true (not_own c.args.d c.args.queue.now c.loop-op.op-index c.op-item.result c.loop-op-test.true c.op-item.is h)))

pub loop-op-preserved : goal.loop-op-preserved
loop-op-preserved c = own_more c.args.d c.args.queue.now c.loop-op.op-index c.op-item.result c.loop-op-test.true c.op-item.is c.loop-op.invariant c.if-op-d.false
