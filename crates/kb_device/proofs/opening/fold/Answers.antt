use Rattle.std.proofs.Common.{◌≡◌, true, false, refl, sym}
use Rattle.kb_device.proofs.Pasts.{clash}
use Rattle.kb_device.proofs.Folds.{fits_there, fold_more}
use Rattle.kb_device.proofs.opening.fold.Goals as goal

pub returns-then-not-fits-clause-unfit : goal.returns-then-not-fits-clause-unfit
returns-then-not-fits-clause-unfit c = λ unfit h.
    let no : false ≡ true = c.if-not-fits.ensures.1 (fits_there c.args.queue.now c.loop-op.op-index c.op-item.result c.args.table.tree c.loop-op.table.tree c.loop-op-test.true c.op-item.is c.loop-op.invariant.0 h) in
    absurd (clash (sym no))

pub loop-op-preserved : goal.loop-op-preserved
loop-op-preserved c =
    fold_more c.args.queue.now c.loop-op.op-index c.op-item.result c.args.table.tree c.loop-op.table.tree _ c.loop-op-test.true c.op-item.is c.loop-op.invariant (c.if-not-fits.ensures.0 refl) c.in-Ok.ensures
