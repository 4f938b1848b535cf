use Rattle.kb_apply.specs.Prepared.{done}
use Rattle.kb_device.proofs.OldFiles.{went_ahead}
use Rattle.kb_device.proofs.session.go_ahead.Goals as goal

pub returns-clause-ok : goal.returns-clause-ok
returns-clause-ok c =
    went_ahead c.args.op.now c.args.ahead.now c.args.base.now.tree c.prepare.new.table.tree c.apply.new.table.tree (done c.in_ok-prepared.prepared) c.args.pointers.now c.forget_touched.new.pointers c.args.written.now c.old_file.result
    c.in_ok-prepared.ensures.tree c.in_ok-prepared.ensures.does c.if-ahead-ne0.false (c.requires.fits c.if-ahead-ne0.false) c.apply.ensures c.forget_touched.ensures c.old_file.ensures.is c.old_file.ensures.finds
