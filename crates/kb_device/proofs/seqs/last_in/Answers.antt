use Rattle.kb_device.proofs.Ids.{last_next}
use Rattle.kb_device.proofs.seqs.last_in.Goals as goal

pub loop-row-preserved : goal.loop-row-preserved
loop-row-preserved c = last_next c.args.d c.args.rows.now c.loop-row.row-index c.row-item.result c.loop-row.last _ c.loop-row-test.true c.row-item.is c.loop-row.invariant c.with_row-last.ensures
