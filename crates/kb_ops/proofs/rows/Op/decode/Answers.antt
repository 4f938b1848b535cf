use Rattle.kb_ops.proofs.Spelled.{reads_back}
use Rattle.kb_ops.proofs.rows.Op.decode.Goals as goal

pub returns-clause-again : goal.returns-clause-again
returns-clause-again c = reads_back c.args.bytes.now c.read_all.result c.read_all.ensures.op c.read_all.ensures.bad_op
