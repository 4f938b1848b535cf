use Rattle.kb_device.proofs.Firsts.{first_is}
use Rattle.kb_device.proofs.session.first_of.Goals as goal

pub returns-in-Ok : goal.returns-in-Ok
returns-in-Ok c = first_is c.args.queue.now c.op-item.result c.in-Ok.op c.in-len1-up.len_at_least c.op-item.is c.in-Ok.ensures
