use Rattle.kb_device.proofs.calling.queue_op.Goals as goal

pub returns-clause-stops : goal.returns-clause-stops
returns-clause-stops g c = λ is. record { images = c.in-Err-add_op.ensures.every; size = c.in-Err-add_op.ensures.size; ran_out = c.in-Err-add_op.ensures.spent is }
