use Rattle.std.proofs.Common.{[], ◌++◌, ap, sym, ◌∙◌}
use Rattle.kb_chain.proofs.InTurn.{once_revision}
use Rattle.kb_device.proofs.reading.decode.Goals as goal

pub returns-in-Ok : goal.returns-in-Ok
returns-in-Ok c r is spelled = (once_revision c.in-Ok.revision r [] [] c.in-Ok.ensures.0 is (ap (λ z. z ++ []) (sym c.in-Ok.ensures.1 ∙ spelled))).0
