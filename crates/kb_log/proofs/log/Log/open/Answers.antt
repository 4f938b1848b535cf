use Rattle.std.proofs.Common.{sym, ap, ◌∙◌}
use Rattle.kb_log.specs.LogList.{log_list}
use Rattle.kb_log.proofs.Resettled.{image_list}
use Rattle.kb_log.proofs.log.Log.open.Goals as goal

pub returns-in-Ok-clause-payloads : goal.returns-in-Ok-clause-payloads
returns-in-Ok-clause-payloads g c =
    ap log_list (sym c.in-Ok.ensures.content) ∙ c.in-Ok.ensures.settled.list

pub returns-in-Ok-clause-durable : goal.returns-in-Ok-clause-durable
returns-in-Ok-clause-durable g c = λ image may.
    image_list _ image _ _ may c.in-Ok.ensures.settled.clean c.in-Ok.ensures.settled.list
