use Rattle.std.proofs.Common.{◌∙◌}
use Rattle.kb_rules.proofs.Puts.{put_is}
use Rattle.kb_rules.proofs.splits.put.Goals as goal

pub returns : goal.returns
returns c = c.in_ok-insert.ensures.keys ∙ put_is c.args.id c.args.ids.now.keys
