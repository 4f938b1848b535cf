use Rattle.std.proofs.Common.{is_some, ap, ◌∙◌}
use Rattle.kb_rules.proofs.Positions.{place_there}
use Rattle.kb_rules.proofs.sides.Sides.is_split.Goals as goal

pub returns : goal.returns
returns c = c.is_some.ensures ∙ ap is_some c.place.ensures.is ∙ place_there c.args.q c.args.self.now.splits.now
