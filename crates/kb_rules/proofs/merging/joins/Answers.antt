use Rattle.std.proofs.Common.{ap, is_some, count_by, ◌∙◌}
use Rattle.kb_rules.proofs.RowFacts.{joins_are}
use Rattle.kb_rules.proofs.merging.joins.Goals as goal

pub returns : goal.returns
returns c = c.somes.ensures ∙ (ap (count_by is_some) c.deref.ensures.value ∙ joins_are c.args.seats.now.sides.now c.args.seats.now.joined.items c.requires.joined)
