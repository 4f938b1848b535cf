use Rattle.std.proofs.Common.{◌∙◌}
use Rattle.kb_rules.proofs.PlaceFacts.{found_place}
use Rattle.kb_rules.proofs.places.Places.has.Goals as goal

pub returns : goal.returns
returns c = c.contains.ensures ∙ found_place c.args.self.now c.args.place.now
