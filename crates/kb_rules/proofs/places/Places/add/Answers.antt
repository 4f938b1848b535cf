use Rattle.kb_rules.proofs.PlaceFacts.{added_place}
use Rattle.kb_rules.proofs.places.Places.add.Goals as goal

pub returns : goal.returns
returns c = added_place c.args.self.now _ c.args.place c.in_ok-insert.ensures.keys
