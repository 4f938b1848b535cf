use Rattle.std.proofs.Common.{refl}
use Rattle.kb_rules.specs.PlaceSets.{has_place}
use Rattle.kb_rules.proofs.places.Places.new.Goals as goal

pub returns : goal.returns
unfolding has_place
returns c = λ p n. rw c.new.ensures.empty refl
