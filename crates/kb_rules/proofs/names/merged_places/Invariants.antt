use Rattle.std.proofs.Common.{◌≡◌, ℕ, List, take}
use Rattle.std.specs.List.{list_any}
use Rattle.kb_name.specs.declared.ids.NodeId.{NodeId}
use Rattle.kb_rules.specs.PlaceSets.{has_place}
use Rattle.kb_rules.specs.Naming.{merged_stands_in}
use Rattle.kb_rules.proofs.names.merged_places.Given as goal

abbrev pub invariant-loop-q : goal.invariant-loop-q
invariant-loop-q l = (p : NodeId) (n : List ℕ) → has_place l.places p n ≡ list_any (merged_stands_in l.seats.sides.now p n) (take l.q-index l.ids)
