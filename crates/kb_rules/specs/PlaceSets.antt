-- Places in a tree, and sets of them.
use Rattle.std.specs.Prelude.{ℕ, Bool, ◌&&◌, List}
use Rattle.std.specs.List.{list_any}
use Rattle.std.specs.Str.{bytes_eq}
use Rattle.kb_name.specs.declared.ids.NodeId.{NodeId}
use Rattle.kb_name.specs.Nodes.{same_node}
use Rattle.kb_rules.specs.declared.places.Place.{Place}
use Rattle.kb_rules.specs.declared.places.Places.{Places}

-- the place is this name in this directory
abbrev pub is_place : Place → NodeId → List ℕ → Bool
is_place k parent name = same_node parent k.parent && bytes_eq name k.name.items

-- whether the set has the name in the directory
unfoldable pub has_place : Places → NodeId → List ℕ → Bool
has_place s parent name = list_any (λ (k : Place). is_place k parent name) s.set.keys
