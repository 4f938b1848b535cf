-- Places in a tree, a parent and a name, in their order, and an index of the rows by them.
use Rattle.std.specs.Prelude.{◌≡◌, ℕ, true, List, [], ◌∷◌, map, Option, IsSome}
use Rattle.std.specs.Option.{option_map_or}
use Rattle.std.specs.declared.cmp.Ordering.{Ordering}
use Rattle.std.specs.Ordering.{nat_cmp, ordering_then}
use Rattle.std.specs.Cmp.Lexicographic.{slice_cmp}
use Rattle.std.specs.FinMap.Entries as entries
use Rattle.kb_name.specs.declared.ids.NodeId.{NodeId}
use Rattle.kb_ops.specs.declared.rows.Row.{Row}
use Rattle.kb_name.specs.Nodes.{root, node_cmp}
use Rattle.kb_ops.specs.Trees.{Tree, look}
use Rattle.kb_ops.specs.Find.{child}

abbrev pub Spot : Type 0
Spot = NodeId × List ℕ

-- by parent, and then by the bytes of the name
abbrev pub spot_cmp : Spot → Spot → Ordering
spot_cmp a b = ordering_then (node_cmp a.0 b.0) (slice_cmp nat_cmp a.1 b.1)

abbrev pub spot_of : Option Row → Spot
spot_of row = option_map_or (λ (r : Row). (r.parent, r.name)) row (root, [])

-- an id with the place of its row
abbrev pub spotted : Tree → NodeId → Spot × NodeId
spotted t id = (spot_of (look t id), id)

-- each id has a row
abbrev pub AreThere : Tree → List NodeId → Type 0
AreThere t [] = Unit {0}
AreThere t (q ∷ ids) = IsSome (look t q) × AreThere t ids

-- the ids, in the order of their places, which give the child of each
pub record IsIndex (t : Tree) (ids : List NodeId) : Type 0 where
  pub there : AreThere t ids
  pub rise : entries.is_sorted spot_cmp (map (spotted t) ids) ≡ true
  pub gives : (k : Spot) → entries.find spot_cmp k (map (spotted t) ids) ≡ child t k.0 k.1
