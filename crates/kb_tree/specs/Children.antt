-- The children of a row.
use Rattle.std.specs.Prelude.{◌≡◌, ℕ, true, List, [], map}
use Rattle.std.specs.Option.{option_map_or}
use Rattle.std.specs.Ordering.{nat_cmp}
use Rattle.std.specs.Cmp.Lexicographic.{slice_cmp}
use Rattle.std.specs.FinMap.Entries as entries
use Rattle.kb_name.specs.declared.ids.NodeId.{NodeId}
use Rattle.kb_ops.specs.declared.rows.Row.{Row}
use Rattle.kb_ops.specs.Trees.{Tree, look}
use Rattle.kb_ops.specs.Find.{child}

-- an id with the name of its row
abbrev pub named : Tree → NodeId → List ℕ × NodeId
named t id = (option_map_or (λ (r : Row). r.name) (look t id) [], id)

-- ids whose names strictly rise in byte order, with the child of each name under its name
pub record IsChildren (t : Tree) (parent : NodeId) (ids : List NodeId) : Type 0 where
  pub rise : entries.is_sorted (slice_cmp nat_cmp) (map (named t) ids) ≡ true
  pub gives : (name : List ℕ) → entries.find (slice_cmp nat_cmp) name (map (named t) ids) ≡ child t parent name
