-- A tree as the list of its rows in ascending order of ids.
use Rattle.std.specs.Prelude.{ℕ, suc, Bool, List, [], ◌∷◌, map, if◌then◌else◌}
use Rattle.std.specs.Ordering.{is_lt}
use Rattle.std.specs.FinMap.{from_sorted, is_sorted}
use Rattle.kb_name.specs.declared.ids.NodeId.{NodeId}
use Rattle.kb_ops.specs.declared.rows.Row.{Row}
use Rattle.kb_name.specs.Nodes.{node_cmp}
use Rattle.kb_ops.specs.Trees.{Tree}

abbrev pub keyed : Row → NodeId × Row
keyed r = (r.id, r)

-- the ids strictly rise
abbrev pub rises : List Row → Bool
rises rows = is_sorted node_cmp (map keyed rows)

-- the tree of such a list
abbrev pub tree_of : List Row → Tree
tree_of rows = from_sorted (map keyed rows)

-- how many rows at the front have smaller ids
abbrev pub place_of : NodeId → List Row → ℕ
place_of id [] = 0
place_of id (r ∷ rows) = if is_lt (node_cmp r.id id) then suc (place_of id rows) else 0
