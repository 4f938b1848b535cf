-- The children of a directory, in byte order of names.
use Rattle.std.specs.Prelude.{Bool, not, ◌&&◌, List, filter, map}
use Rattle.std.specs.Ordering.{nat_cmp}
use Rattle.std.specs.Cmp.Lexicographic.{slice_cmp}
use Rattle.std.specs.FinMap.{FinMap, values, from_entries}
use Rattle.kb_name.specs.declared.ids.NodeId.{NodeId}
use Rattle.kb_name.specs.Nodes.{root, same_node}
use Rattle.kb_ops.specs.declared.rows.Row.{Row}
use Rattle.kb_ops.specs.Trees.{Tree}

-- whether a row other than the root has this parent
abbrev pub is_child_of : NodeId → Row → Bool
is_child_of parent r = not (same_node r.id root) && same_node r.parent parent

-- the rows with this parent, by their names
abbrev pub by_name : Tree → NodeId → FinMap (slice_cmp nat_cmp) Row
by_name t parent = from_entries (map (λ (r : Row). (r.name, r)) (filter (is_child_of parent) (values t)))

-- these rows, in byte order of names
abbrev pub children : Tree → NodeId → List Row
children t parent = values (by_name t parent)
