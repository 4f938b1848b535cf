-- The child of a name, and a walk by names.
use Rattle.std.specs.Prelude.{ℕ, Bool, not, ◌&&◌, List, [], ◌∷◌, find, if◌then◌else◌, Option, Result, Ok, Err}
use Rattle.std.specs.Option.{option_map, option_map_or}
use Rattle.std.specs.Str.{bytes_eq}
use Rattle.std.specs.FinMap.{values}
use Rattle.kb_name.specs.declared.ids.NodeId.{NodeId}
use Rattle.kb_ops.specs.declared.rows.Row.{Row}
use Rattle.kb_ops.specs.declared.rows.WalkFault.{WalkFault}
use Rattle.kb_ops.specs.declared.rows.WalkFault.TheVariants.{NotDir, NotFound}
use Rattle.kb_name.specs.Nodes.{root, same_node}
use Rattle.kb_ops.specs.Rows.{is_dir}
use Rattle.kb_ops.specs.Trees.{Tree, look}

-- whether a row other than the root stands at the place
abbrev pub stands_at : NodeId → List ℕ → Row → Bool
stands_at parent name r = not (same_node r.id root) && (same_node r.parent parent && bytes_eq r.name name)

-- the row at the place
abbrev pub child : Tree → NodeId → List ℕ → Option NodeId
child t parent name = option_map (λ (r : Row). r.id) (find (stands_at parent name) (values t))

-- from a row, name by name to the child of that name
abbrev pub find_from : Tree → NodeId → List (List ℕ) → Result NodeId WalkFault
find_from t q [] = Ok q
find_from t q (name ∷ names) = if is_dir (look t) q then option_map_or (λ c. find_from t c names) (child t q name) (Err NotFound) else Err NotDir
