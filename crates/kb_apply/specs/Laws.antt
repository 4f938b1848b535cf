-- Laws of what is shown of a tree.
use Rattle.std.specs.Prelude.{◌≡◌, ◌≢◌, ℕ, List, Some, Ok}
use Rattle.std.specs.Prelude.{Contains}
use Rattle.std.specs.List.{AllByRecursion}
use Rattle.kb_name.specs.declared.ids.NodeId.{NodeId}
use Rattle.kb_name.specs.Nodes.{root}
use Rattle.kb_ops.specs.declared.rows.Row.{Row}
use Rattle.kb_ops.specs.declared.shown.Placed.{Placed}
use Rattle.kb_ops.specs.Trees.{Tree, look, IsWellFormed}
use Rattle.kb_ops.specs.Find.{find_from}
use Rattle.kb_apply.specs.Shows.{rows_of}

-- a row of the tree, to which the names of its path lead
abbrev pub IsPlaced : Tree → Placed → Type 0
IsPlaced t p = (look t p.row.id ≡ Some p.row) × (find_from t root p.names ≡ Ok p.row.id)

-- each listed row is the tree's, and the names of its path lead to it
abbrev pub ListedArePlaced : Type 0
ListedArePlaced = (t : Tree) → IsWellFormed t → AllByRecursion (IsPlaced t) (rows_of t)

-- each row but the root's is listed
abbrev pub AllAreListed : Type 0
AllAreListed = (t : Tree) → IsWellFormed t → (q : NodeId) (r : Row) → look t q ≡ Some r → q ≢ root → (names : List (List ℕ)) × Contains (rows_of t) (record { names = names; row = r })
