-- The tests of whether an operation fits a tree.
use Rattle.std.specs.Prelude.{ℕ, ◌+◌, Bool, false, not, ◌&&◌, ◌||◌, List, length, nat_le, nat_eq, is_some, is_none, Option, Some, None}
use Rattle.std.specs.Option.{option_map_or}
use mathlib.Core.Bool.{beq}
use Rattle.kb_name.specs.declared.ids.NodeId.{NodeId}
use Rattle.kb_name.specs.Names.{is_name}
use Rattle.kb_name.specs.Nodes.{root, same_node}
use Rattle.kb_ops.specs.declared.values.Kind.{Kind}
use Rattle.kb_ops.specs.declared.rows.Change.{Change}
use Rattle.kb_ops.specs.declared.rows.Change.TheVariants.{Create, Remove, Rename, Sync, Exec, Touch}
use Rattle.kb_ops.specs.Rows.{is_dir, is_dir_kind}
use Rattle.kb_ops.specs.Trees.{Tree, look}
use Rattle.kb_ops.specs.Find.{child}
use Rattle.kb_ops.specs.Plan.{has_child, is_below, file_at}

-- a row that is there, isn't the root's and has no child
abbrev pub can_go : Tree → NodeId → Bool
can_go t node = is_some (look t node) && (not (same_node node root) && not (has_child t node))

-- a new row may have these bytes
abbrev pub is_content : Kind → List ℕ → Bool
is_content kind bytes = nat_le (length bytes) 16777216 && (not (is_dir_kind kind) || nat_eq (length bytes) 0)

abbrev pub creates : NodeId → Tree → NodeId → List ℕ → Kind → List ℕ → Bool
creates id t parent name kind bytes = is_none (look t id) && (is_dir (look t) parent && (is_none (child t parent name) && (is_name name && is_content kind bytes)))

-- whether this row stands at the place
abbrev pub is_child : Tree → NodeId → List ℕ → NodeId → Bool
is_child t parent name node = option_map_or (λ there. same_node there node) (child t parent name) false

-- the row at the place makes way for the node
abbrev pub makes_way : Tree → NodeId → NodeId → List ℕ → NodeId → Bool
makes_way t node parent name gone = is_child t parent name gone && (not (same_node gone node) && (not (has_child t gone) && beq (is_dir (look t) gone) (is_dir (look t) node)))

abbrev pub has_place : Tree → NodeId → NodeId → List ℕ → Option NodeId → Bool
has_place t node parent name None = is_none (child t parent name)
has_place t node parent name (Some gone) = makes_way t node parent name gone

abbrev pub renames : Tree → NodeId → NodeId → List ℕ → Option NodeId → Bool
renames t node parent name replaced = is_some (look t node) && (not (same_node node root) && (is_dir (look t) parent && (not (is_below t node parent) && (is_name name && has_place t node parent name replaced))))

abbrev pub is_write : ℕ → List ℕ → ℕ → Bool
is_write offset bytes size = nat_le (length bytes) 65536 && (nat_le (offset + length bytes) size && (nat_le size 16777216 && (not (nat_eq (length bytes) 0) || nat_eq offset 0)))

abbrev pub change_fits : NodeId → Tree → Change → Bool
change_fits id t (Create parent name kind bytes) = creates id t parent name kind bytes
change_fits id t (Remove node) = can_go t node
change_fits id t (Rename node parent name replaced) = renames t node parent name replaced
change_fits id t (Sync node offset bytes size) = is_some (file_at t node) && is_write offset bytes size
change_fits id t (Exec node on) = is_some (file_at t node)
change_fits id t (Touch node mtime) = is_some (look t node)
