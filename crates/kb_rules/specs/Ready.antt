-- What the stages of a merge need of three trees, where ours has its copies under ids of their own.
use Rattle.std.specs.Prelude.{◌≡◌, ℕ, Bool, true, List, Some, IsSome}
use Rattle.std.specs.List.{list_any}
use Rattle.kb_name.specs.declared.ids.NodeId.{NodeId}
use Rattle.kb_name.specs.Nodes.{same_node}
use Rattle.kb_ops.specs.declared.values.Kind.TheVariants.{File}
use Rattle.kb_ops.specs.declared.rows.Row.{Row}
use Rattle.kb_ops.specs.Rows.{IsTree, is_dir_row}
use Rattle.kb_rules.specs.Three.{Three}

abbrev pub is_in : NodeId → List NodeId → Bool
is_in q ids = list_any (same_node q) ids

-- two well formed trees, in which a node has one kind, whose common nodes base has, and whose nodes are among the ids
pub record CanMerge (n m : ℕ) (t : Three) : Type 0 where
  pub merged : IsTree n t.merged
  pub ours : IsTree m t.ours
  pub kinds : (q : NodeId) (r s : Row) → t.merged q ≡ Some r → t.ours q ≡ Some s → r.kind ≡ s.kind
  pub common : (q : NodeId) (r s : Row) → t.merged q ≡ Some r → t.ours q ≡ Some s → IsSome (t.base q)
  pub merged_in : (q : NodeId) (r : Row) → t.merged q ≡ Some r → is_in q t.ids ≡ true
  pub ours_in : (q : NodeId) (r : Row) → t.ours q ≡ Some r → is_in q t.ids ≡ true
  pub joined_kinds : (b a : Row) → t.may b a ≡ true → is_dir_row b ≡ is_dir_row a
  pub joined_files : (b a : Row) → t.may b a ≡ true → b.kind ≡ File → (a.kind ≡ File) × (a.bytes ≡ b.bytes)
