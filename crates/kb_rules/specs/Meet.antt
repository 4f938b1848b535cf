-- When three trees can be merged.
use Rattle.std.specs.Prelude.{◌≡◌, ◌≢◌, ℕ, Some, None, IsSome}
use Rattle.kb_name.specs.declared.ids.NodeId.{NodeId}
use Rattle.kb_ops.specs.declared.rows.Row.{Row}
use Rattle.kb_ops.specs.Rows.{Look}
use Rattle.kb_ops.specs.Trees.{Tree, look, IsWellFormed}
use Rattle.kb_rules.specs.declared.stamp.Stamp.{Stamp}
use Rattle.kb_rules.specs.Merge.{copy_id}

-- a node of both trees has one kind
abbrev pub HaveOneKind : Look → Look → Type 0
HaveOneKind a b = (q : NodeId) (r s : Row) → a q ≡ Some r → b q ≡ Some s → r.kind ≡ s.kind

-- no row has the id of a copy
abbrev pub HasNoCopies : Stamp → Look → Type 0
HasNoCopies stamp look = (j : ℕ) → j ≢ 0 → look (copy_id stamp j) ≡ None

-- the trees are well formed, a node of two of them has one kind, one of merged and ours is in base, and none has the id of a copy
pub record Meet (b m u : Tree) (stamp : Stamp) : Type 0 where
  pub base : IsWellFormed b
  pub merged : IsWellFormed m
  pub ours : IsWellFormed u
  pub merged_kinds : HaveOneKind (look b) (look m)
  pub our_kinds : HaveOneKind (look b) (look u)
  pub both_kinds : HaveOneKind (look m) (look u)
  pub common : (q : NodeId) → IsSome (look m q) → IsSome (look u q) → IsSome (look b q)
  pub no_base_copies : HasNoCopies stamp (look b)
  pub no_merged_copies : HasNoCopies stamp (look m)
  pub no_our_copies : HasNoCopies stamp (look u)
