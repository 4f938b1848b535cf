-- Which ids the trees of a chain have: each was given by an operation, which fixes its kind.
use Rattle.std.specs.Prelude.{◌≡◌, ◌≢◌, ◌⊎◌, ℕ, ◌-◌, ◌≤◌, Option, Some, None, slice_get}
use Rattle.kb_name.specs.declared.ids.NodeId.{NodeId}
use Rattle.kb_name.specs.Nodes.{root}
use Rattle.kb_ops.specs.declared.values.Kind.{Kind}
use Rattle.kb_ops.specs.declared.values.Kind.TheVariants.{File}
use Rattle.kb_ops.specs.declared.rows.Row.{Row}
use Rattle.kb_ops.specs.declared.rows.Op.{Op}
use Rattle.kb_ops.specs.declared.rows.Change.{Change}
use Rattle.kb_ops.specs.declared.rows.Change.TheVariants.{Create, Remove, Rename, Sync, Exec, Touch}
use Rattle.kb_ops.specs.Trees.{Tree, look}
use Rattle.kb_snap.specs.Chains.{Chain, ops_of}

-- the kind of what an operation creates
abbrev pub made_kind : Change → Option Kind
made_kind (Create parent name kind bytes) = Some kind
made_kind (Remove node) = None
made_kind (Rename node parent name replaced) = None
made_kind (Sync node offset bytes size) = None
made_kind (Exec node on) = None
made_kind (Touch node mtime) = None

-- the part 0 is of what the operation creates, all others of the copies of its merge, which are files
abbrev pub IsMadeBy : Op → ℕ → Kind → Type 0
IsMadeBy op part kind = ((part ≡ 0) × (made_kind op.change ≡ Some kind)) ⊎ ((part ≢ 0) × (kind ≡ File))

-- the device's operation of the id's seq is in the chain, and made a node of this kind
pub record IsGiven (c : Chain) (q : NodeId) (kind : Kind) : Type 0 where
  pub seq : 1 ≤ q.seq
  pub op : Op
  pub at : slice_get (ops_of q.device c) (q.seq - 1) ≡ Some op
  pub made : IsMadeBy op q.part kind

-- each id of the tree but the root's was given by an operation of the chain
abbrev pub AreGiven : Chain → Tree → Type 0
AreGiven c t = (q : NodeId) (row : Row) → look t q ≡ Some row → (q ≡ root) ⊎ IsGiven c q row.kind
