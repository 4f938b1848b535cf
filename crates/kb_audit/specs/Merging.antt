-- What merging three tables gives.
use Rattle.std.specs.Prelude.{◌≡◌, List, Option, Some, None, IsSome, Result, Ok, Err}
use Rattle.kb_name.specs.declared.ids.NodeId.{NodeId}
use Rattle.kb_ops.specs.declared.rows.Row.{Row}
use Rattle.kb_ops.specs.Rows.{Look}
use Rattle.kb_edge.specs.declared.faults.Memory.{Memory}
use Rattle.std.specs.List.{AllByRecursion}
use Rattle.kb_ops.specs.Trees.{Tree, look}
use Rattle.kb_ops.specs.Lists.{tree_of}
use Rattle.kb_tree.specs.Held.{Held, AreKept}
use Rattle.kb_rules.specs.declared.stamp.Stamp.{Stamp}
use Rattle.kb_rules.specs.Meet.{Meet}
use Rattle.kb_snap.specs.Chains.{merged_tree}
use Rattle.kb_snap.specs.Lawful.{AreFew}

-- a node of both trees has one kind there
abbrev pub KindsAt : Look → Look → NodeId → Type 0
KindsAt a b q = (r s : Row) → a q ≡ Some r → b q ≡ Some s → r.kind ≡ s.kind

-- a node of merged and ours is in base
abbrev pub CommonAt : Look → Look → Look → NodeId → Type 0
CommonAt b m u q = IsSome (m q) → IsSome (u q) → IsSome (b q)

-- a node of the tree hasn't the id of a copy
abbrev pub NoCopyAt : Stamp → Look → NodeId → Type 0
NoCopyAt stamp t q = IsSome (t q) → q.device ≡ stamp.device → q.seq ≡ stamp.last → q.part ≡ 0

-- what a merge asks, at one node
pub record MeetAt (b m u : Look) (stamp : Stamp) (q : NodeId) : Type 0 where
  pub merged_kinds : KindsAt b m q
  pub our_kinds : KindsAt b u q
  pub both_kinds : KindsAt m u q
  pub common : CommonAt b m u q
  pub no_base_copy : NoCopyAt stamp b q
  pub no_merged_copy : NoCopyAt stamp m q
  pub no_our_copy : NoCopyAt stamp u q

-- each node of these rows allows a merge
pub record AllMeet (b m u : Tree) (stamp : Stamp) (base merged ours : List Row) : Type 0 where
  pub at_base : AllByRecursion (λ (r : Row). MeetAt (look b) (look m) (look u) stamp r.id) base
  pub at_merged : AllByRecursion (λ (r : Row). MeetAt (look b) (look m) (look u) stamp r.id) merged
  pub at_ours : AllByRecursion (λ (r : Row). MeetAt (look b) (look m) (look u) stamp r.id) ours

-- the rows are those of the tree, in ascending order of their ids
pub record AreRowsOf (rows : List Row) (t : Tree) : Type 0 where
  pub kept : AreKept rows
  pub tree : tree_of rows ≡ t

-- they can be merged, have so few rows as memory holds, and this is the merge; or they can't be merged
abbrev pub Merges : Tree → Tree → Tree → Stamp → Result (Option Held) Memory → Type 0
Merges b m u stamp (Ok (Some t)) = Meet b m u stamp × AreFew m u × (t.tree ≡ merged_tree b m u stamp)
Merges b m u stamp (Ok None) = Meet b m u stamp → ⊥
Merges b m u stamp (Err e) = Unit {0}
