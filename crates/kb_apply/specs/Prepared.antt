-- Operations that are prepared, and what doing them does.
use Rattle.std.specs.Prelude.{ℕ, ◌≤◌, length, Option, Some, None, IfSome, max}
use Rattle.std.specs.Vec.{vec_capacity}
use Rattle.kb_name.specs.declared.ids.NodeId.{NodeId}
use Rattle.kb_ops.specs.declared.rows.Change.{Change}
use Rattle.kb_ops.specs.declared.rows.Change.TheVariants.{Create, Remove, Rename, Sync, Exec, Touch}
use Rattle.kb_ops.specs.declared.requests.Planned.{Planned}
use Rattle.kb_ops.specs.declared.requests.Planned.TheVariants.{Same, Made}
use Rattle.kb_ops.specs.Rows.{FitsRemove}
use Rattle.kb_ops.specs.Trees as trees
use Rattle.kb_ops.specs.Trees.{Tree, look, Fits}
use Rattle.kb_apply.specs.declared.doing.Prepared.{Prepared}

-- the tree after it
abbrev pub done : Prepared → Tree → Tree
done p t = trees.apply p.op t

-- ---- when it can be done

abbrev pub CanGo : Option NodeId → Tree → Type 0
CanGo None t = Unit {0}
CanGo (Some node) t = FitsRemove (look t) node

-- a new row has room
abbrev pub HasRoom : Change → ℕ → Type 0
HasRoom (Create parent name kind bytes) room = 1 ≤ room
HasRoom (Remove node) room = Unit {0}
HasRoom (Rename node parent name replaced) room = Unit {0}
HasRoom (Sync node offset bytes size) room = Unit {0}
HasRoom (Exec node on) room = Unit {0}
HasRoom (Touch node mtime) room = Unit {0}

-- the bytes of a write are no more than the old ones or the room of the spare buffer
abbrev pub HasSpare : Change → ℕ → Tree → Type 0
HasSpare (Create parent name kind bytes) spare t = Unit {0}
HasSpare (Remove node) spare t = Unit {0}
HasSpare (Rename node parent name replaced) spare t = Unit {0}
HasSpare (Sync node offset bytes size) spare t = IfSome (look t node) (λ r. size ≤ max (length r.bytes) spare)
HasSpare (Exec node on) spare t = Unit {0}
HasSpare (Touch node mtime) spare t = Unit {0}

pub record IsReady (p : Prepared) (t : Tree) (room : ℕ) : Type 0 where
  pub fits : Fits p.op t
  pub has_room : HasRoom p.op.change room
  pub has_spare : HasSpare p.op.change (vec_capacity p.spare) t

-- ---- what is planned

abbrev pub FitsIfMade : Planned → Tree → Type 0
FitsIfMade Same t = Unit {0}
FitsIfMade (Made op) t = Fits op t
