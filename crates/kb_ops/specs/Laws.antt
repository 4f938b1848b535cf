-- What holds of every tree, operation and plan.
use Rattle.std.specs.Prelude.{◌≡◌, ◌≤◌, ℕ, false, List, [], ◌∷◌, ◌++◌, ◌↔◌, Some, None, Ok}
use Rattle.std.specs.Option.{option_map_or}
use Rattle.std.specs.List.{list_any}
use Rattle.kb_name.specs.declared.ids.NodeId.{NodeId}
use Rattle.kb_name.specs.Nodes.{same_node}
use Rattle.kb_ops.specs.declared.rows.Row.{Row}
use Rattle.kb_ops.specs.declared.rows.Op.{Op}
use Rattle.kb_ops.specs.declared.rows.Change.{Change}
use Rattle.kb_ops.specs.declared.rows.Change.TheVariants.{Create, Remove, Rename, Sync, Exec, Touch}
use Rattle.kb_ops.specs.declared.requests.Request.{Request}
use Rattle.kb_ops.specs.declared.requests.Planned.TheVariants.{Made}
use Rattle.kb_ops.specs.Trees.{Tree, look, start, IsWellFormed, apply, new_id, Fits, fold_ops, FitAll}
use Rattle.kb_ops.specs.Plan.{plan_of}
use Rattle.kb_ops.specs.Refusals.{plan_by_table}
use Rattle.kb_ops.specs.Grammar.{op_text, IsOp, IsProper}

-- the plan is what the table of refusals says
abbrev pub PlanIsByTable : Type 0
PlanIsByTable = (t : Tree) (request : Request) (device seq moment : ℕ) → IsWellFormed t → plan_of t request device seq moment ≡ plan_by_table t request device seq moment

-- a planned operation fits, where its id is new, and it is by this device, with this seq and moment
abbrev pub PlannedFits : Type 0
PlannedFits = (t : Tree) (request : Request) (device seq moment : ℕ) (op : Op) → IsWellFormed t → look t (record { device = device; seq = seq; part = 0 }) ≡ None
    → plan_of t request device seq moment ≡ Ok (Made op) → Fits op t × (op.device ≡ device) × (op.seq ≡ seq) × (op.moment ≡ moment)

-- a new tree is well formed
abbrev pub StartIsWellFormed : Type 0
StartIsWellFormed = IsWellFormed start

-- an operation that fits keeps a tree well formed
abbrev pub FittingKeeps : Type 0
FittingKeeps = (op : Op) (t : Tree) → IsWellFormed t → Fits op t → IsWellFormed (apply op t)

-- operations that fit one after another do too
abbrev pub FoldingKeeps : Type 0
FoldingKeeps = (ops : List Op) (t : Tree) → IsWellFormed t → FitAll ops t → IsWellFormed (fold_ops ops t)

-- folding over joined lists is folding over the one and then over the other, and so is fitting
abbrev pub FoldsJoin : Type 0
FoldsJoin = (ops more : List Op) (t : Tree) → (fold_ops (ops ++ more) t ≡ fold_ops more (fold_ops ops t)) × (FitAll (ops ++ more) t ↔ (FitAll ops t × FitAll more (fold_ops ops t)))

-- the ids whose rows a change can set, drop or edit
abbrev pub nodes_of : NodeId → Change → List NodeId
nodes_of id (Create parent name kind bytes) = id ∷ []
nodes_of id (Remove node) = node ∷ []
nodes_of id (Rename node parent name replaced) = node ∷ option_map_or (λ gone. gone ∷ []) replaced []
nodes_of id (Sync node offset bytes size) = node ∷ []
nodes_of id (Exec node on) = node ∷ []
nodes_of id (Touch node mtime) = node ∷ []

abbrev pub touched : Op → List NodeId
touched op = nodes_of (new_id op) op.change

-- all other rows stay as they were
abbrev pub OthersStay : Type 0
OthersStay = (op : Op) (t : Tree) (q : NodeId) → list_any (same_node q) (touched op) ≡ false → look (apply op t) q ≡ look t q

-- a row that was there and still is has its id and its kind
abbrev pub KindsStay : Type 0
KindsStay = (op : Op) (t : Tree) (q : NodeId) (was row : Row) → Fits op t → look t q ≡ Some was → look (apply op t) q ≡ Some row → (row.id ≡ was.id) × (row.kind ≡ was.kind)

-- two operations with one spelling are one
abbrev pub SpelledOnce : Type 0
SpelledOnce = (a b : Op) → IsOp a → IsOp b → op_text a ≡ op_text b → a ≡ b

-- the first of two texts end to end ends in one place
abbrev pub SpelledApart : Type 0
SpelledApart = (a b : Op) (rest more : List ℕ) → IsOp a → IsOp b → op_text a ++ rest ≡ op_text b ++ more → (a ≡ b) × (rest ≡ more)

-- what a request comes to is spelled, where the device and the seq have their ranges
abbrev pub PlannedIsProper : Type 0
PlannedIsProper = (t : Tree) (request : Request) (device seq moment : ℕ) (op : Op) → IsWellFormed t → look t (record { device = device; seq = seq; part = 0 }) ≡ None
    → 1 ≤ device → 1 ≤ seq → plan_of t request device seq moment ≡ Ok (Made op) → IsProper op
