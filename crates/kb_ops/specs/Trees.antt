-- A tree is a finite map from ids to rows. Operations change it, and each fits some trees.
use Rattle.std.specs.Prelude.{◌≡◌, ℕ, ◌+◌, ◌-◌, ◌≤◌, false, ◌&&◌, List, [], ◌∷◌, length, map, slice_index, nat_le, nat_lt, if◌then◌else◌, Option, Some, None, IsSome, IsSomeAnd}
use Rattle.std.specs.Option.{option_map_or}
use Rattle.std.specs.List.{range_with_len}
use Rattle.std.specs.FinMap.{FinMap, get, insert, remove, len, from_sorted}
use Rattle.kb_name.specs.declared.ids.NodeId.{NodeId}
use Rattle.kb_ops.specs.declared.values.Kind.{Kind}
use Rattle.kb_ops.specs.declared.values.Kind.TheVariants.{Dir, File}
use Rattle.kb_ops.specs.declared.rows.Row.{Row}
use Rattle.kb_ops.specs.declared.rows.Op.{Op}
use Rattle.kb_ops.specs.declared.rows.Change.{Change}
use Rattle.kb_ops.specs.declared.rows.Change.TheVariants.{Create, Remove, Rename, Sync, Exec, Touch}
use Rattle.kb_name.specs.Nodes.{root, node_cmp}
use Rattle.kb_ops.specs.Rows.{Look, IsTree, FitsNew, FitsRemove, FitsRename}

abbrev pub Tree : Type 0
Tree = FinMap node_cmp Row

abbrev pub look : Tree → Look
look t q = get t q

abbrev pub IsWellFormed : Tree → Type 0
IsWellFormed t = IsTree (len t) (look t)

abbrev pub root_row : Row
root_row = record { id = root; parent = root; name = []; kind = Dir; bytes = []; exec = false; mtime = 0 }

-- the root alone
abbrev pub start : Tree
start = from_sorted ((root, root_row) ∷ [])

-- a byte of a file after a write: the write's where it has one, else the old one, else 0
abbrev pub patched_byte : List ℕ → ℕ → List ℕ → ℕ → ℕ
patched_byte old offset bytes i = if nat_le offset i && nat_lt i (offset + length bytes) then slice_index bytes (i - offset) else slice_index old i

-- the bytes of a file after a write, so many
abbrev pub patched : List ℕ → ℕ → List ℕ → ℕ → List ℕ
patched old offset bytes size = map (patched_byte old offset bytes) (range_with_len 0 size)

-- the row of an id is changed, where there is one
abbrev pub edit : Tree → NodeId → (Row → Row) → Tree
edit t node f = option_map_or (λ r. insert t node (f r)) (look t node) t

abbrev pub make_way : Tree → Option NodeId → Tree
make_way t None = t
make_way t (Some gone) = remove t gone

-- the row that a Create adds
abbrev pub created : NodeId → ℕ → NodeId → List ℕ → Kind → List ℕ → Row
created id moment parent name kind bytes = record { id = id; parent = parent; name = name; kind = kind; bytes = bytes; exec = false; mtime = moment }

abbrev pub apply_change : NodeId → ℕ → Change → Tree → Tree
apply_change id moment (Create parent name kind bytes) t = insert t id (created id moment parent name kind bytes)
apply_change id moment (Remove node) t = remove t node
apply_change id moment (Rename node parent name replaced) t = edit (make_way t replaced) node (λ r. record r { parent = parent; name = name })
apply_change id moment (Sync node offset bytes size) t = edit t node (λ r. record r { bytes = patched r.bytes offset bytes size; mtime = moment })
apply_change id moment (Exec node on) t = edit t node (λ r. record r { exec = on })
apply_change id moment (Touch node mtime) t = edit t node (λ r. record r { mtime = mtime })

-- the id of a node that an operation creates
abbrev pub new_id : Op → NodeId
new_id op = record { device = op.device; seq = op.seq; part = 0 }

abbrev pub apply : Op → Tree → Tree
apply op t = apply_change (new_id op) op.moment op.change t

abbrev pub IsFileAt : Look → NodeId → Type 0
IsFileAt look node = IsSomeAnd (look node) (λ r. r.kind ≡ File)

-- the numbers of a write
pub record IsWrite (offset : ℕ) (bytes : List ℕ) (size : ℕ) : Type 0 where
  pub few : length bytes ≤ 65536
  pub within : offset + length bytes ≤ size
  pub small : size ≤ 16777216
  pub plain : bytes ≡ [] → offset ≡ 0

abbrev pub FitsChange : NodeId → ℕ → Change → Tree → Type 0
FitsChange id moment (Create parent name kind bytes) t = FitsNew (look t) (created id moment parent name kind bytes)
FitsChange id moment (Remove node) t = FitsRemove (look t) node
FitsChange id moment (Rename node parent name replaced) t = FitsRename (len t) (look t) node parent name replaced
FitsChange id moment (Sync node offset bytes size) t = IsFileAt (look t) node × IsWrite offset bytes size
FitsChange id moment (Exec node on) t = IsFileAt (look t) node
FitsChange id moment (Touch node mtime) t = IsSome (look t node)

abbrev pub Fits : Op → Tree → Type 0
Fits op t = FitsChange (new_id op) op.moment op.change t

-- the operations, in order
abbrev pub fold_ops : List Op → Tree → Tree
fold_ops [] t = t
fold_ops (op ∷ ops) t = fold_ops ops (apply op t)

-- each fits the tree before it
abbrev pub FitAll : List Op → Tree → Type 0
FitAll [] t = Unit {0}
FitAll (op ∷ ops) t = Fits op t × FitAll ops (apply op t)
