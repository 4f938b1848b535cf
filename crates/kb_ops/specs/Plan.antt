-- What a request comes to: the first refusal that applies, or nothing to do, or an operation.
use Rattle.std.specs.Prelude.{◌≡◌, ℕ, ◌+◌, Bool, true, false, not, ◌&&◌, ◌||◌, List, [], ◌∷◌, length, max, nat_le, nat_lt, nat_eq, is_some, if◌then◌else◌, Option, Some, None, Result, Ok, Err}
use Rattle.std.specs.Option.{option_map_or}
use Rattle.std.specs.List.{list_any}
use Rattle.std.specs.FinMap.{values, len}
use mathlib.Core.Bool.{beq}
use Rattle.kb_name.specs.declared.ids.NodeId.{NodeId}
use Rattle.kb_ops.specs.declared.values.Kind.{Kind}
use Rattle.kb_ops.specs.declared.values.Kind.TheVariants.{Dir, File, Link}
use Rattle.kb_ops.specs.declared.rows.Row.{Row}
use Rattle.kb_ops.specs.declared.rows.Change.{Change}
use Rattle.kb_ops.specs.declared.rows.Change.TheVariants.{Create, Remove, Rename, Sync, Exec, Touch}
use Rattle.kb_ops.specs.declared.rows.WalkFault.{WalkFault}
use Rattle.kb_ops.specs.declared.rows.WalkFault.TheVariants as walk
use Rattle.kb_ops.specs.declared.requests.PlanFault.{PlanFault}
use Rattle.kb_ops.specs.declared.requests.PlanFault.TheVariants.{BadPath, TooDeep, NotFound, NotDir, NotFile, Exists, NotEmpty, Inside, TooBig, TreeFull, Memory}
use Rattle.kb_ops.specs.declared.requests.Planned.{Planned}
use Rattle.kb_ops.specs.declared.requests.Planned.TheVariants.{Same, Made}
use Rattle.kb_ops.specs.declared.requests.Request.{Request}
use Rattle.kb_ops.specs.declared.requests.Request.TheVariants as asks
use Rattle.kb_name.specs.declared.paths.PathFault.{PathFault}
use Rattle.kb_name.specs.declared.paths.PathFault.TheVariants as paths
use Rattle.kb_name.specs.Paths.{path_of}
use Rattle.kb_name.specs.Nodes.{root, same_node}
use Rattle.kb_ops.specs.Rows.{is_dir, meets}
use Rattle.kb_ops.specs.Trees.{Tree, look}
use Rattle.kb_ops.specs.Find.{child, find_from}

infixl 10 ◌>>=◌
abbrev pub ◌>>=◌ : {A B E : Type 0} → Result A E → (A → Result B E) → Result B E
(Ok x) >>= f = f x
(Err e) >>= f = Err e

-- a call may always want memory; else it answers so
abbrev pub Fails : {A : Type 0} → PlanFault → Result A PlanFault → Type 0
Fails Memory plan = Unit {0}
Fails e plan = plan ≡ Err e

abbrev pub Gives : {A : Type 0} → Result A PlanFault → Result A PlanFault → Type 0
Gives (Ok x) plan = plan ≡ Ok x
Gives (Err e) plan = Fails e plan

abbrev pub walk_fault : WalkFault → PlanFault
walk_fault walk.NotDir = NotDir
walk_fault walk.NotFound = NotFound

abbrev pub refused : {A : Type 0} → Result A WalkFault → Result A PlanFault
refused (Ok x) = Ok x
refused (Err e) = Err (walk_fault e)

-- all names but the last, and the last
abbrev pub split_last : List (List ℕ) → Option (List (List ℕ) × List ℕ)
split_last [] = None
split_last (n ∷ ns) = option_map_or (λ s. Some (n ∷ s.0, s.1)) (split_last ns) (Some ([], n))

-- where a row goes: its parent, its name, and the row that stands there
pub record Place : Type 0 where
  pub parent : NodeId
  pub name : List ℕ
  pub target : Option NodeId

-- below the Dir that the names but the last lead to
unfoldable pub place_in : Tree → List (List ℕ) → List ℕ → Result Place WalkFault
place_in t names name = do
  parent ← find_from t root names
  if is_dir (look t) parent then Ok (record { parent = parent; name = name; target = child t parent name }) else Err walk.NotDir

-- the root is its own place
unfoldable pub place_at : Tree → List (List ℕ) → Result Place WalkFault
place_at t names = option_map_or (λ s. place_in t s.0 s.1) (split_last names) (Ok (record { parent = root; name = []; target = Some root }))

abbrev pub has_child : Tree → NodeId → Bool
has_child t node = list_any (λ (r : Row). not (same_node r.id root) && same_node r.parent node) (values t)

-- whether a row is the node or below it
abbrev pub is_below : Tree → NodeId → NodeId → Bool
is_below t node q = meets (look t) node (len t) q

abbrev pub is_file_kind : Kind → Bool
is_file_kind Dir = false
is_file_kind File = true
is_file_kind Link = false

-- the row, if it is a File's
abbrev pub file_at : Tree → NodeId → Option Row
file_at t node = option_map_or (λ r. if is_file_kind r.kind then Some r else None) (look t node) None

-- A plan is a change, or none where all is as asked already.

unfoldable pub plan_create : Tree → List (List ℕ) → Kind → List ℕ → Result (Option Change) PlanFault
plan_create t names kind bytes = do
  place ← refused (place_at t names)
  if is_some place.target then Err Exists
      else if nat_lt 1024 (length bytes) then Err TooBig
      else if nat_le 32768 (len t) then Err TreeFull
      else Ok (Some (Create place.parent place.name kind bytes))

unfoldable pub plan_remove : Tree → List (List ℕ) → Result (Option Change) PlanFault
plan_remove t names = do
  node ← refused (find_from t root names)
  if has_child t node then Err NotEmpty
      else if same_node node root then Err Inside
      else Ok (Some (Remove node))

-- of two refusals that come before, NotFound is the first
abbrev pub both : {A B : Type 0} → Result A WalkFault → Result B WalkFault → Result (A × B) WalkFault
both (Ok a) (Ok b) = Ok (a, b)
both (Ok a) (Err e) = Err e
both (Err e) (Ok b) = Err e
both (Err walk.NotFound) (Err f) = Err walk.NotFound
both (Err walk.NotDir) (Err f) = Err f

-- onto the row that stands there
unfoldable pub plan_onto : Tree → NodeId → Place → NodeId → Result (Option Change) PlanFault
plan_onto t node place gone =
    if is_dir (look t) node && not (is_dir (look t) gone) then Err NotDir
    else if not (is_dir (look t) node) && is_dir (look t) gone then Err NotFile
    else if not (same_node gone node) && has_child t gone then Err NotEmpty
    else if is_below t node place.parent then Err Inside
    else if same_node gone node then Ok None
    else Ok (Some (Rename node place.parent place.name (Some gone)))

unfoldable pub plan_into : Tree → NodeId → Place → Result (Option Change) PlanFault
plan_into t node place = if is_below t node place.parent then Err Inside else Ok (Some (Rename node place.parent place.name None))

unfoldable pub plan_move : Tree → List (List ℕ) → List (List ℕ) → Result (Option Change) PlanFault
plan_move t from to = do
  ends ← refused (both (find_from t root from) (place_at t to))
  option_map_or (λ gone. plan_onto t ends.0 ends.1 gone) ends.1.target (plan_into t ends.0 ends.1)

unfoldable pub plan_write : Tree → List (List ℕ) → ℕ → List ℕ → Result (Option Change) PlanFault
plan_write t names offset bytes = do
  node ← refused (find_from t root names)
  row ← option_map_or (λ r. Ok r) (file_at t node) (Err NotFile)
  if nat_lt 16777216 (offset + length bytes) || nat_lt 65536 (length bytes) then Err TooBig
      else if nat_eq (length bytes) 0 then Ok None
      else Ok (Some (Sync node offset bytes (max (length row.bytes) (offset + length bytes))))

unfoldable pub plan_cut : Tree → List (List ℕ) → ℕ → Result (Option Change) PlanFault
plan_cut t names size = do
  node ← refused (find_from t root names)
  row ← option_map_or (λ r. Ok r) (file_at t node) (Err NotFile)
  if nat_lt 16777216 size then Err TooBig
      else if nat_eq size (length row.bytes) then Ok None
      else Ok (Some (Sync node 0 [] size))

unfoldable pub plan_exec : Tree → List (List ℕ) → Bool → Result (Option Change) PlanFault
plan_exec t names on = do
  node ← refused (find_from t root names)
  row ← option_map_or (λ r. Ok r) (file_at t node) (Err NotFile)
  if beq row.exec on then Ok None else Ok (Some (Exec node on))

unfoldable pub plan_touch : Tree → List (List ℕ) → ℕ → Result (Option Change) PlanFault
plan_touch t names mtime = do
  node ← refused (find_from t root names)
  row ← option_map_or (λ r. Ok r) (look t node) (Err NotFound)
  if nat_eq row.mtime mtime then Ok None else Ok (Some (Touch node mtime))

abbrev pub path_fault : PathFault → PlanFault
path_fault paths.BadPath = BadPath
path_fault paths.TooDeep = TooDeep
path_fault paths.Memory = Memory

abbrev pub read : {A : Type 0} → Result A PathFault → Result A PlanFault
read (Ok x) = Ok x
read (Err e) = Err (path_fault e)

-- of two refusals of words, BadPath is the first
abbrev pub both_paths : {A B : Type 0} → Result A PathFault → Result B PathFault → Result (A × B) PathFault
both_paths (Ok a) (Ok b) = Ok (a, b)
both_paths (Ok a) (Err e) = Err e
both_paths (Err e) (Ok b) = Err e
both_paths (Err paths.BadPath) (Err f) = Err paths.BadPath
both_paths (Err e) (Err f) = Err f

abbrev pub change_for : Tree → Request → Result (Option Change) PlanFault
change_for t (asks.Mkdir path) = read (path_of path) >>= λ names. plan_create t names Dir []
change_for t (asks.Mkfile path) = read (path_of path) >>= λ names. plan_create t names File []
change_for t (asks.Link path target) = read (path_of path) >>= λ names. plan_create t names Link target
change_for t (asks.Remove path) = read (path_of path) >>= λ names. plan_remove t names
change_for t (asks.Move from to) = read (both_paths (path_of from) (path_of to)) >>= λ ends. plan_move t ends.0 ends.1
change_for t (asks.Write path offset bytes) = read (path_of path) >>= λ names. plan_write t names offset bytes
change_for t (asks.Cut path size) = read (path_of path) >>= λ names. plan_cut t names size
change_for t (asks.Exec path on) = read (path_of path) >>= λ names. plan_exec t names on
change_for t (asks.Touch path mtime) = read (path_of path) >>= λ names. plan_touch t names mtime

abbrev pub planned : ℕ → ℕ → ℕ → Option Change → Planned
planned device seq moment None = Same
planned device seq moment (Some change) = Made (record { device = device; seq = seq; moment = moment; change = change })

abbrev pub plan_of : Tree → Request → ℕ → ℕ → ℕ → Result Planned PlanFault
plan_of t request device seq moment = change_for t request >>= λ c. Ok (planned device seq moment c)
