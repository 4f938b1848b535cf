-- The refusals of a file call, each with when it applies. A request comes to the first that applies, else to nothing where all is as asked already, else to its operation.
use Rattle.std.specs.Prelude.{ℕ, ◌+◌, Bool, true, false, not, ◌&&◌, ◌||◌, List, [], ◌∷◌, length, max, nat_le, nat_lt, nat_eq, is_some, unwrap_or, if◌then◌else◌, Option, Some, Result, Ok, Err}
use Rattle.std.specs.Option.{option_map_or}
use Rattle.std.specs.List.{list_any}
use Rattle.std.specs.FinMap.{len}
use mathlib.Core.Bool.{beq}
use Rattle.kb_name.specs.declared.ids.NodeId.{NodeId}
use Rattle.kb_name.specs.declared.paths.PathFault.{PathFault}
use Rattle.kb_name.specs.Paths.{names_in}
use Rattle.kb_name.specs.Nodes.{root, same_node}
use Rattle.kb_ops.specs.declared.values.Kind.TheVariants.{Dir, File, Link}
use Rattle.kb_ops.specs.declared.rows.Row.{Row}
use Rattle.kb_ops.specs.declared.rows.Change.{Change}
use Rattle.kb_ops.specs.declared.rows.Change.TheVariants.{Create, Remove, Rename, Sync, Exec, Touch}
use Rattle.kb_ops.specs.declared.rows.WalkFault.{WalkFault}
use Rattle.kb_ops.specs.declared.rows.WalkFault.TheVariants as walk
use Rattle.kb_ops.specs.declared.requests.PlanFault.{PlanFault}
use Rattle.kb_ops.specs.declared.requests.PlanFault.TheVariants.{BadPath, TooDeep, NotFound, NotDir, NotFile, Exists, NotEmpty, Inside, TooBig, TreeFull, Memory}
use Rattle.kb_ops.specs.declared.requests.Planned.{Planned}
use Rattle.kb_ops.specs.declared.requests.Planned.TheVariants.{Same, Made}
use Rattle.kb_ops.specs.declared.requests.Request.{Request}
use Rattle.kb_ops.specs.declared.requests.Request.TheVariants as asks
use Rattle.kb_ops.specs.Rows.{is_dir}
use Rattle.kb_ops.specs.Trees.{Tree, look, root_row}
use Rattle.kb_ops.specs.Find.{child, find_from}
use Rattle.kb_ops.specs.Plan.{split_last, has_child, is_below, is_file_kind}

-- ---- the words of a request and the names that they spell

-- the words that are paths
abbrev pub words : Request → List (List ℕ)
words (asks.Mkdir path) = path ∷ []
words (asks.Mkfile path) = path ∷ []
words (asks.Link path target) = path ∷ []
words (asks.Remove path) = path ∷ []
words (asks.Move from to) = from ∷ to ∷ []
words (asks.Write path offset bytes) = path ∷ []
words (asks.Cut path size) = path ∷ []
words (asks.Exec path on) = path ∷ []
words (asks.Touch path mtime) = path ∷ []

-- whether reading a word gave no names
abbrev pub is_unread : Result (List (List ℕ)) PathFault → Bool
is_unread (Ok names) = false
is_unread (Err fault) = true

-- the names that were read
abbrev pub names_read : Result (List (List ℕ)) PathFault → List (List ℕ)
names_read (Ok names) = names
names_read (Err fault) = []

abbrev pub names_of : List ℕ → List (List ℕ)
names_of word = names_read (names_in word)

-- all names but the last
abbrev pub front_of : List (List ℕ) → List (List ℕ)
front_of names = option_map_or (λ s. s.0) (split_last names) []

-- the last name; the root has none
abbrev pub last_of : List (List ℕ) → List ℕ
last_of names = option_map_or (λ s. s.1) (split_last names) []

-- ---- the walks of a request: a create and a move's destination walk to the parent, all else walks to the row itself

abbrev pub walks : Request → List (List (List ℕ))
walks (asks.Mkdir path) = front_of (names_of path) ∷ []
walks (asks.Mkfile path) = front_of (names_of path) ∷ []
walks (asks.Link path target) = front_of (names_of path) ∷ []
walks (asks.Remove path) = names_of path ∷ []
walks (asks.Move from to) = names_of from ∷ front_of (names_of to) ∷ []
walks (asks.Write path offset bytes) = names_of path ∷ []
walks (asks.Cut path size) = names_of path ∷ []
walks (asks.Exec path on) = names_of path ∷ []
walks (asks.Touch path mtime) = names_of path ∷ []

-- whether a walk met a missing child
abbrev pub misses : Result NodeId WalkFault → Bool
misses (Ok q) = false
misses (Err walk.NotFound) = true
misses (Err walk.NotDir) = false

-- whether a walk met a row that isn't a Dir with names left
abbrev pub stumbles : Result NodeId WalkFault → Bool
stumbles (Ok q) = false
stumbles (Err walk.NotFound) = false
stumbles (Err walk.NotDir) = true

-- where a walk came to
abbrev pub end_at : Result NodeId WalkFault → NodeId
end_at (Ok q) = q
end_at (Err fault) = root

-- the node that names lead to
abbrev pub node_at : Tree → List (List ℕ) → NodeId
node_at t names = end_at (find_from t root names)

-- the row of a node
abbrev pub row_at : Tree → NodeId → Row
row_at t node = unwrap_or (look t node) root_row

-- the directory of a new place
abbrev pub parent_at : Tree → List (List ℕ) → NodeId
parent_at t names = node_at t (front_of names)

-- what stands at a new place; the root is its own place
abbrev pub standing_at : Tree → List (List ℕ) → Option NodeId
standing_at t names = option_map_or (λ s. child t (node_at t s.0) s.1) (split_last names) (Some root)

-- whether a node is there and a File
abbrev pub is_file : Tree → NodeId → Bool
is_file t node = option_map_or (λ (r : Row). is_file_kind r.kind) (look t node) false

-- ---- when each refusal applies

-- a path word isn't a path
abbrev pub has_bad_path : Request → Bool
has_bad_path r = list_any (λ word. is_unread (names_in word)) (words r)

-- a path has more than 64 names
abbrev pub is_too_deep : Request → Bool
is_too_deep r = list_any (λ word. not (nat_le (length (names_of word)) 64)) (words r)

-- a walk that is needed meets a missing child
abbrev pub misses_child : Tree → Request → Bool
misses_child t r = list_any (λ names. misses (find_from t root names)) (walks r)

-- a walk that is needed meets a row that isn't a Dir with names left
abbrev pub meets_no_dir : Tree → Request → Bool
meets_no_dir t r = list_any (λ names. stumbles (find_from t root names)) (walks r)

-- the parent of a new place isn't a Dir
abbrev pub goes_into_no_dir : Tree → Request → Bool
goes_into_no_dir t (asks.Mkdir path) = not (is_dir (look t) (parent_at t (names_of path)))
goes_into_no_dir t (asks.Mkfile path) = not (is_dir (look t) (parent_at t (names_of path)))
goes_into_no_dir t (asks.Link path target) = not (is_dir (look t) (parent_at t (names_of path)))
goes_into_no_dir t (asks.Move from to) = not (is_dir (look t) (parent_at t (names_of to)))
goes_into_no_dir t r = false

-- a Dir is moved onto a File or Link
abbrev pub is_dir_onto_other : Tree → Request → Bool
is_dir_onto_other t (asks.Move from to) = option_map_or (λ gone. is_dir (look t) (node_at t (names_of from)) && not (is_dir (look t) gone)) (standing_at t (names_of to)) false
is_dir_onto_other t r = false

-- write, cut or chmod of a Dir or Link; or a File or Link is moved onto a Dir
abbrev pub needs_file : Tree → Request → Bool
needs_file t (asks.Move from to) = option_map_or (λ gone. not (is_dir (look t) (node_at t (names_of from))) && is_dir (look t) gone) (standing_at t (names_of to)) false
needs_file t (asks.Write path offset bytes) = not (is_file t (node_at t (names_of path)))
needs_file t (asks.Cut path size) = not (is_file t (node_at t (names_of path)))
needs_file t (asks.Exec path on) = not (is_file t (node_at t (names_of path)))
needs_file t r = false

-- a create's place is taken, or is the root
abbrev pub is_taken : Tree → Request → Bool
is_taken t (asks.Mkdir path) = is_some (standing_at t (names_of path))
is_taken t (asks.Mkfile path) = is_some (standing_at t (names_of path))
is_taken t (asks.Link path target) = is_some (standing_at t (names_of path))
is_taken t r = false

-- a Dir with a child is removed, or a Dir is moved onto another Dir that has a child
abbrev pub drops_children : Tree → Request → Bool
drops_children t (asks.Remove path) = is_dir (look t) (node_at t (names_of path)) && has_child t (node_at t (names_of path))
drops_children t (asks.Move from to) = option_map_or (λ gone. is_dir (look t) (node_at t (names_of from)) && (is_dir (look t) gone && (not (same_node gone (node_at t (names_of from))) && has_child t gone))) (standing_at t (names_of to)) false
drops_children t r = false

-- a Dir is moved to a place whose parent is itself or below itself, or the root is removed
abbrev pub goes_inside : Tree → Request → Bool
goes_inside t (asks.Remove path) = same_node (node_at t (names_of path)) root
goes_inside t (asks.Move from to) = is_dir (look t) (node_at t (names_of from)) && is_below t (node_at t (names_of from)) (parent_at t (names_of to))
goes_inside t r = false

-- a write's end or a cut's length exceeds 16,777,216; a write has more than 65,536 bytes; a target has more than 1,024
abbrev pub is_too_big : Request → Bool
is_too_big (asks.Link path target) = nat_lt 1024 (length target)
is_too_big (asks.Write path offset bytes) = nat_lt 16777216 (offset + length bytes) || nat_lt 65536 (length bytes)
is_too_big (asks.Cut path size) = nat_lt 16777216 size
is_too_big r = false

-- a create on 32,768 rows or more
abbrev pub fills_tree : Tree → Request → Bool
fills_tree t (asks.Mkdir path) = nat_le 32768 (len t)
fills_tree t (asks.Mkfile path) = nat_le 32768 (len t)
fills_tree t (asks.Link path target) = nat_le 32768 (len t)
fills_tree t r = false

abbrev pub applies : Tree → Request → PlanFault → Bool
applies t r BadPath = has_bad_path r
applies t r TooDeep = is_too_deep r
applies t r NotFound = misses_child t r
applies t r NotDir = meets_no_dir t r || (goes_into_no_dir t r || is_dir_onto_other t r)
applies t r NotFile = needs_file t r
applies t r Exists = is_taken t r
applies t r NotEmpty = drops_children t r
applies t r Inside = goes_inside t r
applies t r TooBig = is_too_big r
applies t r TreeFull = fills_tree t r
applies t r Memory = false

-- ---- what a request comes to

-- the refusals in their order
abbrev pub refusals : List PlanFault
refusals = BadPath ∷ TooDeep ∷ NotFound ∷ NotDir ∷ NotFile ∷ Exists ∷ NotEmpty ∷ Inside ∷ TooBig ∷ TreeFull ∷ []

-- the first refusal that applies, else the answer
abbrev pub unless_refused : {A : Type 0} → (PlanFault → Bool) → List PlanFault → Result A PlanFault → Result A PlanFault
unless_refused test [] answer = answer
unless_refused test (e ∷ es) answer = if test e then Err e else unless_refused test es answer

-- a move onto the row itself, a write of no bytes, a cut to the present length, a chmod or touch to the present value
abbrev pub is_as_asked : Tree → Request → Bool
is_as_asked t (asks.Move from to) = option_map_or (λ gone. same_node gone (node_at t (names_of from))) (standing_at t (names_of to)) false
is_as_asked t (asks.Write path offset bytes) = nat_eq (length bytes) 0
is_as_asked t (asks.Cut path size) = nat_eq size (length (row_at t (node_at t (names_of path))).bytes)
is_as_asked t (asks.Exec path on) = beq (row_at t (node_at t (names_of path))).exec on
is_as_asked t (asks.Touch path mtime) = nat_eq (row_at t (node_at t (names_of path))).mtime mtime
is_as_asked t r = false

-- the change that is asked for
abbrev pub change_asked : Tree → Request → Change
change_asked t (asks.Mkdir path) = Create (parent_at t (names_of path)) (last_of (names_of path)) Dir []
change_asked t (asks.Mkfile path) = Create (parent_at t (names_of path)) (last_of (names_of path)) File []
change_asked t (asks.Link path target) = Create (parent_at t (names_of path)) (last_of (names_of path)) Link target
change_asked t (asks.Remove path) = Remove (node_at t (names_of path))
change_asked t (asks.Move from to) = Rename (node_at t (names_of from)) (parent_at t (names_of to)) (last_of (names_of to)) (standing_at t (names_of to))
change_asked t (asks.Write path offset bytes) = Sync (node_at t (names_of path)) offset bytes (max (length (row_at t (node_at t (names_of path))).bytes) (offset + length bytes))
change_asked t (asks.Cut path size) = Sync (node_at t (names_of path)) 0 [] size
change_asked t (asks.Exec path on) = Exec (node_at t (names_of path)) on
change_asked t (asks.Touch path mtime) = Touch (node_at t (names_of path)) mtime

abbrev pub plan_by_table : Tree → Request → ℕ → ℕ → ℕ → Result Planned PlanFault
plan_by_table t r device seq moment = unless_refused (applies t r) refusals (if is_as_asked t r then Ok Same else Ok (Made (record { device = device; seq = seq; moment = moment; change = change_asked t r })))
