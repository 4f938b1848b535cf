-- What a show answers.
use Rattle.std.specs.Prelude.{◌≡◌, ℕ, zero, suc, List, [], ◌∷◌, ◌++◌, take, drop, if◌then◌else◌, Option, Some, None, Result, Ok, Err}
use Rattle.std.specs.Option.{option_map_or}
use Rattle.std.specs.List.{flat_map}
use Rattle.std.specs.FinMap.{len}
use Rattle.kb_name.specs.declared.ids.NodeId.{NodeId}
use Rattle.kb_name.specs.declared.paths.PathFault.{PathFault}
use Rattle.kb_name.specs.declared.paths.PathFault.TheVariants as paths
use Rattle.kb_name.specs.Nodes.{root}
use Rattle.kb_name.specs.Paths.{path_of}
use Rattle.kb_ops.specs.declared.rows.Row.{Row}
use Rattle.kb_ops.specs.declared.rows.WalkFault.{WalkFault}
use Rattle.kb_ops.specs.declared.rows.WalkFault.TheVariants as walk
use Rattle.kb_ops.specs.declared.requests.Show.{Show}
use Rattle.kb_ops.specs.declared.requests.Show.TheVariants as asks
use Rattle.kb_ops.specs.declared.requests.Shown.{Shown}
use Rattle.kb_ops.specs.declared.requests.Shown.TheVariants as tells
use Rattle.kb_ops.specs.declared.shown.Placed.{Placed}
use Rattle.kb_ops.specs.Rows.{is_dir_row}
use Rattle.kb_ops.specs.Trees.{Tree, look}
use Rattle.kb_ops.specs.Find.{find_from}
use Rattle.kb_ops.specs.Plan.{◌>>=◌}
use Rattle.kb_apply.specs.declared.shows.ShowFault.{ShowFault}
use Rattle.kb_apply.specs.declared.shows.ShowFault.TheVariants.{BadPath, TooDeep, NotFound, NotDir, NotFile, Memory}
use Rattle.kb_apply.specs.Children.{children}

abbrev pub path_fault : PathFault → ShowFault
path_fault paths.BadPath = BadPath
path_fault paths.TooDeep = TooDeep
path_fault paths.Memory = Memory

abbrev pub walk_fault : WalkFault → ShowFault
walk_fault walk.NotDir = NotDir
walk_fault walk.NotFound = NotFound

abbrev pub read : {A : Type 0} → Result A PathFault → Result A ShowFault
read (Ok x) = Ok x
read (Err e) = Err (path_fault e)

abbrev pub refused : {A : Type 0} → Result A WalkFault → Result A ShowFault
refused (Ok x) = Ok x
refused (Err e) = Err (walk_fault e)

-- the row that a path's word leads to
unfoldable pub row_at : Tree → List ℕ → Result Row ShowFault
row_at t word = do
  names ← read (path_of word)
  node ← refused (find_from t root names)
  option_map_or (λ r. Ok r) (look t node) (Err NotFound)

-- all bytes, or those from an offset on, at most so many
abbrev pub bytes_in : Option (ℕ × ℕ) → List ℕ → List ℕ
bytes_in None bytes = bytes
bytes_in (Some range) bytes = take range.1 (drop range.0 bytes)

-- the bytes of a File, or the target of a Link
abbrev pub bytes_of : Option (ℕ × ℕ) → Row → Result (List ℕ) ShowFault
bytes_of range r = if is_dir_row r then Err NotFile else Ok (bytes_in range r.bytes)

-- the children of a Dir
abbrev pub children_of : Tree → Row → Result (List Row) ShowFault
children_of t r = if is_dir_row r then Ok (children t r.id) else Err NotDir

-- the rows so many levels below a row with these names, each before the rows below it, and children in byte order of names
abbrev pub rows_below : ℕ → Tree → List (List ℕ) → NodeId → List Placed
rows_below zero t names q = []
rows_below (suc levels) t names q = flat_map (λ (r : Row). record { names = names ++ r.name ∷ []; row = r } ∷ rows_below levels t (names ++ r.name ∷ []) r.id) (children t q)

-- all rows but the root's, of which none is more levels below the root than there are rows
abbrev pub rows_of : Tree → List Placed
rows_of t = rows_below (len t) t [] root

-- what is shown of a tree, with the known revision and the number of queued operations beside it
abbrev pub shown_of : Tree → Show → ℕ → ℕ → Result Shown ShowFault
shown_of t (asks.Cat path range) at queue = row_at t path >>= λ r. bytes_of range r >>= λ bytes. Ok (tells.Cat bytes)
shown_of t (asks.Ls path) at queue = row_at t path >>= λ r. children_of t r >>= λ rows. Ok (tells.Ls rows)
shown_of t asks.Tree at queue = Ok (tells.Tree at queue (rows_of t))
shown_of t (asks.Stat path) at queue = row_at t path >>= λ r. Ok (tells.Stat r)

-- a call may always want memory; else it answers so
abbrev pub FailsShow : {A : Type 0} → ShowFault → Result A ShowFault → Type 0
FailsShow Memory shown = Unit {0}
FailsShow e shown = shown ≡ Err e

abbrev pub GivesShow : {X A : Type 0} → (X → A) → Result X ShowFault → Result A ShowFault → Type 0
GivesShow view (Ok x) shown = shown ≡ Ok (view x)
GivesShow view (Err e) shown = FailsShow e shown
