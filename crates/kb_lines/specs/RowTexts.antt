-- How a row of a tree is printed.
use Rattle.std.specs.Prelude.{ℕ, Bool, List, [], ◌∷◌, ◌++◌, length, codes, decimal, if◌then◌else◌}
use Rattle.std.specs.List.{flat_map}
use Rattle.kb_name.specs.Texts.{escaped}
use Rattle.kb_name.specs.declared.ids.NodeId.{NodeId}
use Rattle.kb_ops.specs.declared.values.Kind.{Kind}
use Rattle.kb_ops.specs.declared.values.Kind.TheVariants.{Dir, File, Link}
use Rattle.kb_ops.specs.declared.rows.Row.{Row}
use Rattle.kb_ops.specs.declared.shown.Placed.{Placed}

abbrev pub exec_text : Bool → List ℕ
exec_text on = if on then codes "x" else codes "-"

abbrev pub kind_text : Kind → List ℕ
kind_text Dir = codes "d"
kind_text File = codes "f"
kind_text Link = codes "l"

-- what stands behind a row's name or path: its time, before it a file's size and executable bit, and a link's target
abbrev pub rest_of : Kind → List ℕ → Bool → List ℕ
rest_of Dir bytes exec = []
rest_of File bytes exec = codes " " ++ decimal (length bytes) ++ codes " " ++ exec_text exec
rest_of Link bytes exec = codes " =" ++ escaped bytes

abbrev pub row_text : List ℕ → Row → List ℕ
row_text name r = kind_text r.kind ++ codes " " ++ name ++ rest_of r.kind r.bytes r.exec ++ codes " " ++ decimal r.mtime ++ codes "\n"

-- a row with its name
abbrev pub named_row : Row → List ℕ
named_row r = row_text (escaped r.name) r

-- `/` and a name, repeated
abbrev pub path_text : List (List ℕ) → List ℕ
path_text names = flat_map (λ name. 47 ∷ escaped name) names

-- a row with its path
abbrev pub placed_row : Placed → List ℕ
placed_row p = row_text (path_text p.names) p.row

abbrev pub id_text : NodeId → List ℕ
id_text id = decimal id.device ++ codes "." ++ decimal id.seq ++ codes "." ++ decimal id.part

abbrev pub stat_text : Row → List ℕ
stat_text r = codes "stat " ++ kind_text r.kind ++ codes " " ++ id_text r.id ++ codes " size " ++ decimal (length r.bytes) ++ codes " exec " ++ exec_text r.exec ++ codes " mtime " ++ decimal r.mtime
