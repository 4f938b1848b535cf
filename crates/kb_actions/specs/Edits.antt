-- The edits that make one look of another.
use Rattle.std.specs.Prelude.{◌≡◌, Some, List, [], ◌∷◌, ◌++◌, Option, if◌then◌else◌}
use Rattle.kb_name.specs.declared.ids.NodeId.{NodeId}
use Rattle.kb_ops.specs.declared.rows.Row.{Row}
use Rattle.kb_ops.specs.Rows.{Look}
use Rattle.kb_opchains.specs.declared.view.Edit.{Edit}
use Rattle.kb_opchains.specs.Nets.{same_rows}

-- one where the rows differ
abbrev pub edit_if : NodeId → Option Row → Option Row → List Edit
edit_if q old new = if same_rows old new then [] else (record { id = q; row = new } ∷ [])

abbrev pub edits_in : Look → Look → List NodeId → List Edit
edits_in old new [] = []
edits_in old new (q ∷ ids) = edit_if q (old q) (new q) ++ edits_in old new ids

-- an edit's row is under its id
abbrev pub IsOfIt : Edit → Type 0
IsOfIt e = (r : Row) → e.row ≡ Some r → r.id ≡ e.id
