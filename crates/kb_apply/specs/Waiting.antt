-- Rows that wait to be listed, the next one last.
use Rattle.std.specs.Prelude.{ℕ, ◌-◌, List, [], ◌∷◌, ◌++◌, length}
use Rattle.std.specs.FinMap.{len}
use Rattle.kb_ops.specs.declared.rows.Row.{Row}
use Rattle.kb_ops.specs.declared.shown.Placed.{Placed}
use Rattle.kb_ops.specs.Trees.{Tree}
use Rattle.kb_apply.specs.Shows.{rows_below}

-- a row below names
abbrev pub placed : List (List ℕ) → Row → Placed
placed names r = record { names = names ++ r.name ∷ []; row = r }

-- the first one last
abbrev pub stacked : List Placed → List Placed
stacked [] = []
stacked (p ∷ rows) = stacked rows ++ p ∷ []

-- a row and all below it
abbrev pub with_below : Tree → Placed → List Placed
with_below t p = p ∷ rows_below (len t - length p.names) t p.names p.row.id

-- what is listed of the rows that wait
abbrev pub still_listed : Tree → List Placed → List Placed
still_listed t [] = []
still_listed t (p ∷ waiting) = still_listed t waiting ++ with_below t p
