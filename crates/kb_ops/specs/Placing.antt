-- A row with its path is data.
use Rattle.std.specs.Prelude.{ℕ, List, refl}
use Rattle.std.specs.Coded.{Coded, code_by, coded×, coded_ℕ, coded_list}
use Rattle.kb_ops.specs.declared.rows.Row.{Row}
use Rattle.kb_ops.specs.declared.shown.Placed.{Placed}
use Rattle.kb_ops.specs.Codes.{coded_row}

abbrev pub coded_placed : Coded Placed
coded_placed = code_by (List (List ℕ) × Row) (coded× (coded_list (coded_list coded_ℕ)) coded_row) (λ p. (p.names, p.row)) (λ c. record { names = c.0; row = c.1 }) (λ _. refl)
