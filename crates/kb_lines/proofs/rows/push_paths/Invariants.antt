use Rattle.std.proofs.Common.{◌≡◌, ◌++◌, take}
use Rattle.std.specs.List.{flat_map}
use Rattle.std.specs.String.{string_bytes}
use Rattle.kb_lines.specs.RowTexts.{placed_row}
use Rattle.kb_lines.proofs.rows.push_paths.Given as goal

abbrev pub invariant-loop-placed : goal.invariant-loop-placed
invariant-loop-placed l = string_bytes l.text ≡ string_bytes l.initial.text ++ flat_map placed_row (take l.placed-index l.rows)
