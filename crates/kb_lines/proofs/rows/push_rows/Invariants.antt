use Rattle.std.proofs.Common.{◌≡◌, ◌++◌, take}
use Rattle.std.specs.List.{flat_map}
use Rattle.std.specs.String.{string_bytes}
use Rattle.kb_lines.specs.RowTexts.{named_row}
use Rattle.kb_lines.proofs.rows.push_rows.Given as goal

abbrev pub invariant-loop-row : goal.invariant-loop-row
invariant-loop-row l = string_bytes l.text ≡ string_bytes l.initial.text ++ flat_map named_row (take l.row-index l.rows)
