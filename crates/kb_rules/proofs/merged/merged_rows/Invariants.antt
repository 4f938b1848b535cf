use Rattle.std.proofs.Common.{◌≡◌, take}
use Rattle.std.specs.List.{filter_map}
use Rattle.kb_rules.specs.Naming.{name_of, row_by}
use Rattle.kb_rules.proofs.merged.merged_rows.Given as goal

abbrev pub invariant-loop-q : goal.invariant-loop-q
invariant-loop-q l = l.rows.items ≡ filter_map (λ q. row_by l.seats.sides.now (name_of l.names q) q) (take l.q-index l.ids)
