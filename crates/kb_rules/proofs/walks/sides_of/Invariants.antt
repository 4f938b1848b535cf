use Rattle.std.proofs.Common.{◌≡◌, map, take}
use Rattle.kb_rules.specs.Code.{side_in}
use Rattle.kb_rules.proofs.walks.sides_of.Given as goal

abbrev pub invariant-loop-i : goal.invariant-loop-i
invariant-loop-i l = l.table.items ≡ map (side_in l.sides) (take l.i l.sides.ids.now)
