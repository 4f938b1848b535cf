use Rattle.std.proofs.Common.{◌≡◌, map, take}
use Rattle.kb_rules.specs.Code.{up_of, seat_in}
use Rattle.kb_rules.proofs.kept.ups_of.Given as goal

abbrev pub invariant-loop-i : goal.invariant-loop-i
invariant-loop-i l = l.ups.items ≡ map (up_of l.sides.ids.now (seat_in l.sides)) (take l.i l.sides.ids.now)
