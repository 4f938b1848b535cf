use Rattle.std.proofs.Common.{◌≡◌, take}
use Rattle.kb_audit.proofs.holding.are_same.Given as goal

abbrev pub invariant-rows : goal.invariant-rows
invariant-rows l = take l.i l.a ≡ take l.i l.b
