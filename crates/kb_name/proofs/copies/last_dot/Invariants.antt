use Rattle.std.proofs.Common.{◌≡◌, [], drop}
use Rattle.kb_name.specs.Conflicted.{from_last_dot}
use Rattle.kb_name.proofs.copies.last_dot.Given as goal

abbrev pub invariant-loop-i : goal.invariant-loop-i
invariant-loop-i l = from_last_dot (drop l.i l.name) ≡ []
