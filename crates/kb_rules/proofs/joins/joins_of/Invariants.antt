use Rattle.kb_rules.specs.Code.{AreSides}
use Rattle.kb_rules.proofs.JoinWalks.{AreSettled}
use Rattle.kb_rules.proofs.joins.joins_of.Given as goal

abbrev pub invariant-loop-i : goal.invariant-loop-i
invariant-loop-i l = (a : AreSides l.sides) → AreSettled l.sides a l.known.items l.i
