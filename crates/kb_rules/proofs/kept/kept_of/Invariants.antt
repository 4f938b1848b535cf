use Rattle.kb_rules.specs.Code.{three_in, AreSides}
use Rattle.kb_rules.proofs.Marks.{AreMarked}
use Rattle.kb_rules.proofs.kept.kept_of.Given as goal

abbrev pub invariant-loop-i : goal.invariant-loop-i
invariant-loop-i l = (a : AreSides l.sides) → AreMarked a.n a.m (three_in l.sides) a.can a.ids l.kept.items l.i
