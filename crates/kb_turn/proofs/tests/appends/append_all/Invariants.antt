use Rattle.kb_turn.specs.Passes.{IsPassOf, IsSamePass}
use Rattle.kb_turn.proofs.tests.appends.append_all.Given as goal

abbrev pub invariant-loop-x : goal.invariant-loop-x
invariant-loop-x g l = record {
  pass : IsPassOf l.turn l.pass;
  same : IsSamePass l.initial.pass l.pass;
}
