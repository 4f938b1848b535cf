use Rattle.std.proofs.Common.{◌≤◌, [], take}
use Rattle.kb_rules.specs.Names.{give_all}
use Rattle.kb_rules.specs.Naming.{named_three}
use Rattle.kb_rules.proofs.NamingFacts.{AreGiven}
use Rattle.kb_rules.proofs.names.give_all.Given as goal

abbrev pub invariant-loop-q : goal.invariant-loop-q
invariant-loop-q l = record {
  few : l.naming.count ≤ l.q-index;
  given : AreGiven l.seats.sides.now (give_all (named_three l.seats.sides.now) (take l.q-index l.ids) []) l.naming.taken l.naming.names l.naming.count;
}
