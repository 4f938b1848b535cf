use Rattle.std.proofs.Common.{◌≡◌, true, length}
use Rattle.kb_top.proofs.tests.journal.journal_of.Given as goal

abbrev pub invariant-loop-payload : goal.invariant-loop-payload
invariant-loop-payload l = record {
  is_open : l.log.is_open ≡ true;
  size : length l.log.disk.now ≡ 4096;
}
