use Rattle.std.proofs.Common.{◌≡◌, ◌+◌, drop, length}
use Rattle.std.specs.Prelude.{sum_by}
use Rattle.kb_log.specs.LogList.{lists_of}
use Rattle.kb_journal.proofs.held.records_len.Given as goal

abbrev pub invariant-loop-i : goal.invariant-loop-i
invariant-loop-i l = l.bytes + sum_by (λ (p : _). 5 + length p) (lists_of (drop l.i l.texts)) ≡ sum_by (λ (p : _). 5 + length p) (lists_of l.texts)
