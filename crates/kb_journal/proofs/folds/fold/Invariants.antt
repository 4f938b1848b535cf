use Rattle.kb_log.specs.LogList.{lists_of}
use Rattle.kb_journal.specs.Held.{state_of}
use Rattle.kb_journal.specs.State.{Leads, empty}
use Rattle.kb_journal.proofs.folds.fold.Given as goal

abbrev pub invariant-loop-payload : goal.invariant-loop-payload
invariant-loop-payload l = Leads empty (lists_of l.yielded) (state_of l.held)
