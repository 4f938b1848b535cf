use Rattle.std.proofs.Common.{◌≡◌, ◌++◌, vec_len}
use Rattle.kb_snap.specs.Reads.{stacked}
use Rattle.kb_snap.proofs.loading.wait.Given as goal

-- what waits already, and behind it what is still to wait
abbrev pub invariant-loop-entry : goal.invariant-loop-entry
invariant-loop-entry l = l.waiting.items ++ stacked l.parent l.block l.entries.items ≡ l.fn.waiting.items ++ stacked l.parent l.block l.fn.entries.items

abbrev pub decreases-loop-entry : goal.decreases-loop-entry
decreases-loop-entry l = vec_len l.entries
