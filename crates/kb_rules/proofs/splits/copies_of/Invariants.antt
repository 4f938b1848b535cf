use Rattle.std.proofs.Common.{◌≡◌, ◌+◌, ◌++◌, drop}
use Rattle.kb_rules.specs.Code.{row_in, copies_of}
use Rattle.kb_rules.proofs.splits.copies_of.Given as goal

abbrev pub invariant-loop-i : goal.invariant-loop-i
invariant-loop-i l = l.copies.items ++ copies_of l.stamp (l.i + 1) (drop l.i l.splits) (row_in l.ours) ≡ copies_of l.stamp 1 l.splits (row_in l.ours)
