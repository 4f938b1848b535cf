use Rattle.std.proofs.Common.{◌≡◌, take}
use Rattle.kb_rules.specs.Merge.{split_among}
use Rattle.kb_rules.specs.Code.{row_in, ids_of}
use Rattle.kb_rules.proofs.splits.splits_of.Given as goal

abbrev pub invariant-loop-row : goal.invariant-loop-row
invariant-loop-row l = l.splits.items ≡ split_among (row_in l.base) (row_in l.merged) (row_in l.ours) (ids_of (take l.row-index l.merged))
