use Rattle.std.proofs.Common.{◌≡◌, ◌+◌, drop}
use Rattle.kb_rules.specs.Merge.{copy_ids, put_ids}
use Rattle.kb_rules.proofs.splits.put_copies.Given as goal

abbrev pub invariant-loop-i : goal.invariant-loop-i
invariant-loop-i l = put_ids (copy_ids l.stamp (l.i + 1) (drop l.i l.splits)) l.ids.keys ≡ put_ids (copy_ids l.stamp 1 l.splits) l.fn.ids.keys
