use Rattle.std.proofs.Common.{◌≡◌, drop}
use Rattle.kb_rules.specs.Merge.{put_ids}
use Rattle.kb_rules.specs.Code.{ids_of}
use Rattle.kb_rules.proofs.splits.put_rows.Given as goal

abbrev pub invariant-loop-row : goal.invariant-loop-row
invariant-loop-row l = put_ids (ids_of (drop l.row-index l.rows)) l.ids.keys ≡ put_ids (ids_of l.rows) l.fn.ids.keys
