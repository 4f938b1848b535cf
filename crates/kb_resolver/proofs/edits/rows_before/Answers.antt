use Rattle.std.proofs.Common.{rules}
use Rattle.std.proofs.lemmas.List.Sorted.{IsPartitionPoint-from_clause}
use Rattle.std.specs.Ordering.{is_lt}
use Rattle.kb_ops.specs.declared.rows.Row.{Row}
use Rattle.kb_name.specs.Nodes.{node_cmp}
use Rattle.kb_ops.proofs.Lists.{parted, place_is}
use Rattle.kb_resolver.proofs.edits.rows_before.Goals as goal

pub returns : goal.returns
returns c =
    let k = c.args.id in
    let rows = c.args.rows.now in
    place_is k rows c.partition_point.result c.partition_point.ensures.bound
    (IsPartitionPoint-from_clause (λ (r : Row). is_lt (node_cmp r.id k)) rows c.partition_point.result c.partition_point.ensures.partitioned (parted k rows c.requires) (λ a r q called. search rules))
