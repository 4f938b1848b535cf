use Rattle.std.proofs.Common.{◌≡◌, true, map, ◌∙◌, rules}
use Rattle.std.proofs.lemmas.List.Sorted.{IsPartitionPoint-from_clause}
use Rattle.std.specs.Ordering.{is_lt}
use Rattle.std.specs.FinMap.Entries as entries
use Rattle.kb_name.specs.declared.ids.NodeId.{NodeId}
use Rattle.kb_name.specs.Nodes.{node_cmp}
use Rattle.kb_ops.proofs.Looks.{nodes_total, exact_nodes}
use Rattle.kb_ops.proofs.Sorted.{parted, place_front, front_is}
use Rattle.kb_rules.proofs.Positions.{twice, ascend_sorted, before_place}
use Rattle.kb_rules.proofs.found.ids_before.Goals as goal

pub returns : goal.returns
returns c =
    let k = c.args.id in
    let ids = c.args.ids.now in
    let up : entries.is_sorted node_cmp (map twice ids) ≡ true = ascend_sorted ids ∙ c.requires in
    let point = IsPartitionPoint-from_clause (λ (q : NodeId). is_lt (node_cmp q k)) ids c.partition_point.result c.partition_point.ensures.partitioned (parted node_cmp nodes_total exact_nodes twice k ids up) (λ a r q called. search rules) in
    front_is (λ (q : NodeId). is_lt (node_cmp q k)) ids c.partition_point.result c.partition_point.ensures.bound point
    ∙ place_front node_cmp nodes_total exact_nodes twice k ids
    ∙ before_place k ids
