use Rattle.std.proofs.Common.{◌≡◌, true, map, sym, ap, ◌∙◌, rules}
use Rattle.std.proofs.lemmas.List.Sorted.{IsPartitionPoint-from_clause}
use Rattle.std.specs.Ordering.{is_lt}
use Rattle.std.specs.FinMap.Entries as entries
use Rattle.kb_name.specs.Nodes.{node_cmp}
use Rattle.kb_ops.specs.Lists.{keyed}
use Rattle.kb_ops.proofs.Looks.{nodes_total, exact_nodes}
use Rattle.kb_ops.proofs.Sorted.{parted, place_front, front_is}
use Rattle.kb_tree.specs.Slots.{row_in}
use Rattle.kb_tree.proofs.Kept.{place_keyed, keyed_slots}
use Rattle.kb_tree.proofs.slots.place.Goals as goal

pub returns-clause-is : goal.returns-clause-is
returns-clause-is c =
    let k = c.args.id in
    let rows = c.args.rows.now in
    let slots = c.args.slots.now in
    let up : entries.is_sorted node_cmp (map (λ slot. keyed (row_in rows slot)) slots) ≡ true = ap (entries.is_sorted node_cmp) (sym (keyed_slots rows slots)) ∙ c.requires in
    let point = IsPartitionPoint-from_clause (λ slot. is_lt (node_cmp (row_in rows slot).id k)) slots c.partition_point.result c.partition_point.ensures.partitioned (parted node_cmp nodes_total exact_nodes (λ slot. keyed (row_in rows slot)) k slots up) (λ a r q called. search rules) in
    front_is (λ slot. is_lt (node_cmp (row_in rows slot).id k)) slots c.partition_point.result c.partition_point.ensures.bound point
    ∙ place_front node_cmp nodes_total exact_nodes (λ slot. keyed (row_in rows slot)) k slots
    ∙ place_keyed rows slots k
