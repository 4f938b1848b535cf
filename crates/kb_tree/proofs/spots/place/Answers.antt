use Rattle.std.proofs.Common.{◌∙◌, rules}
use Rattle.std.proofs.lemmas.List.Sorted.{IsPartitionPoint-from_clause}
use Rattle.std.specs.Ordering.{is_lt}
use Rattle.kb_ops.specs.Spots.{Spot, spot_cmp}
use Rattle.kb_ops.proofs.Sorted.{parted, place_front, front_is}
use Rattle.kb_ops.proofs.Spots.{spots_total, exact_spots}
use Rattle.kb_tree.specs.Slots.{spot_in}
use Rattle.kb_tree.proofs.spots.place.Goals as goal

pub returns-clause-is : goal.returns-clause-is
returns-clause-is c =
    let rows = c.args.rows.now in
    let k : Spot = (c.args.parent, c.args.name.now) in
    let slots = c.args.slots.now in
    let point = IsPartitionPoint-from_clause (λ slot. is_lt (spot_cmp (spot_in rows slot).0 k)) slots c.partition_point.result c.partition_point.ensures.partitioned (parted spot_cmp spots_total exact_spots (spot_in rows) k slots c.requires) (λ a r q called. search rules) in
    front_is (λ slot. is_lt (spot_cmp (spot_in rows slot).0 k)) slots c.partition_point.result c.partition_point.ensures.bound point
    ∙ place_front spot_cmp spots_total exact_spots (spot_in rows) k slots
