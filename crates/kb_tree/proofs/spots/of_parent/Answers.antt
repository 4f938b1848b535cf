use Rattle.std.proofs.Common.{◌≡◌, ◌-◌, ℕ, Bool, take, drop, ◌∙◌, rules, arith}
use Rattle.std.proofs.lemmas.List.Sorted.{IsPartitionPoint-from_clause}
use Rattle.kb_ops.specs.Sorted.{count_front}
use Rattle.kb_ops.proofs.Sorted.{front_is}
use Rattle.kb_tree.proofs.Parents.{before, until, before_parted, until_parted, before_until, range_is}
use Rattle.kb_tree.proofs.spots.of_parent.Goals as goal

from_is : (c : goal.After-partition_point-until) → c.partition_point-from.result ≡ count_front (before c.args.rows.now c.args.parent) c.args.slots.now
from_is c =
    let rows = c.args.rows.now in
    let test : ℕ → Bool = before rows c.args.parent in
    let point = IsPartitionPoint-from_clause test c.args.slots.now c.partition_point-from.result c.partition_point-from.ensures.partitioned (before_parted rows c.args.parent c.args.slots.now c.requires) (λ a r q called. search rules) in
    front_is test c.args.slots.now c.partition_point-from.result c.partition_point-from.ensures.bound point

until_is : (c : goal.After-partition_point-until) → c.partition_point-until.result ≡ count_front (until c.args.rows.now c.args.parent) c.args.slots.now
until_is c =
    let rows = c.args.rows.now in
    let test : ℕ → Bool = until rows c.args.parent in
    let point = IsPartitionPoint-from_clause test c.args.slots.now c.partition_point-until.result c.partition_point-until.ensures.partitioned (until_parted rows c.args.parent c.args.slots.now c.requires) (λ a r q called. search rules) in
    front_is test c.args.slots.now c.partition_point-until.result c.partition_point-until.ensures.bound point

pub slice_bounds-result-count : goal.slice_bounds-result-count
slice_bounds-result-count c = omega (arith, from_is c, until_is c, before_until c.args.rows.now c.args.parent c.args.slots.now)

pub slice_bounds-result-start : goal.slice_bounds-result-start
slice_bounds-result-start c = omega (arith, from_is c, until_is c, before_until c.args.rows.now c.args.parent c.args.slots.now, c.partition_point-until.ensures.bound)

pub returns : goal.returns
returns c =
    let rows = c.args.rows.now in
    let slots = c.args.slots.now in
    let before_it : ℕ → Bool = before rows c.args.parent in
    let until_it : ℕ → Bool = until rows c.args.parent in
    let from : c.partition_point-from.result ≡ count_front before_it slots = front_is before_it slots c.partition_point-from.result c.partition_point-from.ensures.bound (IsPartitionPoint-from_clause before_it slots c.partition_point-from.result c.partition_point-from.ensures.partitioned (before_parted rows c.args.parent slots c.requires) (λ a r q called. search rules)) in
    let up_to : c.partition_point-until.result ≡ count_front until_it slots = front_is until_it slots c.partition_point-until.result c.partition_point-until.ensures.bound (IsPartitionPoint-from_clause until_it slots c.partition_point-until.result c.partition_point-until.ensures.partitioned (until_parted rows c.args.parent slots c.requires) (λ a r q called. search rules)) in
    (λ i. take (up_to i - from i) (drop (from i) slots))
    ∙ range_is rows c.args.parent slots c.requires
