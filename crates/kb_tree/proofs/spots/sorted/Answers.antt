use Rattle.std.proofs.Common.{rules}
use Rattle.std.proofs.lemmas.Fn.{always_returns_same}
use Rattle.std.proofs.lemmas.List.MinMax.{ranks_by}
use Rattle.std.specs.Ordering.{is_lt}
use Rattle.kb_ops.specs.Spots.{spot_cmp}
use Rattle.kb_ops.proofs.Spots.{spots_total}
use Rattle.kb_tree.specs.Slots.{spot_in}
use Rattle.kb_tree.proofs.spots.sorted.Goals as goal

pub returns-clause-sorted : goal.returns-clause-sorted
returns-clause-sorted c =
    let rows = c.args.rows.now in
    c.in_ok-sort_by.ensures.sorted (λ a b. is_lt (spot_cmp (spot_in rows a).0 (spot_in rows b).0)) (ranks_by spots_total (λ s. (spot_in rows s).0)) (always_returns_same _ _ _ (λ a r g called. (search rules, search rules)))
