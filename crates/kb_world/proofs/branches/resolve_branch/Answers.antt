use Rattle.std.proofs.Common.{◌+◌, length, arith}
use Rattle.kb_world.proofs.Looked.{told_few}
use Rattle.kb_world.proofs.branches.resolve_branch.Goals as goal

pub returns-clause-looks : goal.returns-clause-looks
returns-clause-looks c = λ plain.
    let branch = c.args.branch.now in
    told_few (length branch.merged_ops.now + length branch.our_ops.now) branch.base.now.tree branch.merged.now.tree branch.ours.now.tree _ _ _ c.args.stamp.now _ _ _ _ c.saturating_add-looked-2.result
    c.new-base.ensures.table c.new-merged.ensures.table c.new-ours.ensures.table c.new-base.ensures.count c.new-merged.ensures.count c.new-ours.ensures.count (c.in_ok-edits.ensures.looks plain)
    (let base = c.count.ensures in let merged = c.count-2.ensures in let both = c.saturating_add-looked.ensures in let ours = c.count-3.ensures in let all = c.saturating_add-looked-2.ensures in omega (arith, base, merged, both, ours, all))
