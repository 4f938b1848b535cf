use Rattle.std.proofs.Common.{◌+◌, ◌<◌, length, drop, sym, ap, ◌∙◌, arith}
use Rattle.kb_name.specs.declared.ids.NodeId.{NodeId}
use Rattle.kb_rules.specs.Merge.{copy_ids, put_id, put_ids}
use Rattle.kb_rules.proofs.Puts.{copies_step}
use Rattle.kb_rules.proofs.splits.put_copies.Goals as goal

pub loop-i-preserved : goal.loop-i-preserved
loop-i-preserved c =
    let within : c.loop-i.i < length c.args.splits.now = omega arith in
    ap (put_ids (copy_ids c.args.stamp.now ((c.loop-i.i + 1) + 1) (drop (c.loop-i.i + 1) c.args.splits.now))) (c.in_ok-put.ensures ∙ ap (λ (k : NodeId). put_id k c.loop-i.ids.keys) c.copy_id.ensures)
    ∙ sym (copies_step c.args.stamp.now c.args.splits.now c.loop-i.i c.loop-i.ids.keys within)
    ∙ c.loop-i.invariant
