use Rattle.std.proofs.Common.{subst}
use Rattle.std.specs.List.{AllByRecursion}
use Rattle.kb_device.specs.Left.{StaysBeside, IsStillThere}
use Rattle.kb_device.proofs.MergedPointers.{of_tree, each_row}
use Rattle.kb_device.proofs.merged_pointers.left_by_merge.Goals as goal

pub returns : goal.returns
returns c q p is =
    let old = c.args.old.now.tree in
    let new = c.args.new.now.tree in
    let changed = c.forget_all_changed.ensures q p is in
    let gone = c.forget_all_gone.ensures q p changed.0 in (
      c.in_ok-left.ensures q p gone.0,
      each_row old new q
          (of_tree (StaysBeside old q) c.in_ok-new_rows.new_rows.items new c.in_ok-new_rows.ensures.kept.rise c.in_ok-new_rows.ensures.tree (subst (AllByRecursion (StaysBeside old q)) c.as_slice-3.ensures.value changed.1))
          (of_tree (IsStillThere old new q) c.in_ok-old_rows.old_rows.items old c.in_ok-old_rows.ensures.kept.rise c.in_ok-old_rows.ensures.tree (subst (AllByRecursion (IsStillThere old new q)) c.as_slice-2.ensures.value gone.1)),
    )
