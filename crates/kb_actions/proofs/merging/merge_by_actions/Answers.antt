use Rattle.std.proofs.Common.{◌≡◌, ◌≤◌, ◌+◌, true, length, ap, ◌∙◌, arith}
use Rattle.kb_ops.specs.Lists.{tree_of}
use Rattle.kb_ops.specs.Trees.{IsWellFormed}
use Rattle.kb_actions.specs.Bounds.{passed, most_looks}
use Rattle.kb_actions.specs.Merges.{looks_for}
use Rattle.std.proofs.lemmas.Result.{IfOk-weaker}
use Rattle.kb_rules.specs.Merge.{merge, report, three}
use Rattle.kb_rules.proofs.Listed.{naming}
use Rattle.kb_opchains.specs.Edits.{edited, edits_rise}
use Rattle.kb_actions.specs.Known.{ListsOf}
use Rattle.kb_actions.proofs.Ending.{base_up, part_up, ours_up, part_meet, part_splits, merge_made, merge_formed, edits_up, report_made, names_looks, no_names, fits_both, rows_few}
use Rattle.kb_actions.proofs.merging.merge_by_actions.Goals as goal

pub merge_lists-requires-clause-base : goal.merge_lists-requires-clause-base
merge_lists-requires-clause-base g c =
    let b = g.V.View.tree c.args.base.now in
    let m = g.V.View.tree c.args.merged.now in
    let u = g.V.View.tree c.args.ours.now in
    let of : ListsOf c.in_ok-known.known c.deref.result.now c.deref-2.result.now c.deref-3.result.now = (c.deref.ensures.value ∙ c.in_ok-lists.ensures.lists.0, c.deref-2.ensures.value ∙ c.in_ok-lists.ensures.lists.1, c.deref-3.ensures.value ∙ c.in_ok-lists.ensures.lists.2) in
    base_up b m u c.args.stamp.now c.requires.meet c.in_ok-known.known c.lists_of.ensures.ordered c.in_ok-known.ensures.gathered c.deref.result.now c.deref-2.result.now c.deref-3.result.now of

pub merge_lists-requires-clause-merged : goal.merge_lists-requires-clause-merged
merge_lists-requires-clause-merged g c =
    let b = g.V.View.tree c.args.base.now in
    let m = g.V.View.tree c.args.merged.now in
    let u = g.V.View.tree c.args.ours.now in
    let of : ListsOf c.in_ok-known.known c.deref.result.now c.deref-2.result.now c.deref-3.result.now = (c.deref.ensures.value ∙ c.in_ok-lists.ensures.lists.0, c.deref-2.ensures.value ∙ c.in_ok-lists.ensures.lists.1, c.deref-3.ensures.value ∙ c.in_ok-lists.ensures.lists.2) in
    part_up b m u c.args.stamp.now c.requires.meet c.in_ok-known.known c.lists_of.ensures.ordered c.in_ok-known.ensures.gathered c.deref.result.now c.deref-2.result.now c.deref-3.result.now of

pub merge_lists-requires-clause-ours : goal.merge_lists-requires-clause-ours
merge_lists-requires-clause-ours g c =
    let b = g.V.View.tree c.args.base.now in
    let m = g.V.View.tree c.args.merged.now in
    let u = g.V.View.tree c.args.ours.now in
    let of : ListsOf c.in_ok-known.known c.deref.result.now c.deref-2.result.now c.deref-3.result.now = (c.deref.ensures.value ∙ c.in_ok-lists.ensures.lists.0, c.deref-2.ensures.value ∙ c.in_ok-lists.ensures.lists.1, c.deref-3.ensures.value ∙ c.in_ok-lists.ensures.lists.2) in
    ours_up b m u c.args.stamp.now c.requires.meet c.in_ok-known.known c.lists_of.ensures.ordered c.in_ok-known.ensures.gathered c.deref.result.now c.deref-2.result.now c.deref-3.result.now of

pub merge_lists-requires-clause-meet : goal.merge_lists-requires-clause-meet
merge_lists-requires-clause-meet g c =
    let b = g.V.View.tree c.args.base.now in
    let m = g.V.View.tree c.args.merged.now in
    let u = g.V.View.tree c.args.ours.now in
    let of : ListsOf c.in_ok-known.known c.deref.result.now c.deref-2.result.now c.deref-3.result.now = (c.deref.ensures.value ∙ c.in_ok-lists.ensures.lists.0, c.deref-2.ensures.value ∙ c.in_ok-lists.ensures.lists.1, c.deref-3.ensures.value ∙ c.in_ok-lists.ensures.lists.2) in
    part_meet b m u c.args.stamp.now c.requires.meet c.in_ok-known.known c.lists_of.ensures.ordered c.in_ok-known.ensures.gathered c.deref.result.now c.deref-2.result.now c.deref-3.result.now of

pub merge_lists-requires-clause-few : goal.merge_lists-requires-clause-few
merge_lists-requires-clause-few g c =
    let b = g.V.View.tree c.args.base.now in
    let m = g.V.View.tree c.args.merged.now in
    let u = g.V.View.tree c.args.ours.now in
    let of : ListsOf c.in_ok-known.known c.deref.result.now c.deref-2.result.now c.deref-3.result.now = (c.deref.ensures.value ∙ c.in_ok-lists.ensures.lists.0, c.deref-2.ensures.value ∙ c.in_ok-lists.ensures.lists.1, c.deref-3.ensures.value ∙ c.in_ok-lists.ensures.lists.2) in
    let same = ap length (part_splits b m u c.args.stamp.now c.requires.meet c.in_ok-known.known c.lists_of.ensures.ordered c.in_ok-known.ensures.gathered c.deref.result.now c.deref-2.result.now c.deref-3.result.now of) in
    let few = c.requires.few in
    omega (arith, same, few)

pub returns-clause-merge : goal.returns-clause-merge
returns-clause-merge g c =
    let b = g.V.View.tree c.args.base.now in
    let m = g.V.View.tree c.args.merged.now in
    let u = g.V.View.tree c.args.ours.now in
    let of : ListsOf c.in_ok-known.known c.deref.result.now c.deref-2.result.now c.deref-3.result.now = (c.deref.ensures.value ∙ c.in_ok-lists.ensures.lists.0, c.deref-2.ensures.value ∙ c.in_ok-lists.ensures.lists.1, c.deref-3.ensures.value ∙ c.in_ok-lists.ensures.lists.2) in
    IfOk-weaker c.merge_lists.result _ (λ d. edited m d.0.items ≡ merge b m u c.args.stamp.now) (λ d is. merge_made b m u c.args.stamp.now c.requires.meet c.in_ok-known.known c.lists_of.ensures.ordered c.in_ok-known.ensures.gathered c.deref.result.now c.deref-2.result.now c.deref-3.result.now of (naming c.args.stamp.now c.device.ensures c.moment.ensures) (rows_few m u (g.met.V.View.few c.args.merged.now) (g.met.V.View.few c.args.ours.now)) c.most-all.result c.most-all.ensures.big (g.V.View.tree c.gather.new.merged) c.gather.ensures.tree d.0.items d.1 is) c.merge_lists.ensures.merge

pub returns-clause-formed : goal.returns-clause-formed
returns-clause-formed g c =
    let b = g.V.View.tree c.args.base.now in
    let m = g.V.View.tree c.args.merged.now in
    let u = g.V.View.tree c.args.ours.now in
    let of : ListsOf c.in_ok-known.known c.deref.result.now c.deref-2.result.now c.deref-3.result.now = (c.deref.ensures.value ∙ c.in_ok-lists.ensures.lists.0, c.deref-2.ensures.value ∙ c.in_ok-lists.ensures.lists.1, c.deref-3.ensures.value ∙ c.in_ok-lists.ensures.lists.2) in
    IfOk-weaker c.merge_lists.result _ (λ d. IsWellFormed (edited m d.0.items)) (λ d is. merge_formed b m u c.args.stamp.now c.requires.meet c.in_ok-known.known c.lists_of.ensures.ordered c.in_ok-known.ensures.gathered c.deref.result.now c.deref-2.result.now c.deref-3.result.now of (naming c.args.stamp.now c.device.ensures c.moment.ensures) (rows_few m u (g.met.V.View.few c.args.merged.now) (g.met.V.View.few c.args.ours.now)) c.most-all.result c.most-all.ensures.big (g.V.View.tree c.gather.new.merged) c.gather.ensures.tree d.0.items d.1 is) c.merge_lists.ensures.merge

pub returns-clause-ascending : goal.returns-clause-ascending
returns-clause-ascending g c =
    let b = g.V.View.tree c.args.base.now in
    let m = g.V.View.tree c.args.merged.now in
    let u = g.V.View.tree c.args.ours.now in
    let of : ListsOf c.in_ok-known.known c.deref.result.now c.deref-2.result.now c.deref-3.result.now = (c.deref.ensures.value ∙ c.in_ok-lists.ensures.lists.0, c.deref-2.ensures.value ∙ c.in_ok-lists.ensures.lists.1, c.deref-3.ensures.value ∙ c.in_ok-lists.ensures.lists.2) in
    IfOk-weaker c.merge_lists.result _ (λ d. edits_rise d.0.items ≡ true) (λ d is. edits_up b m u c.args.stamp.now c.requires.meet c.in_ok-known.known c.lists_of.ensures.ordered c.in_ok-known.ensures.gathered c.deref.result.now c.deref-2.result.now c.deref-3.result.now of (naming c.args.stamp.now c.device.ensures c.moment.ensures) (rows_few m u (g.met.V.View.few c.args.merged.now) (g.met.V.View.few c.args.ours.now)) c.most-all.result c.most-all.ensures.big (g.V.View.tree c.gather.new.merged) c.gather.ensures.tree d.0.items d.1 is) c.merge_lists.ensures.merge

pub returns-clause-report : goal.returns-clause-report
returns-clause-report g c =
    let b = g.V.View.tree c.args.base.now in
    let m = g.V.View.tree c.args.merged.now in
    let u = g.V.View.tree c.args.ours.now in
    let of : ListsOf c.in_ok-known.known c.deref.result.now c.deref-2.result.now c.deref-3.result.now = (c.deref.ensures.value ∙ c.in_ok-lists.ensures.lists.0, c.deref-2.ensures.value ∙ c.in_ok-lists.ensures.lists.1, c.deref-3.ensures.value ∙ c.in_ok-lists.ensures.lists.2) in
    IfOk-weaker c.merge_lists.result _ (λ d. d.1 ≡ report b m u c.args.stamp.now) (λ d is. report_made b m u c.args.stamp.now c.requires.meet c.in_ok-known.known c.lists_of.ensures.ordered c.in_ok-known.ensures.gathered c.deref.result.now c.deref-2.result.now c.deref-3.result.now of (naming c.args.stamp.now c.device.ensures c.moment.ensures) (rows_few m u (g.met.V.View.few c.args.merged.now) (g.met.V.View.few c.args.ours.now)) c.most-all.result c.most-all.ensures.big (g.V.View.tree c.gather.new.merged) c.gather.ensures.tree d.0.items d.1 is) c.merge_lists.ensures.merge

pub returns-in_err-known-clause-looks : goal.returns-in_err-known-clause-looks
returns-in_err-known-clause-looks g c = λ merged_ops our_ops d fm em fu eu wm wu.
    let b = g.V.View.tree c.args.base.now in
    let m = g.V.View.tree c.args.merged.now in
    let u = g.V.View.tree c.args.ours.now in
    let p = passed (three b m u c.args.stamp.now) in
    let some : g.V.View.looks c.gather.new.merged ≤ g.V.View.looks c.args.merged.now + most_looks (length merged_ops + length our_ops) d p =
    no_names b m u merged_ops our_ops c.args.merged_ops.now c.args.our_ops.now em eu c.requires.merged_nets c.requires.our_nets d p (g.V.View.looks c.args.merged.now) (g.V.View.looks c.gather.new.merged) (c.gather.ensures.looks d wm) in
    omega (arith, some)

pub returns-in_err-lists-clause-looks : goal.returns-in_err-lists-clause-looks
returns-in_err-lists-clause-looks g c = λ merged_ops our_ops d fm em fu eu wm wu.
    let b = g.V.View.tree c.args.base.now in
    let m = g.V.View.tree c.args.merged.now in
    let u = g.V.View.tree c.args.ours.now in
    let p = passed (three b m u c.args.stamp.now) in
    let some : g.V.View.looks c.gather.new.merged ≤ g.V.View.looks c.args.merged.now + most_looks (length merged_ops + length our_ops) d p =
    no_names b m u merged_ops our_ops c.args.merged_ops.now c.args.our_ops.now em eu c.requires.merged_nets c.requires.our_nets d p (g.V.View.looks c.args.merged.now) (g.V.View.looks c.gather.new.merged) (c.gather.ensures.looks d wm) in
    omega (arith, some)

pub returns-clause-looks : goal.returns-clause-looks
returns-clause-looks g c = λ merged_ops our_ops d fm em fu eu wm wu.
    let b = g.V.View.tree c.args.base.now in
    let m = g.V.View.tree c.args.merged.now in
    let u = g.V.View.tree c.args.ours.now in
    let of : ListsOf c.in_ok-known.known c.deref.result.now c.deref-2.result.now c.deref-3.result.now = (c.deref.ensures.value ∙ c.in_ok-lists.ensures.lists.0, c.deref-2.ensures.value ∙ c.in_ok-lists.ensures.lists.1, c.deref-3.ensures.value ∙ c.in_ok-lists.ensures.lists.2) in
    let p = passed (three b m u c.args.stamp.now) in
    let extra = looks_for (g.V.View.tree c.gather.new.merged) c.most-all.result (three (tree_of c.deref.result.now) (tree_of c.deref-2.result.now) (tree_of c.deref-3.result.now) c.args.stamp.now) in
    let names = names_looks b m u c.args.stamp.now c.requires.meet c.in_ok-known.known c.lists_of.ensures.ordered c.in_ok-known.ensures.gathered c.deref.result.now c.deref-2.result.now c.deref-3.result.now of (naming c.args.stamp.now c.device.ensures c.moment.ensures) (rows_few m u (g.met.V.View.few c.args.merged.now) (g.met.V.View.few c.args.ours.now)) c.most-all.result c.most-all.ensures.big c.args.merged_ops.now c.args.our_ops.now c.requires.merged_nets c.requires.our_nets (g.V.View.tree c.gather.new.merged) c.gather.ensures.tree in
    let walks = c.gather.ensures.looks d wm in
    let more = c.merge_lists.ensures.looks in
    let some : g.V.View.looks c.merge_lists.new.merged ≤ g.V.View.looks c.args.merged.now + most_looks (length merged_ops + length our_ops) d p =
    fits_both b m u merged_ops our_ops c.args.merged_ops.now c.args.our_ops.now em eu c.requires.merged_nets c.requires.our_nets d p (g.V.View.looks c.args.merged.now) (g.V.View.looks c.gather.new.merged) (g.V.View.looks c.merge_lists.new.merged) extra walks more names in
    omega (arith, some)
