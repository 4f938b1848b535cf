use Rattle.std.proofs.Common.{◌≡◌, ◌∙◌, subst}
use Rattle.std.specs.Prelude.{IfOk}
use Rattle.kb_rules.specs.Merge.{merge, report}
use Rattle.kb_opchains.specs.Edits.{edited}
use Rattle.kb_resolver.proofs.Looks.{one_net, two_nets, with_merge}
use Rattle.kb_resolver.proofs.by_actions.Goals as goal

pub returns-clause-merge : goal.returns-clause-merge
returns-clause-merge g c =
    let m = g.V.View.tree c.args.merged.now in
    let u = g.V.View.tree c.args.ours.now in
    subst (λ b. IfOk c.merge_by_actions.result (λ d. edited m d.0.items ≡ merge b m u c.args.stamp.now)) (c.nets-2.ensures.tree ∙ c.nets.ensures.tree) c.merge_by_actions.ensures.merge

pub returns-clause-report : goal.returns-clause-report
returns-clause-report g c =
    let m = g.V.View.tree c.args.merged.now in
    let u = g.V.View.tree c.args.ours.now in
    subst (λ b. IfOk c.merge_by_actions.result (λ d. d.1 ≡ report b m u c.args.stamp.now)) (c.nets-2.ensures.tree ∙ c.nets.ensures.tree) c.merge_by_actions.ensures.report

pub returns-in_err-merged_nets-clause-looks : goal.returns-in_err-merged_nets-clause-looks
returns-in_err-merged_nets-clause-looks g c =
    let b = g.V.View.tree c.args.base.now in
    let m = g.V.View.tree c.args.merged.now in
    let u = g.V.View.tree c.args.ours.now in
    one_net b m u c.args.stamp.now c.args.merged_ops.now c.args.our_ops.now _ _ _ c.nets.ensures.looks

pub returns-in_err-our_nets-clause-looks : goal.returns-in_err-our_nets-clause-looks
returns-in_err-our_nets-clause-looks g c =
    let b = g.V.View.tree c.args.base.now in
    let m = g.V.View.tree c.args.merged.now in
    let u = g.V.View.tree c.args.ours.now in
    two_nets b m u c.args.stamp.now c.args.merged_ops.now c.args.our_ops.now _ _ _ _ c.nets.ensures.looks c.nets-2.ensures.looks

pub returns-clause-looks : goal.returns-clause-looks
returns-clause-looks g c =
    let b = g.V.View.tree c.args.base.now in
    let m = g.V.View.tree c.args.merged.now in
    let u = g.V.View.tree c.args.ours.now in
    with_merge b m u c.args.stamp.now c.args.merged_ops.now c.args.our_ops.now _ _ _ _ _ _ (c.nets-2.ensures.tree ∙ c.nets.ensures.tree) c.requires.merged_leads c.requires.our_leads c.nets.ensures.looks c.nets-2.ensures.looks c.merge_by_actions.ensures.looks
