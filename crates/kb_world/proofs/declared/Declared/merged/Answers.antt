use Rattle.std.proofs.Common.{◌≡◌, None, Some, Ok, Err, refl, sym, ap, subst, ◌∙◌}
use Rattle.kb_device.specs.Lending.{LendsBranch}
use Rattle.kb_device.proofs.Options.{none_by}
use Rattle.kb_world.proofs.BranchTurns.{resolve_meets, resolve_few, resolve_ours, resolve_merged, resolves, unplanned}
use Rattle.kb_world.proofs.declared.Declared.merged.Goals as goal

pub returns-in-Err : goal.returns-in-Err
returns-in-Err g c v view = c.in-Err.ensures.tells v view

pub returns-in_default-branch : goal.returns-in_default-branch
returns-in_default-branch g c v view =
    unplanned c.args.number c.args.self.now.name c.args.moment v.inside c.in-Ok.status (c.in-Ok.ensures.tells v view) (subst (λ o. LendsBranch v.inside o) (none_by c.branch-branch.result c.in_default-branch.not-Some) (c.branch-branch.ensures v view))

pub resolve_branch-requires-clause-meet : goal.resolve_branch-requires-clause-meet
resolve_branch-requires-clause-meet g c =
    let v = c.requires.0 in
    let view = c.requires.1 in
    resolve_meets c.args.number v.inside c.in-Ok.status c.in_Some-branch.branch _ c.requires.2 (c.in-Ok.ensures.tells v view) (c.in_Some-branch.ensures v view) refl refl

pub resolve_branch-requires-clause-few : goal.resolve_branch-requires-clause-few
resolve_branch-requires-clause-few g c =
    let v = c.requires.0 in
    let view = c.requires.1 in
    resolve_few c.args.number v.inside c.in-Ok.status c.in_Some-branch.branch c.requires.2 (c.in-Ok.ensures.tells v view) (c.in_Some-branch.ensures v view)

pub returns-in-Ok-resolve_branch : goal.returns-in-Ok-resolve_branch
returns-in-Ok-resolve_branch g c v view =
    resolves c.args.number c.args.self.now.name c.in-Ok-clone.name c.args.moment v.inside c.in-Ok.status c.in_Some-branch.branch c.in-Ok-resolve_branch.made (c.in-Ok.ensures.tells v view) (c.in_Some-branch.ensures v view) c.in-Ok-clone.ensures.cases (c.in-Ok-resolve_branch.ensures.merge, c.in-Ok-resolve_branch.ensures.report)

pub resolve_branch-requires-clause-our_leads : goal.resolve_branch-requires-clause-our_leads
resolve_branch-requires-clause-our_leads g c =
    let v = c.requires.0 in
    let view = c.requires.1 in
    resolve_ours c.args.number v.inside c.in-Ok.status c.in_Some-branch.branch c.requires.2 (c.in-Ok.ensures.tells v view) (c.in_Some-branch.ensures v view)

pub resolve_branch-requires-clause-merged_leads : goal.resolve_branch-requires-clause-merged_leads
resolve_branch-requires-clause-merged_leads g c =
    let v = c.requires.0 in
    let view = c.requires.1 in
    resolve_merged c.args.number v.inside c.in-Ok.status c.in_Some-branch.branch c.requires.2 (c.in-Ok.ensures.tells v view) (c.in_Some-branch.ensures v view)
