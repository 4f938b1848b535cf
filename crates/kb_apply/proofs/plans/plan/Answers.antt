use Rattle.std.proofs.Common.{Result, Option, Ok, ap, ◌∙◌, subst}
use Rattle.kb_ops.specs.declared.rows.Change.{Change}
use Rattle.kb_ops.specs.declared.requests.PlanFault.{PlanFault}
use Rattle.kb_ops.proofs.PlanFits.{Fitting, change_fits}
use Rattle.kb_apply.proofs.plans.plan.Goals as goal

pub returns-in-Some-clause-fits : goal.returns-in-Some-clause-fits
returns-in-Some-clause-fits c = λ new.
    let t = c.args.table.now.tree in
    let w = c.is_well_formed.ensures in
    subst (λ (r : Result (Option Change) PlanFault). Fitting (record { device = c.args.device; seq = c.args.seq; part = 0 }) c.args.moment t w r)
    (c.in_ok-change_for.ensures ∙ ap (λ o. Ok o) c.in-Some.is)
    (change_fits (record { device = c.args.device; seq = c.args.seq; part = 0 }) c.args.moment t w new c.args.request.now)
