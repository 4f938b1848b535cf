use Rattle.std.proofs.Common.{◌≡◌, true, ap, ◌∙◌}
use Rattle.std.proofs.lemmas.Result.{IfOk-weaker}
use Rattle.kb_ops.specs.Lists.{tree_of}
use Rattle.kb_rules.specs.Code.{row_in}
use Rattle.kb_opchains.specs.Edits.{edited, edits_rise}
use Rattle.kb_actions.specs.Edits.{edits_in}
use Rattle.kb_resolver.proofs.Rows.{edits_make, edits_up}
use Rattle.kb_resolver.proofs.edits.edits_between.Goals as goal

pub returns-clause-edits : goal.returns-clause-edits
returns-clause-edits c =
    let before = c.args.before.now in
    let after = c.args.after.now in
    IfOk-weaker c.edits_at.result _ (λ v. edited (tree_of before) v.items ≡ tree_of after)
    (λ v is. ap (edited (tree_of before)) (is ∙ ap (edits_in (row_in before) (row_in after)) (c.deref.ensures.value ∙ c.in_ok-ids.ensures)) ∙ edits_make before after c.requires.before c.requires.after)
    c.edits_at.ensures

pub returns-clause-ascending : goal.returns-clause-ascending
returns-clause-ascending c =
    let before = c.args.before.now in
    let after = c.args.after.now in
    IfOk-weaker c.edits_at.result _ (λ v. edits_rise v.items ≡ true)
    (λ v is. ap edits_rise (is ∙ ap (edits_in (row_in before) (row_in after)) (c.deref.ensures.value ∙ c.in_ok-ids.ensures)) ∙ edits_up before after c.requires.before)
    c.edits_at.ensures
