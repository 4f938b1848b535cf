use Rattle.std.proofs.Common.{ap, sym, ◌∙◌, subst}
use Rattle.kb_world.specs.Standing.{WorldStands}
use Rattle.kb_top.specs.Summaries.{revisions_told}
use Rattle.kb_top.proofs.Looks.{folder_still, folder_tells}
use Rattle.kb_top.proofs.generated.revisions.Goals as goal

pub step-requires : goal.step-requires
step-requires g c = (c.requires.0, c.requires.1, c.requires.2, tt)

pub returns-in_err-lines-clause-stays : goal.returns-in_err-lines-clause-stays
returns-in_err-lines-clause-stays g c = λ under s h.
    let moved = c.in_err-lines.ensures.memory under s h tt in subst (λ t. WorldStands under c.step.new.self t) (folder_still s moved.0 moved.1) moved.2

pub returns-clause-told : goal.returns-clause-told
returns-clause-told g c = λ under s h.
    let moved = c.in_ok-lines.ensures.step under s h tt in
    c.revisions_told.ensures ∙ ap revisions_told c.deref.ensures.value ∙ (folder_tells under s moved.0 c.in_ok-lines.lines.items moved.1).1

pub returns-clause-stays : goal.returns-clause-stays
returns-clause-stays g c = λ under s h.
    let moved = c.in_ok-lines.ensures.step under s h tt in
    subst (λ t. WorldStands under c.step.new.self t) (folder_tells under s moved.0 c.in_ok-lines.lines.items moved.1).0 moved.2
