use Rattle.std.proofs.Common.{◌≤◌, ap, sym, ◌∙◌, subst, length, arith}
use Rattle.kb_world.specs.Machine.{State}
use Rattle.kb_folder.specs.Chains.{Names}
use Rattle.kb_world.specs.Standing.{WorldStands}
use Rattle.kb_top.specs.Summaries.{rows_told}
use Rattle.kb_top.proofs.Looks.{tree_still, tree_tells}
use Rattle.kb_top.proofs.generated.laptop_rows.Goals as goal

pub step-requires : goal.step-requires
step-requires g c =
    let h = c.requires.stands in
    let declared : 1 ≤ length h.1.members = omega (arith, h.2.count, c.requires.declared) in
    (h.0, h.1, h.2, (omega arith, declared))

pub returns-in_err-lines-clause-stays : goal.returns-in_err-lines-clause-stays
returns-in_err-lines-clause-stays g c = λ under s h.
    let declared : 1 ≤ length s.members = omega (arith, h.count, c.requires.declared) in
    let moved = c.in_err-lines.ensures.memory under s h (omega arith, declared) in subst (λ t. WorldStands under c.step.new.self t) (tree_still s moved.0 moved.1) moved.2

pub returns-clause-told : goal.returns-clause-told
returns-clause-told g c = λ under s h.
    let declared : 1 ≤ length s.members = omega (arith, h.count, c.requires.declared) in
    let moved = c.in_ok-lines.ensures.step under s h (omega arith, declared) in
    c.rows_told.ensures ∙ ap rows_told c.deref.ensures.value ∙ (tree_tells under s moved.0 c.in_ok-lines.lines.items moved.1).1

pub returns-clause-stays : goal.returns-clause-stays
returns-clause-stays g c = λ under s h.
    let declared : 1 ≤ length s.members = omega (arith, h.count, c.requires.declared) in
    let moved = c.in_ok-lines.ensures.step under s h (omega arith, declared) in
    subst (λ t. WorldStands under c.step.new.self t) (tree_tells under s moved.0 c.in_ok-lines.lines.items moved.1).0 moved.2
