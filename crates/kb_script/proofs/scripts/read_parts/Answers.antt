use Rattle.std.proofs.Common.{◌≡◌, ◌+◌, ◌∙◌, sym, arith, length, false, true, eqb, subst, Err, Vec, Global, List, ℕ, []}
use Rattle.std.specs.Borrow.{Bor}
use Rattle.kb_script.specs.declared.statements.Statement.{Statement}
use Rattle.kb_script.specs.Scripts.{ReadsLines, fault_at}
use Rattle.kb_script.proofs.EarlierKept.{all_fit}
use Rattle.kb_script.proofs.LinesRead.{lines_in, line_of_ended, line_of_last, some_lines, all_ended, one_more}
use Rattle.kb_script.proofs.ScriptsRead.{line_more, line_refused, lines_end}
use Rattle.kb_script.proofs.scripts.read_parts.Goals as goal

pub returns-in-Err-clause-value : goal.returns-in-Err-clause-value
returns-in-Err-clause-value c =
    let ended = c.args.ended.now in
    let last = c.args.last.now in
    let i = c.loop-i.i in
    let nowhere : Bor (List ℕ) = record { ref_ptr = (0, 0); now = [] } in
    rw c.fault_at.ensures
    (line_refused {X = Vec Statement Global} (λ v. v.items) c.args.live (lines_in ended last) c.without_return-line.result.now i c.loop-i.statements.items c.in-Err.fault
    (some_lines ended last i (omega arith))
    (c.without_return-line.ensures ∙ sym (line_of_ended ended last i nowhere (omega arith)))
    c.loop-i.invariant.read c.in-Err.ensures.err)

pub loop-i-preserved : goal.loop-i-preserved
loop-i-preserved c =
    let ended = c.args.ended.now in
    let last = c.args.last.now in
    let i = c.loop-i.i in
    let nowhere : Bor (List ℕ) = record { ref_ptr = (0, 0); now = [] } in
    record {
      seen = c.in-Ok.ensures.kept;
      fit = c.in-Ok.ensures.fit;
      read = line_more c.args.live (lines_in ended last) c.without_return-line.result.now i c.loop-i.statements.items c.step.new.statements.items
          (c.without_return-line.ensures ∙ sym (line_of_ended ended last i nowhere (omega arith)))
          c.loop-i.invariant.read c.in-Ok.ensures.ok;
    }

pub returns-then-is_empty-clause-value : goal.returns-then-is_empty-clause-value
returns-then-is_empty-clause-value c =
    let ended = c.args.ended.now in
    let last = c.args.last.now in
    let empty : eqb (length last) 0 ≡ true = sym c.is_empty.ensures ∙ c.if-is_empty.true in
    lines_end c.args.live (lines_in ended last) c.loop-i.i c.loop-i.statements.items (omega (arith, all_ended ended last empty)) c.loop-i.invariant.read

pub returns-then-is_empty-clause-fit : goal.returns-then-is_empty-clause-fit
returns-then-is_empty-clause-fit c = all_fit c.loop-i.statements.items c.loop-i.invariant.fit

pub returns-in-Ok-step-clause-value : goal.returns-in-Ok-step-clause-value
returns-in-Ok-step-clause-value c =
    let ended = c.args.ended.now in
    let last = c.args.last.now in
    let i = c.loop-i.i in
    let full : eqb (length last) 0 ≡ false = sym c.is_empty.ensures ∙ c.if-is_empty.false in
    let at_end : i ≡ length ended = omega arith in
    let here = rw (sym at_end) at (line_of_last ended last full) in
    lines_end c.args.live (lines_in ended last) (i + 1) c.step-2.new.statements.items (omega (arith, one_more ended last full))
    (line_more c.args.live (lines_in ended last) last i c.loop-i.statements.items c.step-2.new.statements.items (sym here) c.loop-i.invariant.read c.in-Ok-step.ensures.ok)

pub returns-in-Ok-step-clause-fit : goal.returns-in-Ok-step-clause-fit
returns-in-Ok-step-clause-fit c = all_fit c.step-2.new.statements.items c.in-Ok-step.ensures.fit

pub returns-clause-value : goal.returns-clause-value
returns-clause-value c =
    let ended = c.args.ended.now in
    let last = c.args.last.now in
    let i = c.loop-i.i in
    let full : eqb (length last) 0 ≡ false = sym c.is_empty.ensures ∙ c.if-is_empty.false in
    let at_end : i ≡ length ended = omega arith in
    let here = rw (sym at_end) at (line_of_last ended last full) in
    let P : ℕ → Type 0 = λ n. ReadsLines {X = Vec Statement Global} (λ v. v.items) c.args.live (lines_in ended last) (Err (fault_at (n + 1) c.in-Err-step.fault)) in
    rw c.fault_at-in-Err-step.ensures
    (subst P at_end
    (line_refused {X = Vec Statement Global} (λ v. v.items) c.args.live (lines_in ended last) last i c.loop-i.statements.items c.in-Err-step.fault
    (omega (arith, one_more ended last full)) (sym here) c.loop-i.invariant.read c.in-Err-step.ensures.err))
