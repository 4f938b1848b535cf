use Rattle.std.proofs.Common.{ℕ, List, [], ◌∷◌, ◌++◌, ap, ◌∙◌, sym}
use Rattle.std.specs.Prelude.{codes, decimal}
use Rattle.kb_top.specs.Inputs.{fault_text}
use Rattle.kb_top.proofs.texts.fault_text.Goals as goal

pub returns-in_ok-format-in-BadLine-clause-text : goal.returns-in_ok-format-in-BadLine-clause-text
returns-in_ok-format-in-BadLine-clause-text c =
    c.in_ok-format-in-BadLine.ensures.ok ∙ ap (λ (w : List ℕ). codes "line " ++ (decimal c.in-BadLine.line ++ (codes ": " ++ (w ++ 10 ∷ [])))) c.why_text-why.ensures ∙ ap fault_text (sym c.in-BadLine.is)
