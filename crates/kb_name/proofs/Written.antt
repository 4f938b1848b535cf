-- The text that is printed for a date and a number.
use Rattle.std.proofs.Common.{◌≡◌, ℕ, ◌≤◌, List, ◌++◌, codes, decimal, refl, ◌∙◌, arith}
use Rattle.std.proofs.lemmas.Bool.{lt-leb}
use Rattle.jiff.specs.Types.{Date}
use Rattle.jiff.specs.Words.{date_text}
use Rattle.kb_name.specs.Conflicted.{Day, dated, IsDay}

pub first_dated : (t : List ℕ) (d : Day) (date : Date) (k : ℕ) → IsDay d date → k ≡ 1 → t ≡ codes " copy " ++ (date_text date ++ codes ")") → t ≡ dated d k
first_dated t d date k day one e = e ∙ rw (day.0, day.1, day.2, one) refl

pub later_dated : (t : List ℕ) (d : Day) (date : Date) (k : ℕ) → IsDay d date → 1 ≤ k → (k ≡ 1 → ⊥) → t ≡ codes " copy " ++ (date_text date ++ (codes " " ++ (decimal k ++ codes ")"))) → t ≡ dated d k
later_dated t d date k day low more e = e ∙ rw (day.0, day.1, day.2, lt-leb k 1 (omega arith)) refl
