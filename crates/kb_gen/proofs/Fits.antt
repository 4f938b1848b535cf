-- Each generated statement fits where it comes.
use Rattle.std.proofs.Common.{◌≡◌, ℕ, zero, suc, ◌≤◌, true, false, List, [], ◌∷◌, ◌++◌, refl, sym, ◌∙◌, subst, append_assoc, arith}
use Rattle.std.specs.Prelude.{codes}
use Rattle.kb_ops.specs.declared.requests.Request.TheVariants.{Mkfile, Write}
use Rattle.kb_script.specs.declared.statements.Statement.{Statement}
use Rattle.kb_script.specs.declared.statements.Statement.TheVariants.{File}
use Rattle.kb_script.specs.Fit.{AllFitFrom, AllFit}
use Rattle.kb_gen.specs.Generated.{laptop, phone, path_of, text_of, beginning, files, ending, generated}

-- what a declared device's files are followed by
files_fit : (device : ℕ) (letter : List ℕ) (number : ℕ) (rest : List Statement) → 1 ≤ device → device ≤ 2 → AllFitFrom 2 true rest → AllFitFrom 2 true (files device letter number ++ rest)
files_fit device letter zero rest from to fit = fit
files_fit device letter (suc before) rest from to fit =
    let file = File device (Mkfile (path_of (suc before))) in
    let text = File device (Write (path_of (suc before)) 0 (text_of letter (suc before))) in
    subst (λ l. AllFitFrom 2 true l) (sym (append_assoc (files device letter before) (file ∷ text ∷ []) rest))
    (files_fit device letter before (file ∷ text ∷ rest) from to ((refl, (from, to)), ((refl, (from, to)), fit)))

ending_fits : AllFitFrom 2 true ending
ending_fits = ((refl, (omega arith, omega arith)), ((refl, (omega arith, omega arith)), ((refl, (omega arith, omega arith)), ((refl, (omega arith, omega arith)), tt))))

beginning_fits : (rest : List Statement) → AllFitFrom 2 true rest → AllFitFrom 0 false (beginning ++ rest)
beginning_fits rest fit = (
  omega arith,
  (
    (omega arith, refl, omega arith, omega arith),
    (
      (omega arith, refl, omega arith, omega arith),
      (
        (refl, (omega arith, omega arith)),
        (
          (refl, (omega arith, omega arith), (omega arith, omega arith)),
          (
            (refl, (omega arith, omega arith)),
            (
              (refl, (omega arith, omega arith)),
              (
                (refl, (omega arith, omega arith)),
                (
                  (refl, (omega arith, omega arith)),
                  fit,
                ),
              ),
            ),
          ),
        ),
      ),
    ),
  ),
)

in_turn : (number : ℕ) → generated number ≡ beginning ++ (files laptop (codes "l") number ++ (files phone (codes "p") number ++ ending))
in_turn number =
    append_assoc (beginning ++ files laptop (codes "l") number) (files phone (codes "p") number) ending
    ∙ append_assoc beginning (files laptop (codes "l") number) (files phone (codes "p") number ++ ending)

pub all_fit : (number : ℕ) → AllFit (generated number)
all_fit number =
    subst (λ l. AllFit l) (sym (in_turn number))
    (beginning_fits _ (files_fit laptop (codes "l") number _ (omega arith) (omega arith) (files_fit phone (codes "p") number ending (omega arith) (omega arith) ending_fits)))
