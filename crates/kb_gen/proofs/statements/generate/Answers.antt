use Rattle.std.proofs.Common.{◌≡◌, sym, subst, rules, arith}
use Rattle.std.proofs.lemmas.Grind.{common_steps}
use Rattle.kb_script.specs.Fit.{AllFit}
use Rattle.kb_gen.specs.Generated.{generated}
use Rattle.kb_gen.proofs.Fits.{all_fit}
use Rattle.kb_gen.proofs.statements.generate.Goals as goal

pub returns-clause-fit : goal.returns-clause-fit
returns-clause-fit c =
    let is : c.push-4.new.self.items ≡ generated c.args.number = first_of (search rules, grind (arith, common_steps)) in
    subst (λ l. AllFit l) (sym is) (all_fit c.args.number)
