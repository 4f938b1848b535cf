use Rattle.std.proofs.Common.{◌≡◌, true, false, Some, None, Ok, Err, refl, sym, ap, ◌∙◌, subst}
use Rattle.kb_world.proofs.Turns.{powers}
use Rattle.kb_world.proofs.declared.Declared.power.Goals as goal

pub returns : goal.returns
returns g c f seed names d chain m lawful meets has h =
    let to = c.power.ensures.goes seed names h.view h.is in
    powers seed names d f chain c.args.self.now _ m meets has h refl (λ s e. absurd (let none : None ≡ Some s = sym c.power.ensures.closed ∙ e in cc)) refl to.0 to.1 to.2 refl
