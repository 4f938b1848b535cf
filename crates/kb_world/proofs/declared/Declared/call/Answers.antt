use Rattle.std.proofs.Common.{◌≡◌, true, false, Some, None, Ok, Err, refl, sym, ap, ◌∙◌, subst}
use Rattle.kb_world.proofs.Turns.{call_goes_on, call_ends}
use Rattle.kb_world.proofs.declared.Declared.call.Goals as goal

pub returns-then-not-has_stopped : goal.returns-then-not-has_stopped
returns-then-not-has_stopped g c f seed names d chain m lawful meets has h =
    let to = c.call-answer.ensures.goes seed names h.view h.is in
    call_goes_on seed names d f chain c.args.self.now _ m meets has h refl c.call-answer.ensures.runs refl to.0 to.1 c.args.request.now c.args.moment c.call-answer.result to.2.0 to.2.1 refl (sym c.has_stopped.ensures ∙ c.if-not-has_stopped.true)

pub returns : goal.returns
returns g c f seed names d chain m lawful meets has h =
    let to = c.call-answer.ensures.goes seed names h.view h.is in
    call_ends seed names d f chain c.args.self.now _ m meets has h refl c.call-answer.ensures.runs refl to.0 to.1 c.args.request.now c.args.moment c.call-answer.result to.2.0 to.2.1 refl (sym c.has_stopped.ensures ∙ c.if-not-has_stopped.false)
