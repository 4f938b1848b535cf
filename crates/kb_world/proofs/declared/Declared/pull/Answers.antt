use Rattle.std.proofs.Common.{◌≡◌, true, false, Some, None, Ok, Err, refl, sym, ap, ◌∙◌, subst}
use Rattle.kb_folder.specs.Held.{held}
use Rattle.kb_world.proofs.Turns.{pull_goes_on, pull_ends}
use Rattle.kb_world.proofs.Waits.{view_once, going_waits}
use Rattle.kb_device.specs.Serving.{WaitsOn}
use Rattle.kb_world.proofs.declared.Declared.pull.Goals as goal

pub returns-then-not-has_stopped_pulling : goal.returns-then-not-has_stopped_pulling
returns-then-not-has_stopped_pulling g c seed names d chain m lawful meets has h =
    let to = c.pull-answer.ensures.goes seed names h.view h.is in
    let going = sym c.has_stopped_pulling.ensures ∙ c.if-not-has_stopped_pulling.true in
    let waits = going_waits c.pull-answer.result going c.pull-answer.ensures.waits seed h.view h.is in
    let same = view_once _ to.0 waits.0 to.1 waits.1 in
    pull_goes_on seed names d (held c.args.folder.now) chain c.args.self.now _ m meets has h refl c.pull-answer.ensures.runs refl to.0 to.1 c.pull-answer.result to.2 (subst (λ v. WaitsOn g.S.Sealer.sealed g.H.BlockHash.hashed seed h.view v) (sym same) waits.2) refl going

pub returns : goal.returns
returns g c seed names d chain m lawful meets has h =
    let to = c.pull-answer.ensures.goes seed names h.view h.is in
    pull_ends seed names d (held c.args.folder.now) chain c.args.self.now _ m meets has h refl c.pull-answer.ensures.runs refl to.0 to.1 c.pull-answer.result to.2 refl (sym c.has_stopped_pulling.ensures ∙ c.if-not-has_stopped_pulling.false)
