use Rattle.std.proofs.Common.{◌≡◌, true, false, Some, None, Ok, Err, refl, sym, ap, ◌∙◌, subst}
use Rattle.kb_world.proofs.Turns.{picks, picks_none}
use Rattle.kb_world.proofs.Waits.{view_once}
use Rattle.kb_device.specs.Serving.{WaitsOn}
use Rattle.kb_world.proofs.declared.Declared.pick.Goals as goal

pub returns-in-Err : goal.returns-in-Err
returns-in-Err g c f seed names d chain m lawful meets has h =
    let to = c.in-Err.ensures.goes seed names h.view h.is in
    let waits = c.in-Err.ensures.waits seed h.view h.is in
    let same = view_once _ to.0 waits.0 to.1 waits.1 in
    picks_none seed names d f chain c.args.self.now _ m meets has h refl c.pick.ensures.runs refl to.0 to.1 c.in-Err.fault to.2 (subst (λ v. WaitsOn g.S.Sealer.sealed g.H.BlockHash.hashed seed h.view v) (sym same) waits.2) refl

pub returns : goal.returns
returns g c f seed names d chain m lawful meets has h =
    let to = c.in-Ok.ensures.goes seed names h.view h.is in
    picks seed names d f chain c.args.self.now _ m meets has h refl c.pick.ensures.runs refl to.0 to.1 c.in-Ok.picked to.2 refl
