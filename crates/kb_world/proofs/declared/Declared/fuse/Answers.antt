use Rattle.std.proofs.Common.{◌≡◌, true, false, Some, None, Ok, Err, refl, sym, ap, ◌∙◌, subst}
use Rattle.kb_world.proofs.Turns.{fuses}
use Rattle.kb_world.proofs.declared.Declared.fuse.Goals as goal

pub returns : goal.returns
returns g c f seed names d chain m lawful meets has h =
    let to = c.fuse.ensures.goes seed names h.view h.is in
    fuses seed names d f chain c.args.self.now _ m meets has h refl c.fuse.ensures.runs refl c.args.steps to.0 to.1 to.2.0 to.2.1 refl
