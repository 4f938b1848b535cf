use Rattle.std.proofs.Common.{◌≡◌, true, false, Some, None, Ok, Err, refl, sym, ap, ◌∙◌, subst}
use Rattle.kb_folder.specs.Held.{held}
use Rattle.kb_world.proofs.Turns.{opens_device}
use Rattle.kb_world.proofs.declared.Declared.open.Goals as goal

pub returns : goal.returns
returns g c seed names d chain m lawful meets has h =
    let to = c.open.ensures.goes seed names h.view h.is in
    let did = c.open.ensures.does h.view h.is in
    opens_device seed names d (held c.args.folder.now) chain c.args.self.now _ m meets has h refl c.open.ensures.runs refl lawful to.0 did.0 to.1 did.1 c.open.result to.2 did.2 refl
