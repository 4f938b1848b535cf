use Rattle.std.proofs.Common.{refl}
use Rattle.kb_folder.specs.Held.{held}
use Rattle.kb_world.proofs.BranchTurns.{fetches}
use Rattle.kb_world.proofs.declared.Declared.fetch.Goals as goal

pub returns : goal.returns
returns g c seed names d chain m lawful meets has h =
    let to = c.fetch.ensures.goes seed names h.view h.is in
    fetches seed names d (held c.args.folder.now) chain c.args.self.now _ m meets has h refl c.fetch.ensures.runs refl refl to.0 to.1 to.2.1 c.fetch.result to.2.0
