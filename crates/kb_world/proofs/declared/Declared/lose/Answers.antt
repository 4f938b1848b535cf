use Rattle.std.proofs.Common.{◌≡◌, Some, refl, sym, ap, ◌∙◌}
use Rattle.kb_world.proofs.Turns.{loses}
use Rattle.kb_world.proofs.declared.Declared.lose.Goals as goal

pub returns : goal.returns
returns g c f seed names d chain m lawful meets has h = loses seed names d f chain c.args.self.now _ m h c.args.side refl refl refl (ap (λ l. l.armed) c.arm.ensures)
