use Rattle.std.proofs.Common.{sym, ap, ◌∙◌}
use Rattle.kb_world.specs.Printed.{status_line}
use Rattle.kb_world.specs.Told.{told_tell}
use Rattle.kb_world.proofs.Acts.{tells_of}
use Rattle.kb_world.proofs.Borrows.{at_number}
use Rattle.kb_world.proofs.world.World.tell.Goals as goal

pub returns : goal.returns
returns g c =
    let found = at_number c.args.self.now.devices.items c.args.number c.index-declared.result.now c.requires.0 c.requires.1 c.index-declared.ensures in
    tells_of c.args.self.now c.args.number c.index-declared.result.now c.requires.0 found c.status.result c.told_line.result (c.told_line.ensures ∙ ap (λ k. status_line k (told_tell c.status.result)) c.in_ok-name.ensures.cases) c.status.ensures.goes
