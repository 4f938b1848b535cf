use Rattle.std.proofs.Common.{sym, ap, ◌∙◌, refl}
use Rattle.kb_folder.specs.Held.{held}
use Rattle.kb_world.proofs.Acts.{loses_device}
use Rattle.kb_world.proofs.Borrows.{at_number}
use Rattle.kb_world.proofs.world.World.lose.Goals as goal

pub returns : goal.returns
returns g c =
    let found = at_number c.args.self.now.devices.items c.args.number c.index_mut-declared.result.now c.requires.0 c.requires.1 c.index_mut-declared.ensures.value in
    loses_device c.args.self.now _ c.args.number c.index_mut-declared.result.now c.lose.new.self c.requires.0 found refl refl refl refl c.args.side (c.lose.ensures (held c.args.self.now.folder))
