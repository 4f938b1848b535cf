use Rattle.std.proofs.Common.{sym, ap, ◌∙◌, refl}
use Rattle.kb_folder.specs.Held.{held}
use Rattle.kb_world.proofs.Acts.{arms_device}
use Rattle.kb_world.proofs.Borrows.{at_number}
use Rattle.kb_world.proofs.Worlds.{runs_at}
use Rattle.kb_world.proofs.world.World.arm.Goals as goal

pub fuse-requires : goal.fuse-requires
fuse-requires g c =
    let found = at_number c.args.self.now.devices.items c.args.number c.index_mut-declared.result.now c.requires.declared.0 c.requires.declared.1 c.index_mut-declared.ensures.value in
    runs_at c.args.self.now c.args.number c.index_mut-declared.result.now c.requires.declared.0 found c.requires.stands

pub returns : goal.returns
returns g c =
    let found = at_number c.args.self.now.devices.items c.args.number c.index_mut-declared.result.now c.requires.declared.0 c.requires.declared.1 c.index_mut-declared.ensures.value in
    arms_device c.args.self.now _ c.args.number c.index_mut-declared.result.now c.fuse.new.self c.requires.declared.0 found refl refl refl refl c.args.steps (c.fuse.ensures (held c.args.self.now.folder))
