use Rattle.std.proofs.Common.{sym, ap, ◌∙◌, refl}
use Rattle.kb_lines.specs.declared.lines.Line.TheVariants as shown
use Rattle.kb_folder.specs.Held.{held}
use Rattle.kb_world.proofs.Acts.{cuts_device}
use Rattle.kb_world.proofs.Borrows.{at_number, err_always, stays}
use Rattle.kb_world.proofs.world.World.cut.Goals as goal

pub returns : goal.returns
returns g c =
    let found = at_number c.args.self.now.devices.items c.args.number c.index_mut-declared.result.now c.requires.0 c.requires.1 c.index_mut-declared.ensures.value in
    record { step = cuts_device c.args.self.now _ c.args.number c.index_mut-declared.result.now c.power.new.self c.requires.0 found refl refl refl refl (shown.Off c.in_ok-name.name) (ap shown.Off c.in_ok-name.ensures.cases) (c.power.ensures (held c.args.self.now.folder)); memory = tt }

pub returns-in_err-name-clause-memory : goal.returns-in_err-name-clause-memory
returns-in_err-name-clause-memory g c =
    let found = at_number c.args.self.now.devices.items c.args.number c.index_mut-declared.result.now c.requires.0 c.requires.1 c.index_mut-declared.ensures.value in
    err_always c.from_residual.result _ (stays c.args.self.now _ c.args.number c.index_mut-declared.result.now found refl refl refl refl)
