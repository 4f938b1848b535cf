use Rattle.std.proofs.Common.{refl, sym, ap, ◌∙◌}
use Rattle.kb_folder.specs.Held.{held}
use Rattle.kb_world.specs.Printed.{called_line}
use Rattle.kb_world.specs.Told.{told_call}
use Rattle.kb_world.proofs.Acts.{calls_device, call_lacks}
use Rattle.kb_world.proofs.Borrows.{at_number, if_ok, on_err, err_always, stays}
use Rattle.kb_world.proofs.Worlds.{runs_at}
use Rattle.kb_world.proofs.world.World.call.Goals as goal

pub call-answer-requires : goal.call-answer-requires
call-answer-requires g c =
    let found = at_number c.args.self.now.devices.items c.args.number c.index_mut-declared.result.now c.requires.declared.0 c.requires.declared.1 c.index_mut-declared.ensures.value in
    runs_at c.args.self.now c.args.number c.index_mut-declared.result.now c.requires.declared.0 found c.requires.stands

pub returns : goal.returns
returns g c =
    let found = at_number c.args.self.now.devices.items c.args.number c.index_mut-declared.result.now c.requires.declared.0 c.requires.declared.1 c.index_mut-declared.ensures.value in
    let turned = c.call-answer.ensures (held c.args.self.now.folder) in
    record {
      step = if_ok c.called_line.result _ _ _ (λ line is some. calls_device c.args.self.now _ c.args.number c.index_mut-declared.result.now c.call-answer.new.self c.requires.declared.0 found refl refl refl refl c.args.request.now c.call-answer.result line (is ∙ ap (λ k. called_line k (told_call c.call-answer.result)) c.in_ok-name.ensures.cases) some turned) c.called_line.ensures.line c.called_line.ensures.answer;
      memory = on_err c.called_line.result _ _ (λ lacks. call_lacks c.args.self.now _ c.args.number c.index_mut-declared.result.now c.call-answer.new.self c.requires.declared.0 found refl refl refl refl c.args.request.now c.call-answer.result lacks turned) c.called_line.ensures.memory;
    }

pub returns-in_err-name-clause-memory : goal.returns-in_err-name-clause-memory
returns-in_err-name-clause-memory g c =
    let found = at_number c.args.self.now.devices.items c.args.number c.index_mut-declared.result.now c.requires.declared.0 c.requires.declared.1 c.index_mut-declared.ensures.value in
    err_always c.from_residual.result _ (stays c.args.self.now _ c.args.number c.index_mut-declared.result.now found refl refl refl refl)
