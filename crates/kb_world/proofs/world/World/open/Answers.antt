use Rattle.std.proofs.Common.{refl, sym, ap, ◌∙◌}
use Rattle.kb_folder.specs.Held.{held}
use Rattle.kb_world.specs.Printed.{opened_line}
use Rattle.kb_world.specs.Told.{told_open}
use Rattle.kb_world.proofs.Acts.{opens_device, open_lacks}
use Rattle.kb_world.proofs.Borrows.{at_number, if_ok, on_err, err_always, stays_lacking}
use Rattle.kb_world.proofs.Worlds.{runs_at}
use Rattle.kb_world.proofs.world.World.open.Goals as goal

pub open-answer-requires : goal.open-answer-requires
open-answer-requires g c =
    let found = at_number c.args.self.now.devices.items c.args.number c.index_mut-declared.result.now c.requires.declared.0 c.requires.declared.1 c.index_mut-declared.ensures.value in
    runs_at c.args.self.now c.args.number c.index_mut-declared.result.now c.requires.declared.0 found c.requires.stands

pub returns : goal.returns
returns g c =
    let found = at_number c.args.self.now.devices.items c.args.number c.index_mut-declared.result.now c.requires.declared.0 c.requires.declared.1 c.index_mut-declared.ensures.value in
    record {
      step = if_ok c.opened_line.result _ _ _ (λ line is some. opens_device c.args.self.now _ c.args.number c.index_mut-declared.result.now c.open-answer.new.self c.requires.declared.0 found refl refl refl refl c.open-answer.result line (is ∙ ap (λ k. opened_line k (told_open c.open-answer.result)) c.in_ok-name.ensures.cases) some c.open-answer.ensures) c.opened_line.ensures.line c.opened_line.ensures.answer;
      memory = on_err c.opened_line.result _ _ (λ lacks. open_lacks c.args.self.now _ c.args.number c.index_mut-declared.result.now c.open-answer.new.self c.requires.declared.0 found refl refl refl refl c.open-answer.result lacks c.open-answer.ensures) c.opened_line.ensures.memory;
    }

pub returns-in_err-name-clause-memory : goal.returns-in_err-name-clause-memory
returns-in_err-name-clause-memory g c =
    let found = at_number c.args.self.now.devices.items c.args.number c.index_mut-declared.result.now c.requires.declared.0 c.requires.declared.1 c.index_mut-declared.ensures.value in
    err_always c.from_residual.result _ (stays_lacking c.args.self.now _ c.args.number c.index_mut-declared.result.now found refl refl refl refl _)
