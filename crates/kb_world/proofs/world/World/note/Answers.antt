use Rattle.std.proofs.Common.{◌≡◌, ◌∷◌, [], ◌-◌, ◌<◌, Some, None, Ok, Err, OnErr, length, refl, sym, ap, ◌∙◌, subst, arith}
use Rattle.std.specs.Prelude.{slice_get}
use Rattle.std.proofs.lemmas.Option.{slice_get_read}
use Rattle.kb_folder.specs.Held.{held}
use Rattle.kb_device.specs.Noting.{told}
use Rattle.kb_world.specs.Printed.{noted_line}
use Rattle.kb_world.proofs.Worlds.{runs_at, on_err, stays_so}
use Rattle.kb_world.proofs.Acts.{notes_device}
use Rattle.kb_world.proofs.world.World.note.Goals as goal

pub note-answer-requires : goal.note-answer-requires
note-answer-requires g c =
    let w = c.args.self.now in
    let x = c.index_mut-declared.result.now in
    let within : c.args.number - 1 < length w.devices.items = (let low = c.requires.declared.0 in let high = c.requires.declared.1 in omega (arith, low, high)) in
    let found : slice_get w.devices.items (c.args.number - 1) ≡ Some x = slice_get_read w.devices.items (length w.devices.items) (c.args.number - 1) x refl within c.index_mut-declared.ensures.value in
    runs_at w c.args.number x c.requires.declared.0 found c.requires.stands

pub returns-in_err-name-clause-memory : goal.returns-in_err-name-clause-memory
returns-in_err-name-clause-memory g c = on_err c.from_residual.result (stays_so c.args.self.now)

pub returns-clause-step : goal.returns-clause-step
returns-clause-step g c =
    let w = c.args.self.now in
    let x = c.index_mut-declared.result.now in
    let within : c.args.number - 1 < length w.devices.items = (let low = c.requires.declared.0 in let high = c.requires.declared.1 in omega (arith, low, high)) in
    let found : slice_get w.devices.items (c.args.number - 1) ≡ Some x = slice_get_read w.devices.items (length w.devices.items) (c.args.number - 1) x refl within c.index_mut-declared.ensures.value in
    let named = c.in_ok-name.ensures x found in
    notes_device w _ c.args.number x c.note-answer.new.self c.requires.declared.0 found refl refl refl refl c.note-answer.result c.noted_line.result (c.noted_line.ensures ∙ ap (λ n. noted_line n (told c.note-answer.result)) named) (c.note-answer.ensures (held w.folder))
