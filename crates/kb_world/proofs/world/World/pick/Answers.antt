use Rattle.std.proofs.Common.{◌≡◌, ◌∷◌, [], ◌-◌, ◌<◌, Some, None, Ok, Err, OnErr, length, refl, sym, ap, ◌∙◌, subst, arith}
use Rattle.std.specs.Prelude.{slice_get}
use Rattle.std.proofs.lemmas.Option.{slice_get_read}
use Rattle.kb_folder.specs.Held.{held}
use Rattle.kb_world.specs.Told.{told_pick}
use Rattle.kb_world.specs.Printed.{picked_line}
use Rattle.kb_world.proofs.Worlds.{runs_at, on_err, stays_so}
use Rattle.kb_world.proofs.Acts.{picks_device, pick_lacks}
use Rattle.kb_world.proofs.world.World.pick.Goals as goal

pub pick-answer-requires : goal.pick-answer-requires
pick-answer-requires g c =
    let w = c.args.self.now in
    let x = c.index_mut-declared.result.now in
    let within : c.args.number - 1 < length w.devices.items = (let low = c.requires.declared.0 in let high = c.requires.declared.1 in omega (arith, low, high)) in
    let found : slice_get w.devices.items (c.args.number - 1) ≡ Some x = slice_get_read w.devices.items (length w.devices.items) (c.args.number - 1) x refl within c.index_mut-declared.ensures.value in
    runs_at w c.args.number x c.requires.declared.0 found c.requires.stands

pub returns-in_err-name-clause-memory : goal.returns-in_err-name-clause-memory
returns-in_err-name-clause-memory g c = on_err c.from_residual.result (stays_so c.args.self.now)

pub returns-clause-step : goal.returns-clause-step
returns-clause-step g c =
    let w = c.args.self.now in
    let x = c.index_mut-declared.result.now in
    let within : c.args.number - 1 < length w.devices.items = (let low = c.requires.declared.0 in let high = c.requires.declared.1 in omega (arith, low, high)) in
    let found : slice_get w.devices.items (c.args.number - 1) ≡ Some x = slice_get_read w.devices.items (length w.devices.items) (c.args.number - 1) x refl within c.index_mut-declared.ensures.value in
    let named = c.in_ok-name.ensures x found in
    picks_device w _ c.args.number x c.pick-answer.new.self c.requires.declared.0 found refl refl refl refl c.pick-answer.result c.in_ok-line.line (c.in_ok-line.ensures.line ∙ ap (λ n. picked_line n (told_pick c.pick-answer.result)) named) c.in_ok-line.ensures.answer (c.pick-answer.ensures (held w.folder))

pub returns-in_err-line-clause-memory : goal.returns-in_err-line-clause-memory
returns-in_err-line-clause-memory g c =
    let w = c.args.self.now in
    let x = c.index_mut-declared.result.now in
    let within : c.args.number - 1 < length w.devices.items = (let low = c.requires.declared.0 in let high = c.requires.declared.1 in omega (arith, low, high)) in
    let found : slice_get w.devices.items (c.args.number - 1) ≡ Some x = slice_get_read w.devices.items (length w.devices.items) (c.args.number - 1) x refl within c.index_mut-declared.ensures.value in
    on_err c.from_residual-in_err-line.result (pick_lacks w _ c.args.number x c.pick-answer.new.self c.requires.declared.0 found refl refl refl refl c.pick-answer.result c.in_err-line.ensures.memory (c.pick-answer.ensures (held w.folder)))
