use Rattle.std.proofs.Common.{◌≡◌, ◌∷◌, [], ◌-◌, ◌<◌, Some, None, Ok, Err, OnErr, length, refl, sym, ap, ◌∙◌, subst, arith}
use Rattle.std.specs.Prelude.{slice_get}
use Rattle.std.proofs.lemmas.Option.{slice_get_read}
use Rattle.kb_world.specs.Printed.{landed_line}
use Rattle.kb_world.proofs.Worlds.{on_err, stays_so}
use Rattle.kb_world.proofs.Landing.{lands_device, land_lacks}
use Rattle.kb_world.proofs.world.World.land.Goals as goal

pub land-answer-requires : goal.land-answer-requires
land-answer-requires g c = c.requires.stands.2.folder.stands.sound

pub returns-in_err-name-clause-memory : goal.returns-in_err-name-clause-memory
returns-in_err-name-clause-memory g c = on_err c.from_residual.result (stays_so c.args.self.now)

pub returns-clause-step : goal.returns-clause-step
returns-clause-step g c =
    let w = c.args.self.now in
    let x = c.index_mut-declared.result.now in
    let within : c.args.number - 1 < length w.devices.items = (let low = c.requires.declared.0 in let high = c.requires.declared.1 in omega (arith, low, high)) in
    let found : slice_get w.devices.items (c.args.number - 1) ≡ Some x = slice_get_read w.devices.items (length w.devices.items) (c.args.number - 1) x refl within c.index_mut-declared.ensures.value in
    let named = c.in_ok-name.ensures x found in
    lands_device w _ c.args.number x c.land-answer.new.self c.requires.declared.0 found refl refl refl (λ seed names. c.longer_law.ensures seed names) (λ seed names. c.machine_law.ensures.stay seed names) (λ seed names. c.landing_law.ensures.stays seed names) c.land-answer.result c.land-answer.ensures.goes c.in_ok-line.line (λ told is. c.in_ok-line.ensures.line told is ∙ ap (λ n. landed_line n told) named) c.in_ok-line.ensures.answer

pub returns-in_err-line-clause-memory : goal.returns-in_err-line-clause-memory
returns-in_err-line-clause-memory g c =
    let w = c.args.self.now in
    let x = c.index_mut-declared.result.now in
    let within : c.args.number - 1 < length w.devices.items = (let low = c.requires.declared.0 in let high = c.requires.declared.1 in omega (arith, low, high)) in
    let found : slice_get w.devices.items (c.args.number - 1) ≡ Some x = slice_get_read w.devices.items (length w.devices.items) (c.args.number - 1) x refl within c.index_mut-declared.ensures.value in
    on_err c.from_residual-in_err-line.result (land_lacks w _ c.args.number x c.land-answer.new.self c.requires.declared.0 found refl refl refl (λ seed names. c.longer_law.ensures seed names) (λ seed names. c.machine_law.ensures.stay seed names) (λ seed names. c.landing_law.ensures.stays seed names) c.land-answer.result c.land-answer.ensures.goes c.in_err-line.ensures.memory)
