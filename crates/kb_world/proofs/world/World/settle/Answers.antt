use Rattle.std.proofs.Common.{◌≡◌, ◌∷◌, [], ◌-◌, ◌<◌, Some, None, Ok, Err, OnErr, length, refl, sym, ap, ◌∙◌, subst, arith}
use Rattle.std.specs.Prelude.{slice_get}
use Rattle.std.proofs.lemmas.Option.{slice_get_read}
use Rattle.kb_world.specs.Printed.{settled_line}
use Rattle.kb_world.proofs.Worlds.{runs_at, on_err, stays_so}
use Rattle.kb_world.proofs.BranchWorlds.{number_at, merges_at, settles_device, settle_lacks}
use Rattle.kb_world.proofs.world.World.settle.Goals as goal

pub settle-answer-requires-clause-runs : goal.settle-answer-requires-clause-runs
settle-answer-requires-clause-runs g c =
    let w = c.args.self.now in
    let x = c.index_mut-declared.result.now in
    let within : c.args.number - 1 < length w.devices.items = (let low = c.requires.declared.0 in let high = c.requires.declared.1 in omega (arith, low, high)) in
    let found : slice_get w.devices.items (c.args.number - 1) ≡ Some x = slice_get_read w.devices.items (length w.devices.items) (c.args.number - 1) x refl within c.index_mut-declared.ensures.value in
    runs_at w c.args.number x c.requires.declared.0 found c.requires.stands

pub settle-answer-requires-clause-numbered : goal.settle-answer-requires-clause-numbered
settle-answer-requires-clause-numbered g c =
    let w = c.args.self.now in
    let x = c.index_mut-declared.result.now in
    let within : c.args.number - 1 < length w.devices.items = (let low = c.requires.declared.0 in let high = c.requires.declared.1 in omega (arith, low, high)) in
    let found : slice_get w.devices.items (c.args.number - 1) ≡ Some x = slice_get_read w.devices.items (length w.devices.items) (c.args.number - 1) x refl within c.index_mut-declared.ensures.value in
    number_at w c.args.number x c.requires.declared.0 found c.requires.stands

pub settle-answer-requires-clause-merges : goal.settle-answer-requires-clause-merges
settle-answer-requires-clause-merges g c =
    let w = c.args.self.now in
    let x = c.index_mut-declared.result.now in
    let within : c.args.number - 1 < length w.devices.items = (let low = c.requires.declared.0 in let high = c.requires.declared.1 in omega (arith, low, high)) in
    let found : slice_get w.devices.items (c.args.number - 1) ≡ Some x = slice_get_read w.devices.items (length w.devices.items) (c.args.number - 1) x refl within c.index_mut-declared.ensures.value in
    merges_at w c.args.number x c.requires.declared.0 found c.requires.stands c.few_are_split.ensures c.plain_ops_law.ensures

pub returns-in_err-name-clause-memory : goal.returns-in_err-name-clause-memory
returns-in_err-name-clause-memory g c = on_err c.from_residual.result (stays_so c.args.self.now)

pub returns-clause-step : goal.returns-clause-step
returns-clause-step g c =
    let w = c.args.self.now in
    let x = c.index_mut-declared.result.now in
    let within : c.args.number - 1 < length w.devices.items = (let low = c.requires.declared.0 in let high = c.requires.declared.1 in omega (arith, low, high)) in
    let found : slice_get w.devices.items (c.args.number - 1) ≡ Some x = slice_get_read w.devices.items (length w.devices.items) (c.args.number - 1) x refl within c.index_mut-declared.ensures.value in
    let named = c.in_ok-name.ensures x found in
    settles_device w _ c.args.number x c.settle-answer.new.self c.requires.declared.0 found refl refl refl (λ seed names. c.longer_law.ensures seed names) (λ seed names. c.machine_law.ensures.stay seed names) (λ seed names. c.landing_law.ensures.stays seed names) c.settle-answer.result c.settle-answer.ensures c.in_ok-line.line (λ told is. c.in_ok-line.ensures.line told is ∙ ap (λ n. settled_line n told) named) c.in_ok-line.ensures.answer

pub returns-in_err-line-clause-memory : goal.returns-in_err-line-clause-memory
returns-in_err-line-clause-memory g c =
    let w = c.args.self.now in
    let x = c.index_mut-declared.result.now in
    let within : c.args.number - 1 < length w.devices.items = (let low = c.requires.declared.0 in let high = c.requires.declared.1 in omega (arith, low, high)) in
    let found : slice_get w.devices.items (c.args.number - 1) ≡ Some x = slice_get_read w.devices.items (length w.devices.items) (c.args.number - 1) x refl within c.index_mut-declared.ensures.value in
    on_err c.from_residual-in_err-line.result (settle_lacks w _ c.args.number x c.settle-answer.new.self c.requires.declared.0 found refl refl refl (λ seed names. c.longer_law.ensures seed names) (λ seed names. c.machine_law.ensures.stay seed names) (λ seed names. c.landing_law.ensures.stays seed names) c.settle-answer.result c.settle-answer.ensures c.in_err-line.ensures.memory)
