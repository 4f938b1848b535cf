use Rattle.std.proofs.Common.{◌≡◌, ◌∷◌, [], ◌-◌, ◌<◌, Some, None, Ok, Err, OnErr, length, refl, sym, ap, ◌∙◌, subst, arith}
use Rattle.std.specs.Prelude.{slice_get}
use Rattle.std.proofs.lemmas.Option.{slice_get_read}
use Rattle.kb_world.specs.Branching.{told_fetch}
use Rattle.kb_world.specs.Printed.{fetched_line}
use Rattle.kb_world.proofs.Worlds.{runs_at, on_err, stays_so}
use Rattle.kb_world.proofs.BranchWorlds.{fetches_device, fetch_lacks}
use Rattle.kb_world.proofs.world.World.fetch.Goals as goal

pub fetch-answer-requires : goal.fetch-answer-requires
fetch-answer-requires g c =
    let w = c.args.self.now in
    let x = c.index_mut-declared.result.now in
    let within : c.args.number - 1 < length w.devices.items = (let low = c.requires.declared.0 in let high = c.requires.declared.1 in omega (arith, low, high)) in
    let found : slice_get w.devices.items (c.args.number - 1) ≡ Some x = slice_get_read w.devices.items (length w.devices.items) (c.args.number - 1) x refl within c.index_mut-declared.ensures.value in
    runs_at w c.args.number x c.requires.declared.0 found c.requires.stands

pub returns-in_err-name-clause-memory : goal.returns-in_err-name-clause-memory
returns-in_err-name-clause-memory g c = on_err c.from_residual.result (stays_so c.args.self.now)

pub returns-clause-step : goal.returns-clause-step
returns-clause-step g c =
    let w = c.args.self.now in
    let x = c.index_mut-declared.result.now in
    let within : c.args.number - 1 < length w.devices.items = (let low = c.requires.declared.0 in let high = c.requires.declared.1 in omega (arith, low, high)) in
    let found : slice_get w.devices.items (c.args.number - 1) ≡ Some x = slice_get_read w.devices.items (length w.devices.items) (c.args.number - 1) x refl within c.index_mut-declared.ensures.value in
    let named = c.in_ok-name.ensures x found in
    fetches_device w _ c.args.number x c.fetch-answer.new.self c.requires.declared.0 found refl refl refl refl c.fetch-answer.result c.in_ok-line.line (λ is. c.in_ok-line.ensures.line is ∙ ap (λ n. fetched_line n (told_fetch c.fetch-answer.result)) named) c.in_ok-line.ensures.answer c.fetch-answer.ensures

pub returns-in_err-line-clause-memory : goal.returns-in_err-line-clause-memory
returns-in_err-line-clause-memory g c =
    let w = c.args.self.now in
    let x = c.index_mut-declared.result.now in
    let within : c.args.number - 1 < length w.devices.items = (let low = c.requires.declared.0 in let high = c.requires.declared.1 in omega (arith, low, high)) in
    let found : slice_get w.devices.items (c.args.number - 1) ≡ Some x = slice_get_read w.devices.items (length w.devices.items) (c.args.number - 1) x refl within c.index_mut-declared.ensures.value in
    on_err c.from_residual-in_err-line.result (fetch_lacks w _ c.args.number x c.fetch-answer.new.self c.requires.declared.0 found refl refl refl refl c.fetch-answer.result c.in_err-line.ensures.memory c.fetch-answer.ensures)
