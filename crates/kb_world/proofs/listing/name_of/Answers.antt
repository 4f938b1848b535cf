use Rattle.std.proofs.Common.{◌≡◌, ◌+◌, ◌-◌, ◌<◌, length, ap, ◌∙◌, arith}
use Rattle.std.proofs.lemmas.Option.{slice_get-get_or}
use Rattle.kb_world.proofs.listing.name_of.Goals as goal

pub returns : goal.returns
returns g c names named =
    let is = c.from.ensures in
    let low = c.requires.0 in
    let high = c.requires.1 in
    let within : c.from.result - 1 < length c.args.devices.now = omega arith in
    let same : c.from.result - 1 + 1 ≡ c.args.number = omega arith in
    c.in_ok-name.ensures.cases ∙ named (c.from.result - 1) _ (slice_get-get_or c.args.devices.now (c.from.result - 1) c.index-devices-from.result within) ∙ ap names same
