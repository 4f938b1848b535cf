use Rattle.std.proofs.Common.{◌+◌, ◌≤◌, arith}
use Rattle.kb_device.proofs.Rings.{key_more}
use Rattle.kb_device.proofs.heading.copy_key.Goals as goal

pub returns-in-Ok : goal.returns-in-Ok
returns-in-Ok c seed generation stands within h =
    let lt = c.requires in
    let le : c.args.i + 1 ≤ generation = omega (arith, lt, within) in
    key_more seed c.args.i generation c.in-Some.key.now c.args.ring.now c.args.copy.now c.add.new.self stands le c.in-Some.ensures h c.in-Ok.ensures.ok
