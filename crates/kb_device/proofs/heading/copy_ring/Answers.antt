use Rattle.std.proofs.Common.{◌≡◌, subst, arith}
use Rattle.kb_device.specs.Stands.{RingStands}
use Rattle.kb_device.proofs.Keys.{refused}
use Rattle.kb_device.proofs.heading.copy_ring.Goals as goal

pub returns-in-Err : goal.returns-in-Err
returns-in-Err c seed generation stands within = refused c.in-Err.fault _ _ (c.in-Err.ensures seed generation stands within (c.keys.invariant seed generation stands within))

pub returns : goal.returns
returns c seed generation stands within =
    let low = c.keys-test.false in
    let high = c.keys.auto.i-end in
    let same : c.keys.i ≡ c.args.top = omega (arith, low, high) in
    subst (λ n. RingStands seed n c.keys.copy) same (c.keys.invariant seed generation stands within)
