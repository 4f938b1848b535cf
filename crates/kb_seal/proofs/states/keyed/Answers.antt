use Rattle.std.proofs.Common.{◌≡◌, ◌<◌, ap, ◌∙◌, length, arith, add-one}
use Rattle.std.specs.Prelude.{bit_xor}
use Rattle.std.proofs.Math.ListN.{set, get_or}
use Rattle.kb_seal.proofs.Masks.{half, half_more, half_whole, masked-map}
use Rattle.kb_seal.proofs.states.keyed.Goals as goal

pub loop-i-preserved : goal.loop-i-preserved
loop-i-preserved c =
    let n : c.loop-i.i < length c.args.block.now = omega (arith, c.told-block) in
    rw (add-one) (ap (λ t. set t c.loop-i.i (bit_xor (get_or t c.loop-i.i 0) c.args.mask)) c.loop-i.invariant ∙ half_more (λ _. c.args.mask) c.loop-i.i 0 c.args.block.now n)

pub returns : goal.returns
returns c =
    let e : c.loop-i.i ≡ length c.args.block.now = omega (arith, c.told-block) in
    c.loop-i.invariant ∙ ap (λ n. half (λ _. c.args.mask) n 0 c.args.block.now) e ∙ half_whole (λ _. c.args.mask) 0 c.args.block.now ∙ masked-map c.args.mask 0 c.args.block.now
