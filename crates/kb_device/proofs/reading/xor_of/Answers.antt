use Rattle.std.proofs.Common.{◌≡◌, sym, ◌∙◌, ◌<◌, length, arith, add-one, refl}
use Rattle.std.proofs.Math.ListN.{length-set}
use Rattle.kb_keys.proofs.Masks.{xored_more, xored_whole}
use Rattle.kb_device.proofs.reading.xor_of.Goals as goal

pub bytes-init : goal.bytes-init
bytes-init c = record { size = refl; so_far = refl }

pub bytes-preserved : goal.bytes-preserved
bytes-preserved c =
    let o : c.bytes.i < length c.bytes.out = omega (arith, c.bytes.invariant.size) in
    let t : c.bytes.i < length c.args.text.now = omega arith in
    let m : c.bytes.i < length c.args.mask.now = omega (arith, c.told-mask) in
    record {
      size = length-set c.bytes.out c.bytes.i _ ∙ c.bytes.invariant.size;
      so_far = rw (add-one) (xored_more c.bytes.i c.bytes.out c.args.text.now c.args.mask.now o t m ∙ c.bytes.invariant.so_far);
    }

pub returns : goal.returns
returns c =
    let i : c.bytes.i ≡ 32 = omega arith in
    sym (xored_whole c.bytes.i c.bytes.out c.args.text.now c.args.mask.now (i ∙ sym c.bytes.invariant.size) (i ∙ sym c.requires)) ∙ c.bytes.invariant.so_far
