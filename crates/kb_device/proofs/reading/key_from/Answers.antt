use Rattle.std.proofs.Common.{◌≡◌, length, ap, sym, ◌∙◌, arith}
use Rattle.kb_keys.specs.Secrets.{xored}
use Rattle.kb_keys.proofs.Masks.{xored_again}
use Rattle.kb_device.proofs.reading.key_from.Goals as goal

pub xor_of-requires : goal.xor_of-requires
xor_of-requires g c =
    let opened : c.args.sealed.now ≡ g.S.Sealer.sealed c.args.secret.now c.in-Ok.plain.items = c.in-Ok.ensures.opened in
    let size = sym (ap length opened ∙ g.met.S.Sealer.longer c.args.secret.now c.in-Ok.plain.items) ∙ c.told-sealed in
    let same = ap length c.as_slice.ensures.value in
    omega (arith, size, same)

pub returns-in-Ok : goal.returns-in-Ok
returns-in-Ok g c = record {
  one = λ key size is. (
      let same = g.met.S.Sealer.one_plain c.args.secret.now _ _ (sym c.in-Ok.ensures.opened ∙ is) in
      c.xor_of.ensures ∙ ap (λ t. xored t c.args.half.now) (c.as_slice.ensures.value ∙ same) ∙ xored_again key c.args.half.now (size ∙ sym c.told-half));
}
