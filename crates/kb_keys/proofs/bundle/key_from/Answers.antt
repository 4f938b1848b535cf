use Rattle.std.proofs.Common.{◌≡◌, length, ap, sym, ◌∙◌, arith}
use Rattle.kb_keys.specs.Secrets.{xored}
use Rattle.kb_keys.proofs.Masks.{xored_again}
use Rattle.kb_keys.proofs.bundle.key_from.Goals as goal

pub xor_of-requires : goal.xor_of-requires
xor_of-requires g c =
    let opened : c.args.sealed.now ≡ g.S.Sealer.sealed c.args.secret.now c.in-Ok.plain.items = c.in-Ok.ensures.opened in
    let size = sym (ap length opened ∙ g.met.S.Sealer.longer c.args.secret.now c.in-Ok.plain.items) ∙ c.told-sealed in
    let same = ap length c.as_slice.ensures.value in
    omega (arith, size, same)

pub returns-in-Ok-clause-gives : goal.returns-in-Ok-clause-gives
returns-in-Ok-clause-gives g c =
    let text = c.as_slice.result.now in
    let size : length text ≡ length c.args.half.now =
    let opened : c.args.sealed.now ≡ g.S.Sealer.sealed c.args.secret.now c.in-Ok.plain.items = c.in-Ok.ensures.opened in
    let long = sym (ap length opened ∙ g.met.S.Sealer.longer c.args.secret.now c.in-Ok.plain.items) ∙ c.told-sealed in
    let same = ap length c.as_slice.ensures.value in
    omega (arith, long, same, c.told-half) in
    let again = xored_again text c.args.half.now size in
    c.in-Ok.ensures.opened ∙ ap (g.S.Sealer.sealed c.args.secret.now) (sym c.as_slice.ensures.value ∙ sym again ∙ ap (λ t. xored t c.args.half.now) (sym c.xor_of.ensures))

pub returns-in-Ok-clause-one : goal.returns-in-Ok-clause-one
returns-in-Ok-clause-one g c key size is =
    let same = g.met.S.Sealer.one_plain c.args.secret.now _ _ (sym c.in-Ok.ensures.opened ∙ is) in
    c.xor_of.ensures ∙ ap (λ t. xored t c.args.half.now) (c.as_slice.ensures.value ∙ same) ∙ xored_again key c.args.half.now (size ∙ sym c.told-half)
