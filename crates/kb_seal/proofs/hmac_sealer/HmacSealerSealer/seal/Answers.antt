use Rattle.std.proofs.Common.{◌++◌, refl, ap, ◌∙◌}
use Rattle.kb_seal.specs.Sealing.{pad_at, masked}
use Rattle.kb_seal.proofs.Opening.{seals}
use Rattle.kb_seal.proofs.hmac_sealer.HmacSealerSealer.seal.Goals as goal

pub returns : goal.returns
returns c =
    let key = c.args.key.now in
    let text = masked (pad_at key c.tag_of-tag.result) 0 c.args.plain.now in
    let tag = c.in_ok-extend_from_slice.ensures.items ∙ ap (λ s. s ++ c.tag_of-tag.result) c.in_ok-out.ensures.items in
    seals key c.args.plain.now c.tag_of-tag.result text _ (c.tag_of-tag.ensures key c.states_of-states.ensures) refl (c.mask_onto.ensures key c.states_of-states.ensures ∙ ap (λ s. s ++ text) tag)
