use Rattle.std.proofs.Common.{◌++◌, ap, ◌∙◌}
use Rattle.sha2.specs.Sha256.{sha256}
use Rattle.kb_seal.specs.Hmac.{keyed, hmac}
use Rattle.kb_seal.proofs.states.hmac.Goals as goal

pub returns : goal.returns
unfolding hmac
returns c =
    let d = c.finalize.ensures _ (c.update.ensures _ c.states_of.ensures.inner) in
    let e = c.finalize-2.ensures _ (c.update-2.ensures _ c.states_of.ensures.outer) in
    e ∙ ap (λ d. sha256 (keyed 0x5c c.args.key.now ++ d)) (c.as_slice.ensures ∙ d)
