use Rattle.std.proofs.Common.{◌∷◌, ap, ◌∙◌, append-nil}
use Rattle.kb_seal.specs.Hmac.{hmac}
use Rattle.kb_seal.specs.Sealing.{sign_by_hmac}
use Rattle.kb_seal.proofs.hmac_sealer.HmacSealerSealer.sign.Goals as goal

pub returns : goal.returns
unfolding sign_by_hmac
returns c = c.code_of.ensures c.args.key.now c.states_of.ensures ∙ ap (λ m. hmac c.args.key.now (3 ∷ m)) (append-nil c.args.bytes.now)
