use Rattle.std.proofs.Common.{◌∷◌, ap, ◌∙◌, append-nil}
use Rattle.kb_seal.specs.Hmac.{hmac}
use Rattle.kb_seal.proofs.hmac_sealer.tag_of.Goals as goal

pub returns : goal.returns
returns c key p = c.code_of.ensures key p ∙ ap (λ m. hmac key (1 ∷ m)) (append-nil c.args.plain.now)
