use Rattle.std.proofs.Common.{◌≡◌, IfOk, subst}
use Rattle.kb_chain.specs.Revisions.{revision_text, signed_text, with_signature}
use Rattle.kb_device.specs.Merging.{merge_unsigned}
use Rattle.kb_device.proofs.merge_requests.sign_merge.Goals as goal

pub returns-clause-bytes : goal.returns-clause-bytes
returns-clause-bytes g c =
    let a = c.args in
    subst (λ p. IfOk c.encode_signed.result (λ bytes. bytes.items ≡ revision_text (with_signature (merge_unsigned a.number a.head.now a.device a.moment a.generation a.first a.last p) (g.S.Sealer.signed a.secret.now (signed_text (merge_unsigned a.number a.head.now a.device a.moment a.generation a.first a.last p))))))
    c.new.ensures c.encode_signed.ensures.bytes
