use Rattle.std.proofs.Common.{◌≡◌, IfOk, subst}
use Rattle.kb_chain.specs.Revisions.{revision_text, signed_text, with_signature}
use Rattle.kb_device.specs.Stepping.{step_unsigned}
use Rattle.kb_device.proofs.step_requests.sign_step.Goals as goal

pub returns-clause-bytes : goal.returns-clause-bytes
returns-clause-bytes g c =
    let a = c.args in
    subst (λ p. IfOk c.encode_signed.result (λ bytes. bytes.items ≡ revision_text (with_signature (step_unsigned a.number a.head.now a.device a.moment a.generation a.seq p) (g.S.Sealer.signed a.secret.now (signed_text (step_unsigned a.number a.head.now a.device a.moment a.generation a.seq p))))))
    c.new.ensures c.encode_signed.ensures.bytes
