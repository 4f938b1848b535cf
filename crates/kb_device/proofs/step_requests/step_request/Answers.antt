use Rattle.std.proofs.Common.{◌≡◌, Some, ap, subst, ◌∙◌}
use Rattle.std.specs.List.{AllByRecursion}
use Rattle.kb_chain.specs.Revisions.{revision_text, signed_text, with_signature, IsRevision}
use Rattle.kb_device.specs.Stepping.{step_unsigned}
use Rattle.kb_device.proofs.step_requests.step_request.Goals as goal

pub returns-clause-step : goal.returns-clause-step
returns-clause-step g c =
    let a = c.args in
    let sealed_is = c.in_ok-private.ensures.sealed in
    record {
      root = c.in_ok-built.built.root;
      mtime = c.root_mtime-mtime.result;
      formed = c.is_well_formed.ensures;
      timed = c.root_mtime-mtime.ensures;
      is_private = c.in_ok-private.ensures.is;
      is = subst (λ p. IsRevision (with_signature (step_unsigned a.number a.head.now a.op.device a.op.moment a.generation a.op.seq p) (g.S.Sealer.signed a.secret.now (signed_text (step_unsigned a.number a.head.now a.op.device a.op.moment a.generation a.op.seq p))))) sealed_is c.in_ok-bytes.ensures.is;
      spelled = c.new.ensures ∙ c.in_ok-bytes.ensures.bytes ∙ ap (λ p. revision_text (with_signature (step_unsigned a.number a.head.now a.op.device a.op.moment a.generation a.op.seq p) (g.S.Sealer.signed a.secret.now (signed_text (step_unsigned a.number a.head.now a.op.device a.op.moment a.generation a.op.seq p))))) sealed_is;
      held = λ few cached grounds blocks keys stays known stored. (c.in_ok-built.ensures.holds few cached grounds blocks keys stays known (subst (AllByRecursion (λ b. blocks (g.H.BlockHash.hashed b) ≡ Some b)) (c.new-2.ensures ∙ c.into_vec.ensures) stored)).0;
      halves = c.new-4.ensures ∙ c.new-3.ensures.items;
    }

pub returns-clause-pointers : goal.returns-clause-pointers
returns-clause-pointers g c few cached grounds blocks keys stays known stored = (c.in_ok-built.ensures.holds few cached grounds blocks keys stays known (subst (AllByRecursion (λ b. blocks (g.H.BlockHash.hashed b) ≡ Some b)) (c.new-2.ensures ∙ c.into_vec.ensures) stored)).1
