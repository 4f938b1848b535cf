use Rattle.std.proofs.Common.{◌≡◌, Some, ap, subst, ◌∙◌}
use Rattle.std.specs.List.{AllByRecursion}
use Rattle.kb_chain.specs.Revisions.{revision_text, signed_text, with_signature, IsRevision}
use Rattle.kb_device.specs.Merging.{merge_unsigned}
use Rattle.kb_device.proofs.merge_requests.merge_request.Goals as goal

pub returns-clause-merge : goal.returns-clause-merge
returns-clause-merge g c =
    let a = c.args in
    let sealed_is = c.in_ok-private.ensures.sealed in
    record {
      root = c.in_ok-built.built.root;
      mtime = c.root_mtime-mtime.result;
      formed = c.is_well_formed.ensures;
      timed = c.root_mtime-mtime.ensures;
      is_private = c.in_ok-private.ensures.is;
      is = subst (λ p. IsRevision (with_signature (merge_unsigned a.number a.head.now a.device a.moment a.generation a.first a.last p) (g.S.Sealer.signed a.secret.now (signed_text (merge_unsigned a.number a.head.now a.device a.moment a.generation a.first a.last p))))) sealed_is c.in_ok-bytes.ensures.is;
      spelled = c.new.ensures ∙ c.in_ok-bytes.ensures.bytes ∙ ap (λ p. revision_text (with_signature (merge_unsigned a.number a.head.now a.device a.moment a.generation a.first a.last p) (g.S.Sealer.signed a.secret.now (signed_text (merge_unsigned a.number a.head.now a.device a.moment a.generation a.first a.last p))))) sealed_is;
      held = λ blocks keys known stored. c.in_ok-built.ensures.tree blocks keys known (subst (AllByRecursion (λ b. blocks (g.H.BlockHash.hashed b) ≡ Some b)) (c.new-2.ensures ∙ c.into_vec.ensures) stored);
      halves = c.new-4.ensures ∙ c.new-3.ensures.items;
    }
