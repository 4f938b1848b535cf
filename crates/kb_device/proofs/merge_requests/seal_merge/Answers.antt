use Rattle.std.proofs.Common.{◌≤◌, length, ap, sym, subst, ◌∙◌}
use Rattle.kb_chain.specs.declared.revisions.RevisionKind.TheVariants.{Merge}
use Rattle.kb_device.specs.Merging.{merge_private}
use Rattle.kb_device.proofs.ShortParts.{sealed_short}
use Rattle.kb_device.proofs.merge_requests.seal_merge.Goals as goal

pub returns-clause-small : goal.returns-clause-small
returns-clause-small g c =
    let private = merge_private c.args.root c.args.mtime c.args.base c.new.result in
    let few = subst (λ ops. length ops ≤ 4096) (sym c.new.ensures) c.requires.few in
    sealed_short g.S.Sealer.sealed g.met.S.Sealer.longer c.args.key.now c.in_ok-sealed.sealed.items Merge private c.in_ok-text.ensures.is few
    (c.in_ok-sealed.ensures ∙ ap (g.S.Sealer.sealed c.args.key.now) (c.as_slice.ensures.value ∙ c.in_ok-text.ensures.text))
