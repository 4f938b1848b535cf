use Rattle.std.proofs.Common.{ap, ◌∙◌}
use Rattle.kb_chain.specs.declared.revisions.Revision.{Revision}
use Rattle.kb_device.specs.Past.{role_with}
use Rattle.kb_device.proofs.Pasts.{role_step}
use Rattle.kb_device.proofs.past.role_behind.Goals as goal

pub returns : goal.returns
returns g c seed names bs older x spells is =
    c.role_with.ensures ∙ ap (λ (r : Revision). role_with c.args.d r.bundle c.args.role) (c.in-Ok.ensures spells.revision spells.is spells.spelled) ∙ ap (λ o. role_with c.args.d o c.args.role) spells.bundle
    ∙ role_step g.S.Sealer.sealed seed x older c.args.d c.args.role is
