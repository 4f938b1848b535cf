use Rattle.std.proofs.Common.{◌≡◌, length, ap, ◌∙◌}
use Rattle.kb_chain.specs.declared.revisions.Revision.{Revision}
use Rattle.kb_lines.specs.declared.lines.Line.TheVariants as line
use Rattle.kb_world.specs.Listing.{revision_did}
use Rattle.kb_world.proofs.Recounts.{same_spelled, not_refused, named_as}
use Rattle.kb_world.proofs.listing.revision_line.Goals as goal

pub unreachable-requires : goal.unreachable-requires
unreachable-requires g c = not_refused (length c.args.devices.now) c.args.bytes.now c.in-Err-BadRevision.field-0 c.in-Err-BadRevision.field-0-is c.in-Err-BadRevision.ensures c.requires

pub did_of-requires : goal.did_of-requires
did_of-requires g c = named_as (length c.args.devices.now) c.args.bytes.now c.in-Ok.revision c.requires c.in-Ok.ensures.0 c.in-Ok.ensures.1

pub returns : goal.returns
returns g c names r named is spelled =
    let same : c.in-Ok.revision ≡ r = same_spelled c.args.bytes.now c.in-Ok.revision r c.in-Ok.ensures.0 is c.in-Ok.ensures.1 spelled in
    ap (λ d. line.Revision c.in-Ok.revision.number d) (c.in_ok-did.ensures names named) ∙ ap (λ (q : Revision). line.Revision q.number (revision_did names q)) same
