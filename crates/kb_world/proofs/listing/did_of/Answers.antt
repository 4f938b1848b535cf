use Rattle.std.proofs.Common.{◌≡◌, sym, ap, ◌∙◌}
use Rattle.kb_lines.specs.declared.lines.Did.TheVariants as did
use Rattle.kb_world.specs.Listing.{kind_did, bundle_did, rekey_did}
use Rattle.kb_world.proofs.Recounts.{step_did, merge_did}
use Rattle.kb_world.proofs.listing.did_of.Goals as goal

pub returns-in-Found : goal.returns-in-Found
returns-in-Found g c names named = ap (λ by. did.Found by) (c.in_ok-by.ensures names named) ∙ sym (ap (kind_did names c.args.revision.now) c.in-Found.is)

pub returns-in-Step : goal.returns-in-Step
returns-in-Step g c names named = ap (λ by. did.Step by c.args.revision.now.last) (c.in_ok-by.ensures names named) ∙ step_did names c.args.revision.now c.in-Step.is

pub returns-in-Merge : goal.returns-in-Merge
returns-in-Merge g c names named = ap (λ by. did.Merge by c.args.revision.now.first c.args.revision.now.last) (c.in_ok-by.ensures names named) ∙ merge_did names c.args.revision.now c.in-Merge.is

pub returns-in_ok-device-in-Some : goal.returns-in_ok-device-in-Some
returns-in_ok-device-in-Some g c names named =
    let r = c.args.revision.now in
    c.rekey_did.ensures ∙ (λ i. rekey_did (c.in_ok-by.ensures names named i) (c.in_ok-device-in-Some.ensures names named i) c.in-Some.bundle.action)
    ∙ sym (ap (bundle_did names r.writer) c.in-Some.is) ∙ sym (ap (kind_did names r) c.in-Rekey.is)
