use Rattle.std.proofs.Common.{◌<◌, length, map, sym, ap, subst, ◌∙◌, arith}
use Rattle.std.proofs.lemmas.List.{length-map}
use Rattle.kb_folder.specs.Held.{held}
use Rattle.kb_folder.specs.Chains.{role_in}
use Rattle.kb_folder.specs.Stands.{Spells}
use Rattle.kb_device.proofs.Keys.{refused}
use Rattle.kb_device.proofs.Placed.{index_map}
use Rattle.kb_device.proofs.Fronts.{whole_placed}
use Rattle.kb_device.proofs.past.read_role.Goals as goal

pub returns-in-Err : goal.returns-in-Err
returns-in-Err g c seed names chain stands is =
    let lent = map (λ b. b.items) c.args.lent.now in
    let at = index_map (λ b. b.items) c.args.lent.now c.revisions.i c.index-lent-i.result ∙ ap (λ b. b.items) (sym c.index-lent-i.is) in
    let within = c.requires in
    let below = c.revisions-test.true in
    let mapped = length-map c.args.lent.now (λ b. b.items) in
    let lt : c.revisions.i < length lent = omega (arith, within, below, mapped) in
    let placed = whole_placed g.S.Sealer.sealed g.S.Sealer.signed g.H.BlockHash.hashed seed names (held c.args.folder.now) chain stands lent is c.revisions.i c.index-lent-i.result.items lt at in
    let p = placed.0 in
    let spells = subst (λ b. Spells g.S.Sealer.sealed g.S.Sealer.signed seed names p.older_bytes p.older b p.plain) (placed.1 ∙ sym c.deref.ensures.value) p.written.spells in
    let role = c.revisions.invariant seed names chain stands is ∙ ap (λ l. role_in l c.args.d) p.was in
    refused c.in-Err.fault _ _ (c.in-Err.ensures seed names p.older_bytes p.older p.plain spells role)

pub revisions-preserved : goal.revisions-preserved
revisions-preserved g c seed names chain stands is =
    let lent = map (λ b. b.items) c.args.lent.now in
    let at = index_map (λ b. b.items) c.args.lent.now c.revisions.i c.index-lent-i.result ∙ ap (λ b. b.items) (sym c.index-lent-i.is) in
    let within = c.requires in
    let below = c.revisions-test.true in
    let mapped = length-map c.args.lent.now (λ b. b.items) in
    let lt : c.revisions.i < length lent = omega (arith, within, below, mapped) in
    let placed = whole_placed g.S.Sealer.sealed g.S.Sealer.signed g.H.BlockHash.hashed seed names (held c.args.folder.now) chain stands lent is c.revisions.i c.index-lent-i.result.items lt at in
    let p = placed.0 in
    let spells = subst (λ b. Spells g.S.Sealer.sealed g.S.Sealer.signed seed names p.older_bytes p.older b p.plain) (placed.1 ∙ sym c.deref.ensures.value) p.written.spells in
    let role = c.revisions.invariant seed names chain stands is ∙ ap (λ l. role_in l c.args.d) p.was in
    c.in-Ok.ensures seed names p.older_bytes p.older p.plain spells role ∙ sym (ap (λ l. role_in l c.args.d) p.is)
