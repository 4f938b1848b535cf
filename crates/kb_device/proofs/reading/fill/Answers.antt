use Rattle.std.proofs.Common.{◌<◌, ◌≤◌, map, sym, ap, subst, ◌∙◌}
use Rattle.std.proofs.lemmas.List.{length-map}
use Rattle.kb_folder.specs.Held.{held}
use Rattle.kb_folder.specs.Stands.{Spells}
use Rattle.kb_device.proofs.Keys.{refused}
use Rattle.kb_device.proofs.Placed.{index_map, lent_placed, fill_begin, fill_next, fill_end}
use Rattle.kb_device.proofs.reading.fill.Goals as goal

pub revisions-init : goal.revisions-init
revisions-init g c seed names known chain served stands within is = fill_begin g.S.Sealer.sealed g.S.Sealer.signed g.H.BlockHash.hashed seed names (held c.args.folder.now) chain stands known within _ is c.args.d c.args.most c.args.ring.now

pub returns-in-Err : goal.returns-in-Err
returns-in-Err g c seed names known chain served stands within is =
    let lent = map (λ b. b.items) c.args.lent.now in
    let at = index_map (λ b. b.items) c.args.lent.now c.revisions.bytes-index c.bytes-item.result ∙ ap (λ b. b.items) (sym c.bytes-item.is) in
    let lt = subst (λ n. c.revisions.bytes-index < n) (sym (length-map c.args.lent.now (λ b. b.items))) c.revisions-test.true in
    let placed = lent_placed g.S.Sealer.sealed g.S.Sealer.signed g.H.BlockHash.hashed seed names (held c.args.folder.now) chain stands known within lent is c.revisions.bytes-index c.bytes-item.result.items lt at in
    let p = placed.0 in
    let spells = subst (λ b. Spells g.S.Sealer.sealed g.S.Sealer.signed seed names p.older_bytes p.older b p.plain) (placed.1 ∙ sym c.deref.ensures.value) p.written.spells in
    refused c.in-Err.fault _ _ (c.in-Err.ensures seed names p.older_bytes p.older p.plain served spells)

pub revisions-preserved : goal.revisions-preserved
revisions-preserved g c seed names known chain served stands within is =
    let lent = map (λ b. b.items) c.args.lent.now in
    let at = index_map (λ b. b.items) c.args.lent.now c.revisions.bytes-index c.bytes-item.result ∙ ap (λ b. b.items) (sym c.bytes-item.is) in
    let lt = subst (λ n. c.revisions.bytes-index < n) (sym (length-map c.args.lent.now (λ b. b.items))) c.revisions-test.true in
    let placed = lent_placed g.S.Sealer.sealed g.S.Sealer.signed g.H.BlockHash.hashed seed names (held c.args.folder.now) chain stands known within lent is c.revisions.bytes-index c.bytes-item.result.items lt at in
    let p = placed.0 in
    let spells = subst (λ b. Spells g.S.Sealer.sealed g.S.Sealer.signed seed names p.older_bytes p.older b p.plain) (placed.1 ∙ sym c.deref.ensures.value) p.written.spells in
    fill_next g.S.Sealer.sealed g.S.Sealer.signed g.H.BlockHash.hashed seed names (held c.args.folder.now) chain stands known within lent is c.args.d c.args.most c.revisions.bytes-index c.args.ring.now c.revisions.ring c.add_revision.new.ring p
    (c.revisions.invariant seed names known chain served stands within is) (c.in-Ok.ensures seed names p.older_bytes p.older p.plain served spells)

pub returns : goal.returns
returns g c seed names known chain served stands within is =
    fill_end g.S.Sealer.sealed g.S.Sealer.signed g.H.BlockHash.hashed seed names (held c.args.folder.now) chain stands known within (map (λ b. b.items) c.args.lent.now) is c.args.d c.args.most c.revisions.bytes-index c.args.ring.now c.revisions.ring
    (subst (λ n. n ≤ c.revisions.bytes-index) (sym (length-map c.args.lent.now (λ b. b.items))) c.revisions-test.false) (c.revisions.invariant seed names known chain served stands within is)
