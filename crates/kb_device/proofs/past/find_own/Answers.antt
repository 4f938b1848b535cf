use Rattle.std.proofs.Common.{◌≡◌, ◌+◌, ◌<◌, ◌≤◌, length, map, drop, Some, None, sym, ap, subst, ◌∙◌, arith}
use Rattle.std.specs.Prelude.{reverse}
use Rattle.std.proofs.lemmas.List.{length-map, length-drop, length-reverse}
use Rattle.std.specs.FinMap.{get}
use Rattle.kb_folder.specs.Held.{held}
use Rattle.kb_folder.specs.Stands.{Spells}
use Rattle.kb_device.specs.Past.{HasOwn, IsOwnAt, IsFirstOwn}
use Rattle.kb_device.proofs.Keys.{refused}
use Rattle.kb_device.proofs.Placed.{index_map, lent_placed}
use Rattle.kb_device.proofs.Fronts.{dropped_front}
use Rattle.kb_device.proofs.Pasts.{own_here, own_skip, own_end}
use Rattle.kb_folder.proofs.Standing.{stands_length}
use Rattle.kb_device.proofs.past.find_own.Goals as goal

pub returns-in-Err : goal.returns-in-Err
returns-in-Err g c seed names known chain stands within is =
    let lent = map (λ b. b.items) c.args.lent.now in
    let at = index_map (λ b. b.items) c.args.lent.now c.revisions.bytes-index c.bytes-item.result ∙ ap (λ b. b.items) (sym c.bytes-item.is) in
    let lt = subst (λ n. c.revisions.bytes-index < n) (sym (length-map c.args.lent.now (λ b. b.items))) c.revisions-test.true in
    let placed = lent_placed g.S.Sealer.sealed g.S.Sealer.signed g.H.BlockHash.hashed seed names (held c.args.folder.now) chain stands known within lent is c.revisions.bytes-index c.bytes-item.result.items lt at in
    let p = placed.0 in
    let spells = subst (λ b. Spells g.S.Sealer.sealed g.S.Sealer.signed seed names p.older_bytes p.older b p.plain) (placed.1 ∙ sym c.deref.ensures.value) p.written.spells in
    refused c.in-Err.fault _ _ (c.in-Err.ensures seed names p.older_bytes p.older p.plain spells)

pub returns-in-Ok-Some : goal.returns-in-Ok-Some
returns-in-Ok-Some g c seed names known chain stands within is =
    let lent = map (λ b. b.items) c.args.lent.now in
    let i = c.revisions.bytes-index in
    let at = index_map (λ b. b.items) c.args.lent.now i c.bytes-item.result ∙ ap (λ b. b.items) (sym c.bytes-item.is) in
    let lt = subst (λ n. i < n) (sym (length-map c.args.lent.now (λ b. b.items))) c.revisions-test.true in
    let placed = lent_placed g.S.Sealer.sealed g.S.Sealer.signed g.H.BlockHash.hashed seed names (held c.args.folder.now) chain stands known within lent is i c.bytes-item.result.items lt at in
    let p = placed.0 in
    let spells = subst (λ b. Spells g.S.Sealer.sealed g.S.Sealer.signed seed names p.older_bytes p.older b p.plain) (placed.1 ∙ sym c.deref.ensures.value) p.written.spells in
    let here = subst (IsOwnAt c.args.d (length p.older + 1) p.plain) c.in-Ok-Some.field-0-is (c.in-Ok-Some.ensures seed names p.older_bytes p.older p.plain spells) in
    c.revisions.invariant seed names known chain stands within is (Some c.in-Ok-Some.own)
    (subst (λ l. IsFirstOwn c.args.d (known + i) l (Some c.in-Ok-Some.own)) (sym (dropped_front chain p.plain p.older (known + i) p.is p.size))
    (own_here c.args.d (known + i) p.plain (drop (known + i + 1) (reverse chain)) c.in-Ok-Some.own (subst (λ n. HasOwn c.args.d (n + 1) p.plain c.in-Ok-Some.own) p.size here)))

pub revisions-preserved : goal.revisions-preserved
revisions-preserved g c seed names known chain stands within is own next =
    let lent = map (λ b. b.items) c.args.lent.now in
    let i = c.revisions.bytes-index in
    let at = index_map (λ b. b.items) c.args.lent.now i c.bytes-item.result ∙ ap (λ b. b.items) (sym c.bytes-item.is) in
    let lt = subst (λ n. i < n) (sym (length-map c.args.lent.now (λ b. b.items))) c.revisions-test.true in
    let placed = lent_placed g.S.Sealer.sealed g.S.Sealer.signed g.H.BlockHash.hashed seed names (held c.args.folder.now) chain stands known within lent is i c.bytes-item.result.items lt at in
    let p = placed.0 in
    let spells = subst (λ b. Spells g.S.Sealer.sealed g.S.Sealer.signed seed names p.older_bytes p.older b p.plain) (placed.1 ∙ sym c.deref.ensures.value) p.written.spells in
    let none = subst (IsOwnAt c.args.d (length p.older + 1) p.plain) c.in-Ok-None.field-0-is (c.in-Ok-None.ensures seed names p.older_bytes p.older p.plain spells) in
    let same : known + (i + 1) ≡ known + i + 1 = omega arith in
    c.revisions.invariant seed names known chain stands within is own
    (subst (λ l. IsFirstOwn c.args.d (known + i) l own) (sym (dropped_front chain p.plain p.older (known + i) p.is p.size))
    (own_skip c.args.d (known + i) p.plain (drop (known + i + 1) (reverse chain)) own none (subst (λ n. IsFirstOwn c.args.d n (drop n (reverse chain)) own) same next)))

pub returns : goal.returns
returns g c seed names known chain stands within is =
    let i = c.revisions.bytes-index in
    let mapped = length-map c.args.lent.now (λ b. b.items) in
    let count = ap length is ∙ length-drop known (reverse (held c.args.folder.now).revisions) in
    let turned = length-reverse (held c.args.folder.now).revisions in
    let size = stands_length g.S.Sealer.sealed g.S.Sealer.signed g.H.BlockHash.hashed seed names (held c.args.folder.now).state.registered (get (held c.args.folder.now).blocks) (held c.args.folder.now).revisions chain stands.stands in
    let past = c.revisions-test.false in
    let le : length chain ≤ known + i = omega (arith, mapped, count, turned, size, past, within) in
    c.revisions.invariant seed names known chain stands within is None (own_end c.args.d (known + i) chain le)
