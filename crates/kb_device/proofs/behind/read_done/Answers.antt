use Rattle.std.proofs.Common.{◌≡◌, ◌+◌, ◌<◌, ◌≤◌, ◌++◌, true, length, map, drop, sym, ap, subst, ◌∙◌, arith}
use Rattle.std.specs.Prelude.{◌&&◌, reverse}
use Rattle.std.proofs.lemmas.List.{length-map, length-drop, length-reverse}
use Rattle.std.specs.FinMap.{get}
use Rattle.kb_ops.specs.declared.rows.Op.{Op}
use Rattle.kb_snap.specs.Chains.{ops_in}
use Rattle.kb_folder.specs.Chains.{generation_in}
use Rattle.kb_folder.specs.Held.{held}
use Rattle.kb_folder.specs.Stands.{Spells}
use Rattle.kb_folder.proofs.Standing.{stands_length}
use Rattle.kb_device.proofs.Keys.{refused}
use Rattle.kb_device.proofs.Placed.{index_map, lent_placed}
use Rattle.kb_device.proofs.Fronts.{dropped_front, low_generation}
use Rattle.kb_device.proofs.MergedOps.{AreRead, read_first, read_next, read_last}
use Rattle.kb_device.proofs.behind.read_done.Goals as goal

pub revisions-init : goal.revisions-init
revisions-init g c seed names known chain stands ring within is = subst (λ ops. AreRead ops true (drop (known + 0) (reverse chain)) (drop known (reverse chain))) (sym c.new.ensures.items) (read_first known (reverse chain))

pub returns-in-Err-add_done : goal.returns-in-Err-add_done
returns-in-Err-add_done g c seed names known chain stands ring within is = refused c.in-Err-add_done.fault _ _ c.in-Err-add_done.ensures

pub returns-in-Err : goal.returns-in-Err
returns-in-Err g c seed names known chain stands ring within is =
    let lent = map (λ b. b.items) c.args.lent.now in
    let i = c.revisions.bytes-index in
    let at = index_map (λ b. b.items) c.args.lent.now i c.bytes-item.result ∙ ap (λ b. b.items) (sym c.bytes-item.is) in
    let lt = subst (λ n. i < n) (sym (length-map c.args.lent.now (λ b. b.items))) c.revisions-test.true in
    let placed = lent_placed g.S.Sealer.sealed g.S.Sealer.signed g.H.BlockHash.hashed seed names (held c.args.folder.now) chain stands known within lent is i c.bytes-item.result.items lt at in
    let p = placed.0 in
    let spells = subst (λ b. Spells g.S.Sealer.sealed g.S.Sealer.signed seed names p.older_bytes p.older b p.plain) (placed.1 ∙ sym c.deref.ensures.value) p.written.spells in
    refused c.in-Err.fault _ _ (c.in-Err.ensures seed names p.older_bytes p.older p.plain (generation_in chain) spells ring (low_generation chain p.plain p.older (known + i) p.is p.size))

pub revisions-preserved : goal.revisions-preserved
revisions-preserved g c seed names known chain stands ring within is =
    let lent = map (λ b. b.items) c.args.lent.now in
    let i = c.revisions.bytes-index in
    let at = index_map (λ b. b.items) c.args.lent.now i c.bytes-item.result ∙ ap (λ b. b.items) (sym c.bytes-item.is) in
    let lt = subst (λ n. i < n) (sym (length-map c.args.lent.now (λ b. b.items))) c.revisions-test.true in
    let placed = lent_placed g.S.Sealer.sealed g.S.Sealer.signed g.H.BlockHash.hashed seed names (held c.args.folder.now) chain stands known within lent is i c.bytes-item.result.items lt at in
    let p = placed.0 in
    let spells = subst (λ b. Spells g.S.Sealer.sealed g.S.Sealer.signed seed names p.older_bytes p.older b p.plain) (placed.1 ∙ sym c.deref.ensures.value) p.written.spells in
    let more = c.in-Ok.ensures seed names p.older_bytes p.older p.plain (generation_in chain) spells ring (low_generation chain p.plain p.older (known + i) p.is p.size) in
    let same : known + (i + 1) ≡ known + i + 1 = omega arith in
    subst (λ n. AreRead c.add_done.new.done.ops.items c.add_done.new.done.plain (drop n (reverse chain)) (drop known (reverse chain))) (sym same)
    (read_next c.revisions.done.ops.items c.add_done.new.done.ops.items c.revisions.done.plain c.add_done.new.done.plain p.plain (drop (known + i + 1) (reverse chain)) (drop known (reverse chain))
    (subst (λ l. AreRead c.revisions.done.ops.items c.revisions.done.plain l (drop known (reverse chain))) (dropped_front chain p.plain p.older (known + i) p.is p.size) (c.revisions.invariant seed names known chain stands ring within is))
    (c.in-Ok-add_done.ensures.0 ∙ ap (λ l. c.revisions.done.ops.items ++ l) more.0) (c.in-Ok-add_done.ensures.1 ∙ ap (λ b. c.revisions.done.plain && b) more.1))

pub returns : goal.returns
returns g c seed names known chain stands ring within is =
    let i = c.revisions.bytes-index in
    let f = held c.args.folder.now in
    let mapped = length-map c.args.lent.now (λ b. b.items) in
    let count = ap length is ∙ length-drop known (reverse f.revisions) in
    let turned = length-reverse f.revisions in
    let size = stands_length g.S.Sealer.sealed g.S.Sealer.signed g.H.BlockHash.hashed seed names f.state.registered (get f.blocks) f.revisions chain stands.stands in
    let past = c.revisions-test.false in
    let le : length chain ≤ known + i = omega (arith, mapped, count, turned, size, past, within) in
    read_last c.revisions.done.ops.items c.revisions.done.plain chain (known + i) (drop known (reverse chain)) le (c.revisions.invariant seed names known chain stands ring within is)
