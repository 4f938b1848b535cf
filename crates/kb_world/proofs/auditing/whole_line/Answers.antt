use Rattle.std.proofs.Common.{◌≡◌, ◌^◌, ◌<◌, length, map, sym, ap, subst, ◌∙◌}
use Rattle.std.proofs.lemmas.List.{length-map}
use Rattle.kb_lines.specs.declared.lines.Line.TheVariants as shown
use Rattle.kb_folder.specs.Held.{held}
use Rattle.kb_world.proofs.Wholeness.{sized, named_so, as_many, few_named, few_revisions, never_bad}
use Rattle.kb_world.proofs.auditing.whole_line.Goals as goal

pub audit-requires-clause-few : goal.audit-requires-clause-few
audit-requires-clause-few g c =
    let h = c.requires in
    let own = c.as_slice-own.ensures.value ∙ c.in_ok-names.ensures in
    few_named g.S.Sealer.sealed g.S.Sealer.signed g.H.BlockHash.hashed c.args.secrets.now h.0 (held c.args.folder.now) h.1 h.2 (length c.as_slice-own.result.now) (h.4 ∙ sym (sized c.args.devices.now c.as_slice-own.result.now own))

pub audit-requires-clause-many : goal.audit-requires-clause-many
audit-requires-clause-many g c =
    let h = c.requires in
    subst (λ n. n < 2 ^ 32) (length-map c.revisions-revisions.result.now (λ b. b.items))
    (few_revisions g.S.Sealer.sealed g.S.Sealer.signed g.H.BlockHash.hashed c.args.secrets.now h.0 (held c.args.folder.now) h.1 h.2 (map (λ b. b.items) c.revisions-revisions.result.now) c.revisions-revisions.ensures)

pub returns-in-Ok : goal.returns-in-Ok
returns-in-Ok g c seed names chain has =
    ap (λ n. shown.Whole n) (c.in-Ok.ensures.0 ∙ as_many g.S.Sealer.sealed g.S.Sealer.signed g.H.BlockHash.hashed seed names (held c.args.folder.now) chain has (map (λ b. b.items) c.revisions-revisions.result.now) c.revisions-revisions.ensures)

pub unreachable-requires : goal.unreachable-requires
unreachable-requires g c =
    let h = c.requires in
    let own = c.as_slice-own.ensures.value ∙ c.in_ok-names.ensures in
    never_bad g.S.Sealer.sealed g.S.Sealer.signed g.H.BlockHash.hashed c.args.secrets.now h.0 (held c.args.folder.now) h.1 h.2 c.as_slice-own.result.now (h.4 ∙ sym (sized c.args.devices.now c.as_slice-own.result.now own)) (named_so h.0 c.args.devices.now c.as_slice-own.result.now own h.3)
    (map (λ b. b.items) c.revisions-revisions.result.now) c.revisions-revisions.ensures c.store-store.result.now c.store-store.ensures c.halves-halves.result.now.0 c.halves-halves.ensures c.whole_law.ensures c.in-Err-At.field-0 c.in-Err-At.field-0-0 c.in-Err-At.field-0-1 c.in-Err-At.field-0-is c.in-Err-At.ensures
