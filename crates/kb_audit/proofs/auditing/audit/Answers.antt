use Rattle.std.proofs.Common.{◌≡◌, ◌≤◌, ◌+◌, ℕ, List, [], ◌∷◌, map as each, Err, refl, sym, ap, subst, ◌∙◌, length, arith}
use Rattle.std.specs.FinMap as fin
use Rattle.kb_chain.proofs.Behind.{untrue}
use Rattle.kb_audit.specs.declared.faults.AuditFault.{AuditFault}
use Rattle.kb_audit.specs.Audits.{Audits}
use Rattle.kb_audit.specs.Halving.{HalvesMeet}
use Rattle.kb_audit.specs.Stepping.{name_at}
use Rattle.kb_audit.specs.Taking.{KnowsAll, Goes, IsRefused}
use Rattle.kb_audit.proofs.Whole.{text, so_far, so_far_more, begins, length_is, refused, not_whole, whole}
use Rattle.kb_audit.proofs.auditing.audit.Goals as goal

pub revisions-init : goal.revisions-init
revisions-init g c = ([], begins g.S.Sealer.sealed g.S.Sealer.signed g.H.BlockHash.hashed c.args.secrets.now (name_at c.args.names.now) (length c.args.names.now) (fin.get c.args.store.now) c.in-Ok.known c.in-Ok.ensures)

pub take_revision-requires-clause-room : goal.take_revision-requires-clause-room
take_revision-requires-clause-room g c =
    let lt = c.revisions-test.true in
    let many = c.requires.many in
    let le : c.revisions.bytes-index ≤ length c.args.revisions.now = omega (arith, lt) in
    let e = length_is g.S.Sealer.sealed g.S.Sealer.signed g.H.BlockHash.hashed c.args.secrets.now (name_at c.args.names.now) (length c.args.names.now) (fin.get c.args.store.now) c.args.revisions.now c.args.halves.now.0 c.revisions.bytes-index c.revisions.invariant.0 c.revisions.known c.revisions.invariant.1 le in
    omega (arith, e, lt, many)

pub overflow_add-number : goal.overflow_add-number
overflow_add-number g c =
    let lt = c.revisions-test.true in
    let many = c.requires.many in
    let le : c.revisions.bytes-index ≤ length c.args.revisions.now = omega (arith, lt) in
    let e = length_is g.S.Sealer.sealed g.S.Sealer.signed g.H.BlockHash.hashed c.args.secrets.now (name_at c.args.names.now) (length c.args.names.now) (fin.get c.args.store.now) c.args.revisions.now c.args.halves.now.0 c.revisions.bytes-index c.revisions.invariant.0 c.revisions.known c.revisions.invariant.1 le in
    omega (arith, e, lt, many)

pub returns-in-Err-take_revision : goal.returns-in-Err-take_revision
returns-in-Err-take_revision g c =
    let lt = c.revisions-test.true in
    let le : c.revisions.bytes-index ≤ length c.args.revisions.now = omega (arith, lt) in
    let h = c.in-Err-take_revision.ensures (so_far c.args.revisions.now c.revisions.bytes-index) c.revisions.invariant.0 c.revisions.invariant.1 in
    subst (λ (e : AuditFault). Audits g.S.Sealer.sealed g.S.Sealer.signed g.H.BlockHash.hashed c.args.secrets.now (name_at c.args.names.now) (length c.args.names.now) (fin.get c.args.store.now) (each text c.args.revisions.now) c.args.halves.now.0 (Err e)) (sym c.told.ensures)
    (refused g.S.Sealer.sealed g.S.Sealer.signed g.H.BlockHash.hashed c.args.secrets.now (name_at c.args.names.now) (length c.args.names.now) (fin.get c.args.store.now) c.args.revisions.now c.args.halves.now.0 c.revisions.bytes-index c.revisions.invariant.0 c.revisions.known c.revisions.invariant.1 le c.bytes-item.result lt c.bytes-item.is (c.revisions.known.state.length + 1) refl c.in-Err-take_revision.fault
    (subst (λ b. IsRefused g.S.Sealer.sealed g.S.Sealer.signed g.H.BlockHash.hashed c.args.secrets.now (name_at c.args.names.now) (length c.args.names.now) (fin.get c.args.store.now) (so_far c.args.revisions.now c.revisions.bytes-index) c.revisions.invariant.0 b c.in-Err-take_revision.fault) c.as_slice.ensures.value h))

pub revisions-preserved : goal.revisions-preserved
revisions-preserved g c =
    let lt = c.revisions-test.true in
    let goes = c.in-Ok-take_revision.ensures (so_far c.args.revisions.now c.revisions.bytes-index) c.revisions.invariant.0 c.revisions.invariant.1 in (
      goes.plain ∷ c.revisions.invariant.0,
      subst (λ bs. KnowsAll g.S.Sealer.sealed g.S.Sealer.signed g.H.BlockHash.hashed c.args.secrets.now (name_at c.args.names.now) (length c.args.names.now) (fin.get c.args.store.now) bs (goes.plain ∷ c.revisions.invariant.0) c.take_revision.new.known)
          (ap (λ b. b ∷ so_far c.args.revisions.now c.revisions.bytes-index) c.as_slice.ensures.value ∙ sym (so_far_more c.args.revisions.now c.revisions.bytes-index c.bytes-item.result lt c.bytes-item.is)) goes.knows,
    )

pub returns-then-not-halves_meet : goal.returns-then-not-halves_meet
returns-then-not-halves_meet g c =
    let out = c.revisions-test.false in
    let end = c.revisions.auto.bytes-index-end in
    let all : c.revisions.bytes-index ≡ length c.args.revisions.now = omega (arith, out, end) in
    not_whole g.S.Sealer.sealed g.S.Sealer.signed g.H.BlockHash.hashed c.args.secrets.now (name_at c.args.names.now) (length c.args.names.now) (fin.get c.args.store.now) c.requires.few c.args.revisions.now c.args.halves.now.0 c.revisions.bytes-index c.revisions.invariant.0 c.revisions.known c.revisions.invariant.1 all (λ h. untrue c.halves_meet.result c.if-not-halves_meet.true c.halves_meet.ensures.1 (subst (HalvesMeet c.args.secrets.now c.revisions.known.state.policy) (sym c.as_slice-kept.ensures) h))

pub returns : goal.returns
returns g c =
    let out = c.revisions-test.false in
    let end = c.revisions.auto.bytes-index-end in
    let all : c.revisions.bytes-index ≡ length c.args.revisions.now = omega (arith, out, end) in
    whole g.S.Sealer.sealed g.S.Sealer.signed g.H.BlockHash.hashed c.args.secrets.now (name_at c.args.names.now) (length c.args.names.now) (fin.get c.args.store.now) c.requires.few c.args.revisions.now c.args.halves.now.0 c.revisions.bytes-index c.revisions.invariant.0 c.revisions.known c.revisions.invariant.1 all (subst (HalvesMeet c.args.secrets.now c.revisions.known.state.policy) c.as_slice-kept.ensures (c.halves_meet.ensures.0 c.if-not-halves_meet.false))
