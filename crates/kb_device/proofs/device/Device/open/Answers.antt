use Rattle.std.proofs.Common.{◌≡◌, None, Some, refl, sym, ◌∙◌}
use Rattle.kb_folder.specs.Held.{held}
use Rattle.kb_device.specs.Views.{inside, platter}
use Rattle.kb_device.proofs.Options.{none_of}
use Rattle.kb_device.proofs.Views.{outside_of, same_view, next_view, rest_view}
use Rattle.kb_device.proofs.Opens.{rest_disk, has_inside, begins_does, begins_goes, fails_does, fails_goes, already_goes}
use Rattle.kb_device.proofs.device.Device.open.Goals as goal

pub returns-then-is_some-clause-does : goal.returns-then-is_some-clause-does
returns-then-is_some-clause-does g c v view = (v, same_view c.args.self.now _ v refl refl refl refl refl view, (has_inside c.args.self.now v view (sym c.is_some.ensures ∙ c.if-is_some.true), refl))

pub returns-then-is_some-clause-goes : goal.returns-then-is_some-clause-goes
returns-then-is_some-clause-goes g c seed names v view = (
  v,
  same_view c.args.self.now _ v refl refl refl refl refl view,
  already_goes g.S.Sealer.sealed g.S.Sealer.signed g.H.BlockHash.hashed (held c.args.folder.now) v seed names (has_inside c.args.self.now v view (sym c.is_some.ensures ∙ c.if-is_some.true)),
)

pub returns-in-Ok-clause-does : goal.returns-in-Ok-clause-does
returns-in-Ok-clause-does g c v view =
    let device = c.args.self.now in
    let s = c.in-Ok.session in
    let h = c.in-Ok.ensures in
    let closed : device.session ≡ None = none_of device.session (sym c.is_some.ensures ∙ c.if-is_some.false) in
    let was : device.resting ≡ Some c.in-Some.disk = sym c.take.ensures.value ∙ c.in-Some.is in (
      record v { disk = platter g.D.Disk s.journal.disk; inside = Some (inside s) },
      next_view device _ v s refl refl refl c.take.ensures.after c.fill.ensures view,
      begins_does g.S.Sealer.sealed g.S.Sealer.signed g.H.BlockHash.hashed (held c.args.folder.now) v device.number device.secret (platter g.D.Disk c.in-Some.disk) (platter g.D.Disk s.journal.disk) view.number view.secret (rest_disk device v view c.in-Some.disk was) (outside_of device v view closed)
          (inside s) c.status-status.result h.member h.begins c.status-status.ensures,
    )

pub returns-in-Ok-clause-goes : goal.returns-in-Ok-clause-goes
returns-in-Ok-clause-goes g c seed names v view =
    let device = c.args.self.now in
    let s = c.in-Ok.session in
    let h = c.in-Ok.ensures in
    let closed : device.session ≡ None = none_of device.session (sym c.is_some.ensures ∙ c.if-is_some.false) in
    let was : device.resting ≡ Some c.in-Some.disk = sym c.take.ensures.value ∙ c.in-Some.is in (
      record v { disk = platter g.D.Disk s.journal.disk; inside = Some (inside s) },
      next_view device _ v s refl refl refl c.take.ensures.after c.fill.ensures view,
      begins_goes g.S.Sealer.sealed g.S.Sealer.signed g.H.BlockHash.hashed (held c.args.folder.now) v device.number device.secret (platter g.D.Disk c.in-Some.disk) (platter g.D.Disk s.journal.disk) view.number view.secret (rest_disk device v view c.in-Some.disk was) (outside_of device v view closed)
          seed names (inside s) c.status-status.result h.member h.begins c.status-status.ensures,
    )

pub returns-in-Err-clause-does : goal.returns-in-Err-clause-does
returns-in-Err-clause-does g c v view =
    let device = c.args.self.now in
    let closed : device.session ≡ None = none_of device.session (sym c.is_some.ensures ∙ c.if-is_some.false) in
    let was : device.resting ≡ Some c.in-Some.disk = sym c.take.ensures.value ∙ c.in-Some.is in (
      record v { disk = platter g.D.Disk c.in-Err.disk; inside = None },
      rest_view device _ v c.in-Err.disk refl refl refl c.fill-in-Err.ensures closed view,
      fails_does g.S.Sealer.sealed g.S.Sealer.signed g.H.BlockHash.hashed (held c.args.folder.now) v device.number device.secret (platter g.D.Disk c.in-Some.disk) (platter g.D.Disk c.in-Err.disk) view.number view.secret (rest_disk device v view c.in-Some.disk was) (outside_of device v view closed)
          c.in-Err.fault c.in-Err.ensures.fails,
    )

pub returns-in-Err-clause-goes : goal.returns-in-Err-clause-goes
returns-in-Err-clause-goes g c seed names v view =
    let device = c.args.self.now in
    let closed : device.session ≡ None = none_of device.session (sym c.is_some.ensures ∙ c.if-is_some.false) in
    let was : device.resting ≡ Some c.in-Some.disk = sym c.take.ensures.value ∙ c.in-Some.is in (
      record v { disk = platter g.D.Disk c.in-Err.disk; inside = None },
      rest_view device _ v c.in-Err.disk refl refl refl c.fill-in-Err.ensures closed view,
      fails_goes g.S.Sealer.sealed g.S.Sealer.signed g.H.BlockHash.hashed (held c.args.folder.now) v device.number device.secret (platter g.D.Disk c.in-Some.disk) (platter g.D.Disk c.in-Err.disk) view.number view.secret (rest_disk device v view c.in-Some.disk was) (outside_of device v view closed)
          seed names c.in-Err.fault c.in-Err.ensures.fails,
    )
