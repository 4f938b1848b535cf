use Rattle.std.proofs.Common.{◌≡◌, None, Some, is_some, refl, sym, ap, ◌∙◌}
use Rattle.kb_folder.specs.Held.{held}
use Rattle.kb_device.specs.Views.{inside, platter}
use Rattle.kb_device.proofs.Options.{none_of, none_by, no_rest}
use Rattle.kb_device.proofs.Views.{inside_of, outside_of, disk_of, same_view, kept_view}
use Rattle.kb_device.proofs.Fetchings.{closed_fetch, same_waits, fetches}
use Rattle.kb_device.proofs.device.Device.fetch.Goals as goal

pub returns-in_default-clause-goes : goal.returns-in_default-clause-goes
returns-in_default-clause-goes g c seed names v view =
    let none = none_by c.args.self.now.session c.in_default.not-Some in (
      v,
      same_view c.args.self.now _ v refl refl refl refl refl view,
      (
        closed_fetch g.S.Sealer.sealed g.S.Sealer.signed g.H.BlockHash.hashed seed names (held c.args.folder.now) v (outside_of c.args.self.now v view none),
        same_waits g.S.Sealer.sealed g.S.Sealer.signed g.H.BlockHash.hashed seed names (held c.args.folder.now) v,
      ),
    )

pub fetch-requires : goal.fetch-requires
fetch-requires g c = record { running = (c.requires.runs c.in-Some.session c.in-Some.is).running; numbered = c.args.self.now.numbered }

pub returns-clause-goes : goal.returns-clause-goes
returns-clause-goes g c seed names v view =
    let device = c.args.self.now in
    let s = c.in-Some.session in
    let t = c.fetch.new.self in
    let h = c.fetch.ensures in
    let none : device.resting ≡ None = none_of device.resting (no_rest (is_some device.resting) (is_some device.session) device.one (ap is_some c.in-Some.is)) in
    let disk : v.disk ≡ platter g.D.Disk t.journal.disk = disk_of device v s view none c.in-Some.is ∙ ap (λ j. platter g.D.Disk j.disk) (sym h.journal) in (
      record v { inside = Some (inside t) },
      kept_view device _ v t refl refl refl none refl disk view,
      fetches g.S.Sealer.sealed g.S.Sealer.signed g.H.BlockHash.hashed seed names (held c.args.folder.now) v (inside s) (inside t) (inside_of device v s view c.in-Some.is) device.number device.secret view.number view.secret c.fetch.result h.does h.running,
    )
