use Rattle.std.proofs.Common.{◌≡◌, None, Some, is_some, refl, sym, ap, subst, ◌∙◌}
use Rattle.kb_folder.specs.Held.{held}
use Rattle.kb_edge.specs.Causes.{Rose}
use Rattle.kb_device.specs.Devices.{disk_in, Runs}
use Rattle.kb_device.specs.Inside.{IsRunning}
use Rattle.kb_device.specs.Views.{inside, platter}
use Rattle.kb_device.proofs.Options.{none_of, none_by, no_rest}
use Rattle.kb_device.proofs.Resolvings.{by_names, closed_settle, settles_on, settles_stop, settles_owned, unless, the_same}
use Rattle.kb_device.proofs.Views.{inside_of, outside_of, disk_of, same_view, next_view, rest_view}
use Rattle.kb_device.proofs.device.Device.settle.Goals as goal

pub returns-in_default-clause-goes : goal.returns-in_default-clause-goes
returns-in_default-clause-goes g c seed names v view =
    let device = c.args.self.now in
    let none = none_by device.session c.in_default.not-Some in
    (v, same_view device _ v refl refl refl refl refl view, closed_settle g.S.Sealer.sealed g.S.Sealer.signed g.H.BlockHash.hashed seed names c.args.moment (held c.args.folder.now) (held c.args.folder.now) v c.args.table.tree (g.K.Link.armed c.args.link.now) (g.K.Link.armed c.args.link.now) refl (outside_of device v view none) refl)

pub settle-settled-requires-clause-running : goal.settle-settled-requires-clause-running
settle-settled-requires-clause-running g c = (c.requires.runs c.in-Some.session c.in-Some.is).running

pub settle-settled-requires-clause-opened : goal.settle-settled-requires-clause-opened
settle-settled-requires-clause-opened g c = (c.requires.runs c.in-Some.session c.in-Some.is).opened

pub returns-then-not-ends_session-clause-goes : goal.returns-then-not-ends_session-clause-goes
returns-then-not-ends_session-clause-goes g c seed names v view =
    let device = c.args.self.now in
    let s = c.in-Some.session in
    let t = c.settle-settled.new.self in
    let h = c.settle-settled.ensures in
    let none : device.resting ≡ None = none_of device.resting (no_rest (is_some device.resting) (is_some device.session) device.one (ap is_some c.in-Some.is)) in (
      record v { disk = platter g.D.Disk t.journal.disk; inside = Some (inside t) },
      next_view device _ v t refl refl refl none refl view,
      settles_on g.S.Sealer.sealed g.S.Sealer.signed g.H.BlockHash.hashed seed names c.args.moment (held c.args.folder.now) (held c.settle-settled.new.folder) v c.args.table.tree (g.K.Link.armed c.args.link.now) (g.K.Link.armed c.settle-settled.new.link) (inside s) (inside t) (inside_of device v s view c.in-Some.is) device.number device.secret (platter g.D.Disk s.journal.disk)
          (platter g.D.Disk t.journal.disk) view.number view.secret (disk_of device v s view none c.in-Some.is) c.settle-settled.result h.does (c.machine_law.ensures.goes seed names) (c.machine_law.ensures.means seed names) (c.settles_law.ensures seed names) h.running
          (sym c.ends_session.ensures ∙ c.if-not-ends_session.true),
    )

pub returns-then-not-ends_session-clause-runs : goal.returns-then-not-ends_session-clause-runs
returns-then-not-ends_session-clause-runs g c v seed names chain p view may = λ x is.
    let device = c.args.self.now in
    let s = c.in-Some.session in
    let t = c.settle-settled.new.self in
    let h = c.settle-settled.ensures in
    let r = c.settle-settled.result in
    let on = sym c.ends_session.ensures ∙ c.if-not-ends_session.true in
    let none : device.resting ≡ None = none_of device.resting (no_rest (is_some device.resting) (is_some device.session) device.one (ap is_some c.in-Some.is)) in
    subst (Runs device.number) (the_same t x is) (record {
      running = unless r (IsRunning (inside t)) on h.running;
      owned = settles_owned g.S.Sealer.sealed g.S.Sealer.signed g.H.BlockHash.hashed seed names c.args.moment (held c.args.folder.now) (held c.settle-settled.new.folder) v c.args.table.tree (g.K.Link.armed c.args.link.now) (g.K.Link.armed c.settle-settled.new.link) (inside s) (inside t) (inside_of device v s view c.in-Some.is) device.number device.secret (platter g.D.Disk s.journal.disk)
          (platter g.D.Disk t.journal.disk) view.number view.secret (disk_of device v s view none c.in-Some.is) r h.does (c.machine_law.ensures.goes seed names) (c.machine_law.ensures.means seed names) (c.settles_law.ensures seed names) chain p may (c.requires.runs s c.in-Some.is).owned on;
      opened = unless r _ on h.opened;
    })

pub returns-clause-goes : goal.returns-clause-goes
returns-clause-goes g c seed names v view =
    let device = c.args.self.now in
    let s = c.in-Some.session in
    let t = c.settle-settled.new.self in
    let h = c.settle-settled.ensures in
    let none : device.resting ≡ None = none_of device.resting (no_rest (is_some device.resting) (is_some device.session) device.one (ap is_some c.in-Some.is)) in (
      record v { disk = platter g.D.Disk t.journal.disk; inside = None },
      rest_view device _ v t.journal.disk refl refl refl c.rest.ensures.disk c.rest.ensures.ended view,
      settles_stop g.S.Sealer.sealed g.S.Sealer.signed g.H.BlockHash.hashed seed names c.args.moment (held c.args.folder.now) (held c.settle-settled.new.folder) v c.args.table.tree (g.K.Link.armed c.args.link.now) (g.K.Link.armed c.settle-settled.new.link) (inside s) (inside t) (inside_of device v s view c.in-Some.is) device.number device.secret (platter g.D.Disk s.journal.disk)
          (platter g.D.Disk t.journal.disk) view.number view.secret (disk_of device v s view none c.in-Some.is) c.settle-settled.result h.does (c.machine_law.ensures.goes seed names) (c.machine_law.ensures.means seed names) (c.settles_law.ensures seed names) h.running
          (sym c.ends_session.ensures ∙ c.if-not-ends_session.false),
    )

pub returns-clause-rose : goal.returns-clause-rose
returns-clause-rose g c = λ stopped was is old new.
    let device = c.args.self.now in
    let s = c.in-Some.session in
    let t = c.settle-settled.new.self in
    let none : device.resting ≡ None = none_of device.resting (no_rest (is_some device.resting) (is_some device.session) device.one (ap is_some c.in-Some.is)) in
    by_names (λ x y. Rose (g.D.Disk.faults x) (g.D.Disk.faults y)) s.journal.disk t.journal.disk was is _ _ (λ i. disk_in (none i) (c.in-Some.is i)) (λ i. disk_in (c.rest.ensures.disk i) (c.rest.ensures.ended i)) old new (c.settle-settled.ensures.rose stopped)
