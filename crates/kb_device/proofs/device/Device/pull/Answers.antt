use Rattle.std.proofs.Common.{◌≡◌, None, Some, is_some, refl, sym, ap, ◌∙◌}
use Rattle.kb_folder.specs.Held.{held}
use Rattle.kb_device.specs.Views.{inside, platter}
use Rattle.kb_device.proofs.Options.{none_of, none_by, no_rest}
use Rattle.kb_device.proofs.Views.{inside_of, outside_of, disk_of, same_view, next_view, rest_view}
use Rattle.kb_device.proofs.PullAnswers.{closed_pull, pulls_on, pulls_stop}
use Rattle.kb_device.proofs.Aloft.{pulls_wait, going_by, going, has_ended}
use Rattle.kb_device.proofs.device.Device.pull.Goals as goal

pub returns-in_default-clause-goes : goal.returns-in_default-clause-goes
returns-in_default-clause-goes g c seed names v view =
    let none = none_by c.args.self.now.session c.in_default.not-Some in
    (v, same_view c.args.self.now _ v refl refl refl refl refl view, closed_pull g.S.Sealer.sealed g.S.Sealer.signed g.H.BlockHash.hashed seed names (held c.args.folder.now) v (outside_of c.args.self.now v view none))

pub pull-pulled-requires-clause-running : goal.pull-pulled-requires-clause-running
pull-pulled-requires-clause-running g c = (c.requires.runs c.in-Some.session c.in-Some.is).running

pub pull-pulled-requires-clause-opened : goal.pull-pulled-requires-clause-opened
pull-pulled-requires-clause-opened g c = (c.requires.runs c.in-Some.session c.in-Some.is).opened

pub returns-then-not-has_stopped_pulling-clause-goes : goal.returns-then-not-has_stopped_pulling-clause-goes
returns-then-not-has_stopped_pulling-clause-goes g c seed names v view =
    let device = c.args.self.now in
    let s = c.in-Some.session in
    let t = c.pull-pulled.new.self in
    let h = c.pull-pulled.ensures in
    let none : device.resting ≡ None = none_of device.resting (no_rest (is_some device.resting) (is_some device.session) device.one (ap is_some c.in-Some.is)) in (
      record v { disk = platter g.D.Disk t.journal.disk; inside = Some (inside t) },
      next_view device _ v t refl refl refl none refl view,
      pulls_on g.S.Sealer.sealed g.S.Sealer.signed g.H.BlockHash.hashed seed names (held c.args.folder.now) v (inside s) (inside t) (inside_of device v s view c.in-Some.is) device.number device.secret (platter g.D.Disk s.journal.disk) (platter g.D.Disk t.journal.disk)
          view.number view.secret (disk_of device v s view none c.in-Some.is) c.pull-pulled.result h.does h.running (sym c.has_stopped_pulling.ensures ∙ c.if-not-has_stopped_pulling.true),
    )

pub returns-clause-goes : goal.returns-clause-goes
returns-clause-goes g c seed names v view =
    let device = c.args.self.now in
    let s = c.in-Some.session in
    let t = c.pull-pulled.new.self in
    let h = c.pull-pulled.ensures in
    let none : device.resting ≡ None = none_of device.resting (no_rest (is_some device.resting) (is_some device.session) device.one (ap is_some c.in-Some.is)) in (
      record v { disk = platter g.D.Disk t.journal.disk; inside = None },
      rest_view device _ v t.journal.disk refl refl refl c.rest.ensures.disk c.rest.ensures.ended view,
      pulls_stop g.S.Sealer.sealed g.S.Sealer.signed g.H.BlockHash.hashed seed names (held c.args.folder.now) v (inside s) (inside t) (inside_of device v s view c.in-Some.is) device.number device.secret (platter g.D.Disk s.journal.disk) (platter g.D.Disk t.journal.disk)
          view.number view.secret (disk_of device v s view none c.in-Some.is) c.pull-pulled.result h.does h.running (sym c.has_stopped_pulling.ensures ∙ c.if-not-has_stopped_pulling.false),
    )

pub returns-in_default-clause-waits : goal.returns-in_default-clause-waits
returns-in_default-clause-waits g c seed v view =
    (v, same_view c.args.self.now _ v refl refl refl refl refl view, record { sent = λ f request h. h; answer = λ f answer h. h })

pub returns-then-not-has_stopped_pulling-clause-waits : goal.returns-then-not-has_stopped_pulling-clause-waits
returns-then-not-has_stopped_pulling-clause-waits g c = going_by c.pull-pulled.result (λ seed v view. (
    let device = c.args.self.now in
    let s = c.in-Some.session in
    let t = c.pull-pulled.new.self in
    let h = c.pull-pulled.ensures in
    let none : device.resting ≡ None = none_of device.resting (no_rest (is_some device.resting) (is_some device.session) device.one (ap is_some c.in-Some.is)) in (
      record v { disk = platter g.D.Disk t.journal.disk; inside = Some (inside t) },
      next_view device _ v t refl refl refl none refl view,
      going c.pull-pulled.result (sym c.has_stopped_pulling.ensures ∙ c.if-not-has_stopped_pulling.true)
          (pulls_wait g.S.Sealer.sealed g.H.BlockHash.hashed seed v (record v { disk = platter g.D.Disk t.journal.disk; inside = Some (inside t) }) (inside s) (inside t) (inside_of device v s view c.in-Some.is) refl g.S.Sealer.signed (held c.args.folder.now) device.number device.secret
          (platter g.D.Disk s.journal.disk) (platter g.D.Disk t.journal.disk) (c.requires.runs s c.in-Some.is).running c.pull-pulled.result h.does),
    )))

pub returns-clause-waits : goal.returns-clause-waits
returns-clause-waits g c = has_ended _ c.pull-pulled.result (sym c.has_stopped_pulling.ensures ∙ c.if-not-has_stopped_pulling.false)
