use Rattle.std.proofs.Common.{◌≡◌, None, Some, is_some, refl, sym, ap, ◌∙◌}
use Rattle.kb_device.specs.Views.{inside, platter}
use Rattle.kb_device.proofs.Options.{none_of, none_by, no_rest}
use Rattle.kb_device.proofs.Views.{inside_of, outside_of, disk_of, same_view, next_view, rest_view}
use Rattle.kb_device.proofs.Servings.{closed_call, calls_on, calls_stop}
use Rattle.kb_device.proofs.Flying.{call_flies, call_stops}
use Rattle.kb_device.proofs.device.Device.call.Goals as goal

pub returns-in_default-clause-goes : goal.returns-in_default-clause-goes
returns-in_default-clause-goes g c seed names v view =
    let none = none_by c.args.self.now.session c.in_default.not-Some in
    (v, same_view c.args.self.now _ v refl refl refl refl refl view, closed_call g.S.Sealer.sealed g.S.Sealer.signed g.H.BlockHash.hashed seed names v c.args.request.now c.args.moment (outside_of c.args.self.now v view none))

pub call-answer-requires-clause-running : goal.call-answer-requires-clause-running
call-answer-requires-clause-running g c = (c.requires.runs c.in-Some.session c.in-Some.is).running

pub call-answer-requires-clause-owned : goal.call-answer-requires-clause-owned
call-answer-requires-clause-owned g c = (c.requires.runs c.in-Some.session c.in-Some.is).owned

pub call-answer-requires-clause-opened : goal.call-answer-requires-clause-opened
call-answer-requires-clause-opened g c = (c.requires.runs c.in-Some.session c.in-Some.is).opened

pub returns-then-not-has_stopped_calling-clause-goes : goal.returns-then-not-has_stopped_calling-clause-goes
returns-then-not-has_stopped_calling-clause-goes g c seed names v view =
    let device = c.args.self.now in
    let s = c.in-Some.session in
    let t = c.call-answer.new.self in
    let h = c.call-answer.ensures in
    let none : device.resting ≡ None = none_of device.resting (no_rest (is_some device.resting) (is_some device.session) device.one (ap is_some c.in-Some.is)) in (
      record v { disk = platter g.D.Disk t.journal.disk; inside = Some (inside t) },
      next_view device _ v t refl refl refl none refl view,
      calls_on g.S.Sealer.sealed g.S.Sealer.signed g.H.BlockHash.hashed seed names v (inside s) (inside t) (inside_of device v s view c.in-Some.is) device.number view.number c.args.request.now c.args.moment (platter g.D.Disk s.journal.disk) (platter g.D.Disk t.journal.disk)
          (disk_of device v s view none c.in-Some.is) c.call-answer.result h.does h.running (sym c.has_stopped_calling.ensures ∙ c.if-not-has_stopped_calling.true),
    )

pub returns-clause-goes : goal.returns-clause-goes
returns-clause-goes g c seed names v view =
    let device = c.args.self.now in
    let s = c.in-Some.session in
    let t = c.call-answer.new.self in
    let h = c.call-answer.ensures in
    let none : device.resting ≡ None = none_of device.resting (no_rest (is_some device.resting) (is_some device.session) device.one (ap is_some c.in-Some.is)) in (
      record v { disk = platter g.D.Disk t.journal.disk; inside = None },
      rest_view device _ v t.journal.disk refl refl refl c.rest.ensures.disk c.rest.ensures.ended view,
      calls_stop g.S.Sealer.sealed g.S.Sealer.signed g.H.BlockHash.hashed seed names v (inside s) (inside t) (inside_of device v s view c.in-Some.is) device.number view.number c.args.request.now c.args.moment (platter g.D.Disk s.journal.disk) (platter g.D.Disk t.journal.disk)
          (disk_of device v s view none c.in-Some.is) c.call-answer.result h.does h.running (sym c.has_stopped_calling.ensures ∙ c.if-not-has_stopped_calling.false),
    )

pub returns-in_default-clause-flies : goal.returns-in_default-clause-flies
returns-in_default-clause-flies g c v view = (v, same_view c.args.self.now _ v refl refl refl refl refl view, refl)

pub returns-then-not-has_stopped_calling-clause-flies : goal.returns-then-not-has_stopped_calling-clause-flies
returns-then-not-has_stopped_calling-clause-flies g c v view =
    let device = c.args.self.now in
    let s = c.in-Some.session in
    let t = c.call-answer.new.self in
    let none : device.resting ≡ None = none_of device.resting (no_rest (is_some device.resting) (is_some device.session) device.one (ap is_some c.in-Some.is)) in (
      record v { disk = platter g.D.Disk t.journal.disk; inside = Some (inside t) },
      next_view device _ v t refl refl refl none refl view,
      call_flies v (record v { disk = platter g.D.Disk t.journal.disk; inside = Some (inside t) }) (inside s) (inside t) (inside_of device v s view c.in-Some.is) refl device.number (platter g.D.Disk s.journal.disk) (platter g.D.Disk t.journal.disk) c.args.request.now c.args.moment c.call-answer.result c.call-answer.ensures.does (sym c.has_stopped_calling.ensures ∙ c.if-not-has_stopped_calling.true),
    )

pub returns-clause-flies : goal.returns-clause-flies
returns-clause-flies g c v view =
    let device = c.args.self.now in
    let t = c.call-answer.new.self in (
      record v { disk = platter g.D.Disk t.journal.disk; inside = None },
      rest_view device _ v t.journal.disk refl refl refl c.rest.ensures.disk c.rest.ensures.ended view,
      call_stops v (record v { disk = platter g.D.Disk t.journal.disk; inside = None }) refl c.call-answer.result (sym c.has_stopped_calling.ensures ∙ c.if-not-has_stopped_calling.false),
    )
