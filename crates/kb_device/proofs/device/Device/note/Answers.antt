use Rattle.std.proofs.Common.{◌≡◌, None, Some, is_some, refl, sym, ap, ◌∙◌}
use Rattle.kb_device.specs.Views.{inside, platter}
use Rattle.kb_device.proofs.Options.{none_of, none_by, no_rest}
use Rattle.kb_device.proofs.Views.{inside_of, outside_of, disk_of, same_view, next_view, rest_view}
use Rattle.kb_device.proofs.Notings.{closed_note, notes_on, notes_stop}
use Rattle.kb_device.proofs.Flying.{note_flies, note_stops, closed_note_flies}
use Rattle.kb_device.proofs.device.Device.note.Goals as goal

pub returns-in_default-clause-goes : goal.returns-in_default-clause-goes
returns-in_default-clause-goes g c seed names v view =
    let none = none_by c.args.self.now.session c.in_default.not-Some in
    (v, same_view c.args.self.now _ v refl refl refl refl refl view, closed_note g.S.Sealer.sealed g.S.Sealer.signed g.H.BlockHash.hashed seed names v c.args.answer.now (outside_of c.args.self.now v view none))

pub note-noted-requires-clause-running : goal.note-noted-requires-clause-running
note-noted-requires-clause-running g c = (c.requires.runs c.in-Some.session c.in-Some.is).running

pub note-noted-requires-clause-opened : goal.note-noted-requires-clause-opened
note-noted-requires-clause-opened g c = (c.requires.runs c.in-Some.session c.in-Some.is).opened

pub returns-then-not-has_stopped-clause-goes : goal.returns-then-not-has_stopped-clause-goes
returns-then-not-has_stopped-clause-goes g c seed names v view =
    let device = c.args.self.now in
    let s = c.in-Some.session in
    let t = c.note-noted.new.self in
    let h = c.note-noted.ensures in
    let none : device.resting ≡ None = none_of device.resting (no_rest (is_some device.resting) (is_some device.session) device.one (ap is_some c.in-Some.is)) in (
      record v { disk = platter g.D.Disk t.journal.disk; inside = Some (inside t) },
      next_view device _ v t refl refl refl none refl view,
      notes_on g.S.Sealer.sealed g.S.Sealer.signed g.H.BlockHash.hashed seed names v (inside s) (inside t) (inside_of device v s view c.in-Some.is) c.args.answer.now (platter g.D.Disk s.journal.disk) (platter g.D.Disk t.journal.disk)
          (disk_of device v s view none c.in-Some.is) c.note-noted.result h.does h.running (sym c.has_stopped.ensures ∙ c.if-not-has_stopped.true),
    )

pub returns-clause-goes : goal.returns-clause-goes
returns-clause-goes g c seed names v view =
    let device = c.args.self.now in
    let s = c.in-Some.session in
    let t = c.note-noted.new.self in
    let h = c.note-noted.ensures in
    let none : device.resting ≡ None = none_of device.resting (no_rest (is_some device.resting) (is_some device.session) device.one (ap is_some c.in-Some.is)) in (
      record v { disk = platter g.D.Disk t.journal.disk; inside = None },
      rest_view device _ v t.journal.disk refl refl refl c.rest.ensures.disk c.rest.ensures.ended view,
      notes_stop g.S.Sealer.sealed g.S.Sealer.signed g.H.BlockHash.hashed seed names v (inside s) (inside t) (inside_of device v s view c.in-Some.is) c.args.answer.now (platter g.D.Disk s.journal.disk) (platter g.D.Disk t.journal.disk)
          (disk_of device v s view none c.in-Some.is) c.note-noted.result h.does h.running (sym c.has_stopped.ensures ∙ c.if-not-has_stopped.false),
    )

pub returns-in_default-clause-flies : goal.returns-in_default-clause-flies
returns-in_default-clause-flies g c v view = (v, same_view c.args.self.now _ v refl refl refl refl refl view, closed_note_flies v (outside_of c.args.self.now v view (none_by c.args.self.now.session c.in_default.not-Some)))

pub returns-then-not-has_stopped-clause-flies : goal.returns-then-not-has_stopped-clause-flies
returns-then-not-has_stopped-clause-flies g c v view =
    let device = c.args.self.now in
    let s = c.in-Some.session in
    let t = c.note-noted.new.self in
    let none : device.resting ≡ None = none_of device.resting (no_rest (is_some device.resting) (is_some device.session) device.one (ap is_some c.in-Some.is)) in (
      record v { disk = platter g.D.Disk t.journal.disk; inside = Some (inside t) },
      next_view device _ v t refl refl refl none refl view,
      note_flies v (record v { disk = platter g.D.Disk t.journal.disk; inside = Some (inside t) }) (inside s) (inside t) (inside_of device v s view c.in-Some.is) refl (platter g.D.Disk s.journal.disk) (platter g.D.Disk t.journal.disk) c.args.answer.now c.note-noted.result c.note-noted.ensures.does (sym c.has_stopped.ensures ∙ c.if-not-has_stopped.true),
    )

pub returns-clause-flies : goal.returns-clause-flies
returns-clause-flies g c v view =
    let device = c.args.self.now in
    let t = c.note-noted.new.self in (
      record v { disk = platter g.D.Disk t.journal.disk; inside = None },
      rest_view device _ v t.journal.disk refl refl refl c.rest.ensures.disk c.rest.ensures.ended view,
      note_stops v (record v { disk = platter g.D.Disk t.journal.disk; inside = None }) refl c.note-noted.result (sym c.has_stopped.ensures ∙ c.if-not-has_stopped.false),
    )
