use Rattle.std.proofs.Common.{◌≡◌, Err, OnOk, refl, ap, sym, subst, ◌∙◌}
use Rattle.std.specs.Option.{option_map}
use Rattle.kb_device.specs.Inside.{Inside}
use Rattle.kb_device.specs.Views.{inside, aloft_of, platter}
use Rattle.kb_device.specs.Noting.{parted}
use Rattle.kb_device.proofs.Notes.{land_does, part_does}
use Rattle.kb_device.proofs.OwnQueues.{note_owned, each_unless}
use Rattle.kb_device.proofs.session.Session.note.Goals as goal

pub returns-in-Ok-clause-does : goal.returns-in-Ok-clause-does
returns-in-Ok-clause-does g c =
    let h = c.land.ensures in
    land_does (inside c.args.self.now) (inside c.land.new.self) (platter g.D.Disk c.args.self.now.journal.disk) (platter g.D.Disk c.land.new.self.journal.disk) c.args.answer.now (aloft_of c.in-Some.flight)
    (ap (option_map aloft_of) (sym c.take.ensures.value ∙ c.in-Some.is)) c.in-Ok.field-0 c.land.result c.in-Ok.is h.answer h.fault h.session h.writes h.stops

pub returns-in-Stale-clause-does : goal.returns-in-Stale-clause-does
returns-in-Stale-clause-does g c =
    let h = c.part.ensures in
    part_does (inside c.args.self.now) (inside c.part.new.self) (platter g.D.Disk c.args.self.now.journal.disk) (platter g.D.Disk c.part.new.self.journal.disk) c.args.answer.now (aloft_of c.in-Some.flight)
    (ap (option_map aloft_of) (sym c.take.ensures.value ∙ c.in-Some.is)) c.in-Stale.len c.in-Stale.head c.part.result (c.in-Err.is ∙ ap Err c.in-Stale.is) h.answer h.fault
    (subst (λ o. OnOk c.part.result (inside c.part.new.self ≡ record (inside c.args.self.now) { journal = parted c.args.self.now.journal.state; aloft = option_map aloft_of o })) c.take.ensures.after h.session) h.writes h.stops

pub returns-clause-does : goal.returns-clause-does
returns-clause-does g c = record {
  aloft = aloft_of c.in-Some.flight;
  flies = ap (option_map aloft_of) (sym c.take.ensures.value ∙ c.in-Some.is);
  refusal = c.in-Err.refusal;
  put = c.in-Err.is;
  other = c.in_default-refusal.not-Stale;
  session = ap (λ o. let s : Inside = record (inside c.args.self.now) { aloft = option_map aloft_of o } in s) c.take.ensures.after;
  disk = refl;
}

pub returns-in-Ok-clause-owned : goal.returns-in-Ok-clause-owned
returns-in-Ok-clause-owned g c =
    each_unless (inside c.args.self.now) (inside c.land.new.self) c.land.result
    (λ d h. note_owned d (inside c.args.self.now) (inside c.land.new.self) h (platter g.D.Disk c.args.self.now.journal.disk) (platter g.D.Disk c.land.new.self.journal.disk) c.args.answer.now c.land.result c.requires.running (returns-in-Ok-clause-does g c))

pub returns-in-Stale-clause-owned : goal.returns-in-Stale-clause-owned
returns-in-Stale-clause-owned g c =
    each_unless (inside c.args.self.now) (inside c.part.new.self) c.part.result
    (λ d h. note_owned d (inside c.args.self.now) (inside c.part.new.self) h (platter g.D.Disk c.args.self.now.journal.disk) (platter g.D.Disk c.part.new.self.journal.disk) c.args.answer.now c.part.result c.requires.running (returns-in-Stale-clause-does g c))
