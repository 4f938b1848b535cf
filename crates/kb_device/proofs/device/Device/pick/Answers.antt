use Rattle.std.proofs.Common.{◌≡◌, None, Some, Err, is_some, refl, sym, ap, subst, ◌∙◌}
use Rattle.kb_device.specs.Views.{inside, platter}
use Rattle.kb_device.specs.Picking.{PickDoes}
use Rattle.kb_device.proofs.Options.{none_of, none_by, no_rest}
use Rattle.kb_device.proofs.Views.{inside_of, outside_of, disk_of, same_view, kept_view}
use Rattle.kb_device.proofs.Answering.{closed_pick, pick_answers}
use Rattle.kb_device.proofs.Few.{pick_is_few}
use Rattle.kb_device.proofs.Aloft.{picks_wait, err_by}
use Rattle.kb_device.proofs.Flying.{pick_flies}
use Rattle.kb_device.proofs.device.Device.pick.Goals as goal

pub returns-in_default-clause-goes : goal.returns-in_default-clause-goes
returns-in_default-clause-goes g c seed names v view =
    let none = none_by c.args.self.now.session c.in_default.not-Some in
    (v, same_view c.args.self.now _ v refl refl refl refl refl view, closed_pick g.S.Sealer.sealed g.S.Sealer.signed g.H.BlockHash.hashed seed names v v (outside_of c.args.self.now v view none) refl)

pub pick-requires : goal.pick-requires
pick-requires g c = record { running = (c.requires.runs c.in-Some.session c.in-Some.is).running }

pub returns-clause-goes : goal.returns-clause-goes
returns-clause-goes g c seed names v view =
    let device = c.args.self.now in
    let s = c.in-Some.session in
    let t = c.pick.new.self in
    let h = c.pick.ensures in
    let none : device.resting ≡ None = none_of device.resting (no_rest (is_some device.resting) (is_some device.session) device.one (ap is_some c.in-Some.is)) in
    let disk : v.disk ≡ platter g.D.Disk t.journal.disk = disk_of device v s view none c.in-Some.is ∙ ap (λ j. platter g.D.Disk j.disk) (sym h.journal) in (
      record v { inside = Some (inside t) },
      kept_view device _ v t refl refl refl none refl disk view,
      pick_answers g.S.Sealer.sealed g.S.Sealer.signed g.H.BlockHash.hashed seed names v (inside s) (inside t) (inside_of device v s view c.in-Some.is) c.pick.result
          (subst (λ x. PickDoes g.S.Sealer.sealed g.S.Sealer.signed g.H.BlockHash.hashed x (inside s) (inside t) c.pick.result) (sym view.secret) h.does) h.running (c.picks_law.ensures seed names),
    )

pub returns-in_default-clause-waits : goal.returns-in_default-clause-waits
returns-in_default-clause-waits g c seed v view =
    (v, same_view c.args.self.now _ v refl refl refl refl refl view, record { sent = λ f request h. h; answer = λ f answer h. h })

pub returns-clause-waits : goal.returns-clause-waits
returns-clause-waits g c = err_by c.pick.result (λ fault is seed v view. (
    let device = c.args.self.now in
    let s = c.in-Some.session in
    let t = c.pick.new.self in
    let h = c.pick.ensures in
    let none : device.resting ≡ None = none_of device.resting (no_rest (is_some device.resting) (is_some device.session) device.one (ap is_some c.in-Some.is)) in
    let disk : v.disk ≡ platter g.D.Disk t.journal.disk = disk_of device v s view none c.in-Some.is ∙ ap (λ j. platter g.D.Disk j.disk) (sym h.journal) in (
      record v { inside = Some (inside t) },
      kept_view device _ v t refl refl refl none refl disk view,
      picks_wait g.S.Sealer.sealed g.H.BlockHash.hashed seed v (record v { inside = Some (inside t) }) (inside s) (inside t) (inside_of device v s view c.in-Some.is) refl g.S.Sealer.signed device.secret (c.requires.runs s c.in-Some.is).running (Err fault)
          (subst (λ r. PickDoes g.S.Sealer.sealed g.S.Sealer.signed g.H.BlockHash.hashed device.secret (inside s) (inside t) r) is h.does),
    )))

pub returns-clause-few : goal.returns-clause-few
returns-clause-few g c seed names v view =
    let s = c.in-Some.session in
    pick_is_few g.S.Sealer.sealed g.S.Sealer.signed g.H.BlockHash.hashed c.few_law.ensures seed names v c.args.self.now.secret (inside s) (inside c.pick.new.self) (inside_of c.args.self.now v s view c.in-Some.is) (c.requires.runs s c.in-Some.is).running c.pick.result c.pick.ensures.does

pub returns-in_default-clause-flies : goal.returns-in_default-clause-flies
returns-in_default-clause-flies g c v view = (v, same_view c.args.self.now _ v refl refl refl refl refl view, refl)

pub returns-clause-flies : goal.returns-clause-flies
returns-clause-flies g c v view =
    let device = c.args.self.now in
    let s = c.in-Some.session in
    let t = c.pick.new.self in
    let h = c.pick.ensures in
    let none : device.resting ≡ None = none_of device.resting (no_rest (is_some device.resting) (is_some device.session) device.one (ap is_some c.in-Some.is)) in
    let disk : v.disk ≡ platter g.D.Disk t.journal.disk = disk_of device v s view none c.in-Some.is ∙ ap (λ j. platter g.D.Disk j.disk) (sym h.journal) in (
      record v { inside = Some (inside t) },
      kept_view device _ v t refl refl refl none refl disk view,
      pick_flies v (record v { inside = Some (inside t) }) (inside s) (inside t) (inside_of device v s view c.in-Some.is) refl g.S.Sealer.sealed g.S.Sealer.signed g.H.BlockHash.hashed device.secret c.pick.result h.does,
    )
