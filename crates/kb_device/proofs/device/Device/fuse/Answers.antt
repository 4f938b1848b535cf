use Rattle.std.proofs.Common.{◌≡◌, None, is_some, refl, ap}
use Rattle.kb_device.specs.Inside.{Inside}
use Rattle.kb_device.specs.Views.{inside}
use Rattle.kb_device.proofs.Options.{none_of, no_rest}
use Rattle.kb_device.proofs.Powers.{fuses_session, fuses_rest, runs_same}
use Rattle.kb_device.proofs.device.Device.fuse.Goals as goal

pub returns-in-Some-clause-goes : goal.returns-in-Some-clause-goes
returns-in-Some-clause-goes g c seed names v view =
    let device = c.args.self.now in
    let none : device.resting ≡ None = none_of device.resting (no_rest (is_some device.resting) (is_some device.session) device.one (ap is_some c.in-Some.is)) in
    fuses_session g.S.Sealer.sealed g.S.Sealer.signed g.H.BlockHash.hashed seed names device _ refl refl refl v c.args.steps c.in-Some.session _ none c.in-Some.is none refl
    (λ i. let s : Inside = record (inside c.in-Some.session) { journal = c.arm.ensures.state i } in s)
    (record { content = c.arm.ensures.content; dirty = c.arm.ensures.dirty; left = c.arm.ensures.left }) view

pub returns-in-None-clause-goes : goal.returns-in-None-clause-goes
returns-in-None-clause-goes g c seed names v view =
    fuses_rest g.S.Sealer.sealed g.S.Sealer.signed g.H.BlockHash.hashed seed names c.args.self.now _ refl refl refl v c.args.steps c.in-None.is c.in-None.is c.arm-in-None.ensures view

pub returns-in-Some-clause-runs : goal.returns-in-Some-clause-runs
returns-in-Some-clause-runs g c =
    runs_same c.args.self.now.number c.in-Some.session _ (c.requires.runs c.in-Some.session c.in-Some.is) (λ i. let s : Inside = record (inside c.in-Some.session) { journal = c.arm.ensures.state i } in s) c.arm.ensures.opened
