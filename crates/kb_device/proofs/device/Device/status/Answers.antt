use Rattle.kb_device.specs.Views.{inside}
use Rattle.kb_device.proofs.Options.{none_by}
use Rattle.kb_device.proofs.Views.{inside_of, outside_of}
use Rattle.kb_device.proofs.Powers.{closed_tell, tells}
use Rattle.kb_device.proofs.device.Device.status.Goals as goal

pub returns-in_default-clause-tells : goal.returns-in_default-clause-tells
returns-in_default-clause-tells g c v view = outside_of c.args.self.now v view (none_by c.args.self.now.session c.in_default.not-Some)

pub returns-in_default-clause-goes : goal.returns-in_default-clause-goes
returns-in_default-clause-goes g c seed names v f chain p view h =
    closed_tell g.S.Sealer.sealed g.S.Sealer.signed g.H.BlockHash.hashed seed names v f chain p h (outside_of c.args.self.now v view (none_by c.args.self.now.session c.in_default.not-Some))

pub returns-clause-tells : goal.returns-clause-tells
returns-clause-tells g c v view = (inside c.in-Some.session, inside_of c.args.self.now v c.in-Some.session view c.in-Some.is, c.status.ensures)

pub returns-clause-goes : goal.returns-clause-goes
returns-clause-goes g c seed names v f chain p view h =
    tells g.S.Sealer.sealed g.S.Sealer.signed g.H.BlockHash.hashed seed names v f chain p h (inside c.in-Some.session) c.status.result (inside_of c.args.self.now v c.in-Some.session view c.in-Some.is) c.status.ensures
