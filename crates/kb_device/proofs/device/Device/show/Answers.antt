use Rattle.kb_device.specs.Views.{inside}
use Rattle.kb_device.proofs.Options.{none_by}
use Rattle.kb_device.proofs.Views.{inside_of, outside_of}
use Rattle.kb_device.proofs.Powers.{closed_look, looks}
use Rattle.std.proofs.Common.{length}
use Rattle.kb_device.proofs.Showing.{shows_kind}
use Rattle.kb_device.proofs.device.Device.show.Goals as goal

pub returns-in_default-clause-goes : goal.returns-in_default-clause-goes
returns-in_default-clause-goes g c seed names v f chain p view h =
    closed_look g.S.Sealer.sealed g.S.Sealer.signed g.H.BlockHash.hashed seed names v f chain p h c.args.show.now (outside_of c.args.self.now v view (none_by c.args.self.now.session c.in_default.not-Some))

pub returns-clause-goes : goal.returns-clause-goes
returns-clause-goes g c seed names v f chain p view h =
    looks g.S.Sealer.sealed g.S.Sealer.signed g.H.BlockHash.hashed seed names v f chain p h (inside c.in-Some.session) c.args.show.now c.show.result (inside_of c.args.self.now v c.in-Some.session view c.in-Some.is) c.show.ensures

pub returns-clause-kind : goal.returns-clause-kind
returns-clause-kind g c = let s = inside c.in-Some.session in shows_kind s.shown c.args.show.now s.journal.known (length s.journal.queue) c.show.result c.show.ensures
