use Rattle.std.proofs.Common.{refl}
use Rattle.kb_device.proofs.Powers.{leaves}
use Rattle.kb_device.proofs.device.Device.leave.Goals as goal

pub returns-clause-goes : goal.returns-clause-goes
returns-clause-goes g c seed names v view = leaves g.S.Sealer.sealed g.S.Sealer.signed g.H.BlockHash.hashed seed names c.args.self.now _ refl refl refl v c.args.self.now.one c.rest.ensures.disk c.rest.ensures.ended view
