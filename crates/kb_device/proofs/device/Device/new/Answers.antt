use Rattle.std.proofs.Common.{None, refl}
use Rattle.kb_device.specs.Views.{platter}
use Rattle.kb_device.proofs.Powers.{new_stands}
use Rattle.kb_device.proofs.device.Device.new.Goals as goal

pub returns-clause-stands : goal.returns-clause-stands
returns-clause-stands g c = (
  record { number = c.args.number; name = c.args.name; secret = c.args.secret; disk = platter g.D.Disk c.args.disk; inside = None },
  record { number = refl; name = refl; secret = refl; held = c.args.disk; has = refl; disk = refl; inside_is = refl },
  refl,
  λ seed names f chain size is. new_stands g.S.Sealer.sealed g.S.Sealer.signed g.H.BlockHash.hashed seed names f chain (record { number = c.args.number; name = c.args.name; secret = c.args.secret; disk = platter g.D.Disk c.args.disk; inside = None }) size refl is,
)
