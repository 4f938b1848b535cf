use Rattle.kb_keys.specs.Secrets.{folder_key}
use Rattle.kb_folder.specs.Held.{held}
use Rattle.kb_device.proofs.Keys.{sealed_is, length-key}
use Rattle.kb_device.proofs.reading.key_in.Goals as goal

pub returns : goal.returns
returns g c seed served made =
    c.key_from.ensures.one (folder_key seed c.args.entry.now.generation) (length-key seed c.args.entry.now.generation)
    (sealed_is g.S.Sealer.sealed seed (held c.args.folder.now) c.args.d c.args.most c.args.secret.now c.in-Ok.half c.args.entry.now c.requires served c.in-Ok.ensures.1 made)
