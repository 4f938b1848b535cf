use Rattle.kb_device.proofs.PickFor.{picked}
use Rattle.kb_device.proofs.part_laws.picks_law.Goals as goal

pub returns : goal.returns
returns g c seed names f chain d p q flight ask op rest generation head t left cache old request has part step queue tree registered knows made =
    picked g.S.Sealer.sealed g.S.Sealer.signed g.H.BlockHash.hashed g.met.S.Sealer.one_plain seed names f chain d p q flight ask op rest part step queue generation head t left cache old request has tree registered knows made
