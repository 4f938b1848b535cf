use Rattle.kb_device.proofs.SettleFor.{settled}
use Rattle.kb_device.proofs.part_laws.settles_law.Goals as goal

pub returns : goal.returns
returns g c seed names f chain d moment plan p j generation head t left request has part has_plan named timed registered few tree knows made =
    settled g.S.Sealer.sealed g.S.Sealer.signed g.H.BlockHash.hashed g.met.S.Sealer.one_plain seed names f chain d moment plan p j part has_plan named timed few generation head t left request has registered tree knows made
