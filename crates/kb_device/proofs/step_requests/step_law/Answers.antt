use Rattle.kb_device.proofs.Step.{for}
use Rattle.kb_device.proofs.step_requests.step_law.Goals as goal

pub returns : goal.returns
returns g c seed names f chain generation number head op t left cache old request has made registered most known = for g.S.Sealer.sealed g.S.Sealer.signed g.H.BlockHash.hashed g.met.S.Sealer.one_plain seed names f generation number head op t left cache old request made chain has registered most known
