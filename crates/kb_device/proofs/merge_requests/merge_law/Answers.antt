use Rattle.kb_device.proofs.Merge.{for_merge}
use Rattle.kb_device.proofs.merge_requests.merge_law.Goals as goal

pub returns : goal.returns
returns g c seed names f chain generation number head b t left request has made registered most known = for_merge g.S.Sealer.sealed g.S.Sealer.signed g.H.BlockHash.hashed g.met.S.Sealer.one_plain seed names f generation number head b t left request made chain has registered most known
