use Rattle.kb_files.specs.Opens.{Opens}
use Rattle.kb_files.proofs.Vaults.{opens_same}
use Rattle.kb_snap.proofs.Single.{tree_same}
use Rattle.kb_snap.proofs.laws.one_tree_law.Goals as goal

pub returns : goal.returns
returns g c blocks keys p m s t x y =
    tree_same (Opens g.S.Sealer.sealed g.H.BlockHash.hashed blocks keys) (opens_same g.S.Sealer.sealed g.H.BlockHash.hashed blocks keys g.met.S.Sealer.one_plain) p m s t x y
