use Rattle.kb_files.specs.Opens.{Opens}
use Rattle.kb_files.proofs.Vaults.{opens_kept}
use Rattle.kb_snap.proofs.Kept.{row_within}
use Rattle.kb_snap.proofs.laws.more_blocks_law.Goals as goal

pub returns : goal.returns
returns g c old new keys kept l q p h =
    row_within (Opens g.S.Sealer.sealed g.H.BlockHash.hashed old keys) (Opens g.S.Sealer.sealed g.H.BlockHash.hashed new keys) (opens_kept g.S.Sealer.sealed g.H.BlockHash.hashed old new keys kept) l q p h
