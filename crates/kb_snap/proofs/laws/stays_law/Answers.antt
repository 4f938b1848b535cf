use Rattle.kb_files.specs.Opens.{Opens}
use Rattle.kb_snap.proofs.Found.{stay_held}
use Rattle.kb_snap.proofs.laws.stays_law.Goals as goal

pub returns : goal.returns
returns g c blocks keys old new q p s h = stay_held (Opens g.S.Sealer.sealed g.H.BlockHash.hashed blocks keys) old new q p s h
