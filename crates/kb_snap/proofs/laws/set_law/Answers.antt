use Rattle.kb_files.specs.Opens.{Opens}
use Rattle.kb_snap.proofs.Sets.{bytes_of, opens_more, set_holds}
use Rattle.kb_snap.proofs.laws.set_law.Goals as goal

pub returns-clause-held : goal.returns-clause-held
returns-clause-held g c blocks keys look kept q p r all at is kind = bytes_of (Opens g.S.Sealer.sealed g.H.BlockHash.hashed blocks keys) look q p r is kind (all q p at)

pub returns-clause-sets : goal.returns-clause-sets
returns-clause-sets g c few more ring keys look left q p r stays known all is kind file =
    set_holds (Opens g.S.Sealer.sealed g.H.BlockHash.hashed few ring) (Opens g.S.Sealer.sealed g.H.BlockHash.hashed more keys) (opens_more g.S.Sealer.sealed g.H.BlockHash.hashed few more ring keys stays known) look left q p r all is kind file
