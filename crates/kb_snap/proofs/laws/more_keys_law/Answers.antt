use Rattle.kb_files.specs.Opens.{Opens}
use Rattle.kb_snap.proofs.Kept.{row_within}
use Rattle.kb_snap.proofs.laws.more_keys_law.Goals as goal

pub returns : goal.returns
returns g c blocks few more kept l q p h =
    row_within (Opens g.S.Sealer.sealed g.H.BlockHash.hashed blocks few) (Opens g.S.Sealer.sealed g.H.BlockHash.hashed blocks more)
    (λ ptr text x. record { key = x.key; known = kept ptr.generation x.key x.known; stored = x.stored; hash = x.hash }) l q p h
