use Rattle.kb_files.specs.Opens.{Opens}
use Rattle.kb_snap.proofs.Found.{stay_held, clear_stays}
use Rattle.kb_snap.proofs.laws.left_law.Goals as goal

pub returns : goal.returns
returns g c blocks keys old new changed kept left same all clear q p is =
    let x = clear q p is in
    stay_held (Opens g.S.Sealer.sealed g.H.BlockHash.hashed blocks keys) old new q p (clear_stays old new changed same q x.1) (all q p x.0)
