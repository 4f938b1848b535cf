use Rattle.kb_name.specs.Nodes.{root}
use Rattle.kb_ops.proofs.Kept.{some_and}
use Rattle.kb_ops.specs.Trees.{look}
use Rattle.kb_files.specs.Opens.{Opens}
use Rattle.kb_files.proofs.Vaults.{opens_same}
use Rattle.kb_snap.proofs.Forms.{each_holds}
use Rattle.kb_snap.proofs.Found.{rows_of_held}
use Rattle.kb_snap.proofs.laws.row_by_row_law.Goals as goal

pub returns-clause-down : goal.returns-clause-down
returns-clause-down g c blocks keys p t at w h =
    let r = some_and _ (look t root) w.rooted in
    each_holds (Opens g.S.Sealer.sealed g.H.BlockHash.hashed blocks keys) t w at h.each root r.0 p r.1 h.top

pub returns-clause-up : goal.returns-clause-up
returns-clause-up g c blocks keys p t w h =
    rows_of_held (Opens g.S.Sealer.sealed g.H.BlockHash.hashed blocks keys) (opens_same g.S.Sealer.sealed g.H.BlockHash.hashed blocks keys g.met.S.Sealer.one_plain) t w p h
