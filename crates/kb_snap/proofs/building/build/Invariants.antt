use Rattle.std.proofs.Common.{vec_len}
use Rattle.kb_snap.proofs.Sealing.{IsSoFar}
use Rattle.kb_snap.proofs.building.build.Given as goal

abbrev pub invariant-rows : goal.invariant-rows
invariant-rows g l = IsSoFar g.S.Sealer.sealed g.H.BlockHash.hashed l.key l.generation l.table.tree l.old l.pointers l.left.items l.blocks.items

abbrev pub decreases-rows : goal.decreases-rows
decreases-rows g l = vec_len l.left
