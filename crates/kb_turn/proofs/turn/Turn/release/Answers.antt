use Rattle.std.proofs.Common.{rules}
use Rattle.kb_turn.proofs.Whole.{releases}
use Rattle.kb_turn.proofs.turn.Turn.release.Goals as goal

pub swap-requires : goal.swap-requires
swap-requires g c = let r = c.requires in let has = r.1 in (
  has.0,
  search rules,
  releases g.T.Told.told g.T.Told.number_of _ _ _ _ r.0 has.1 r.2 has.2,
)
