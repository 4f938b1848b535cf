use Rattle.std.proofs.Common.{rules}
use Rattle.kb_turn.proofs.Whole.{counts_up}
use Rattle.kb_turn.proofs.turn.Turn.count_up.Goals as goal

pub fetch_add-requires : goal.fetch_add-requires
fetch_add-requires g c = let r = c.requires.entry in let has = r.2 in (
  has.0,
  search rules,
  counts_up g.T.Told.told g.T.Told.number_of _ _ _ _ r.0 r.1 has.1 r.3 has.2 has.3 c.requires.numbered r.4 c.requires.room,
)
