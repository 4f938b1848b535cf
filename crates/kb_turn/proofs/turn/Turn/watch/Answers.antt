use Rattle.std.proofs.Common.{rules}
use Rattle.kb_turn.proofs.Whole.{watches}
use Rattle.kb_turn.proofs.turn.Turn.watch.Goals as goal

pub split_seat-seat-requires : goal.split_seat-seat-requires
split_seat-seat-requires g c = (c.requires.0, search rules, watches g.T.Told.told g.T.Told.number_of _ _ _)
