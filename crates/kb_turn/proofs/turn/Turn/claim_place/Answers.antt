use Rattle.std.proofs.Common.{rules}
use Rattle.kb_turn.proofs.Whole.{claims}
use Rattle.kb_turn.proofs.turn.Turn.claim_place.Goals as goal

pub compare_exchange-found-requires : goal.compare_exchange-found-requires
compare_exchange-found-requires g c = let of = c.requires in
    (of.0, search rules, claims g.T.Told.told g.T.Told.number_of _ _ _ _ of.1 of.3 of.4)
