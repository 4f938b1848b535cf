use Rattle.std.proofs.Common.{rules, ap, ◌∙◌, subst}
use Rattle.kb_turn.specs.Steps.{Leads}
use Rattle.kb_turn.specs.Passes.{IsSum}
use Rattle.kb_turn.proofs.Whole.{counts, joins}
use Rattle.kb_turn.proofs.Meets.{meets}
use Rattle.kb_turn.proofs.turn.Turn.meet.Goals as goal

pub join_seat-requires : goal.join_seat-requires
join_seat-requires g c = let other = c.into_seat.ensures in let of = c.requires.other in (
  c.requires.pass.0,
  ap (λ s. s.table_id) other ∙ of.0,
  ap (λ s. s.me.1) other ∙ of.1,
  search rules,
  joins g.T.Told.told g.T.Told.number_of _ _ _ _ _ c.requires.pass.2 (ap (λ s. s.me.0.holds) other ∙ of.2),
)

pub load-requires : goal.load-requires
load-requires g c = (c.join_seat.ensures.0 ∙ c.requires.pass.0, search rules, counts g.T.Told.told g.T.Told.number_of _ _ _ _)

pub returns-clause-first : goal.returns-clause-first
returns-clause-first g c = let told = c.load.ensures.2 in
    (meets g.T.Told.number_of c.args.pass.now.seat.me.0 c.into_seat.result.me.0 c.join_seat.new.seat.me.0 c.load.new.seat.me.0 c.load.result (ap (λ m. m.0) c.join_seat.ensures.2) (ap (λ m. m.0) told.0) told.2).0

pub returns-clause-second : goal.returns-clause-second
returns-clause-second g c = let told = c.load.ensures.2 in
    subst (λ s. Leads g.T.Told.number_of s.me.0 c.load.new.seat.me.0) c.into_seat.ensures
    (meets g.T.Told.number_of c.args.pass.now.seat.me.0 c.into_seat.result.me.0 c.join_seat.new.seat.me.0 c.load.new.seat.me.0 c.load.result (ap (λ m. m.0) c.join_seat.ensures.2) (ap (λ m. m.0) told.0) told.2).1

pub returns-clause-share : goal.returns-clause-share
returns-clause-share g c = let told = c.load.ensures.2 in
    subst (λ s. IsSum c.args.pass.now.seat.me.0 s.me.0 c.load.new.seat.me.0) c.into_seat.ensures
    (meets g.T.Told.number_of c.args.pass.now.seat.me.0 c.into_seat.result.me.0 c.join_seat.new.seat.me.0 c.load.new.seat.me.0 c.load.result (ap (λ m. m.0) c.join_seat.ensures.2) (ap (λ m. m.0) told.0) told.2).2
