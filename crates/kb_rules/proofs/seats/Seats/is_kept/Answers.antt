use Rattle.kb_rules.specs.Code.{three_in, kept_in}
use Rattle.kb_rules.proofs.Tables.{told_at, not_in, kept_out}
use Rattle.kb_rules.proofs.seats.Seats.is_kept.Goals as goal

pub returns-in-Some : goal.returns-in-Some
returns-in-Some c = told_at (kept_in c.args.self.now.sides.now) c.args.self.now.sides.now.ids.now c.args.self.now.kept.items c.place.result c.in-Some.i c.args.q c.index.result.now c.requires.kept c.place.ensures.is c.in-Some.is c.index.ensures

pub returns-in-None : goal.returns-in-None
unfolding kept_in
returns-in-None c = kept_out c.requires.sides.n c.requires.sides.m (three_in c.args.self.now.sides.now) c.requires.sides.can c.args.q (not_in c.args.self.now.sides.now.ids.now c.place.result c.args.q c.place.ensures.is c.in-None.is)
