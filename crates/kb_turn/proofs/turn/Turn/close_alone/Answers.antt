use Rattle.std.proofs.Common.{sym, subst, IfSome}
use Rattle.kb_turn.specs.Rule.{AreNumbered}
use Rattle.kb_turn.proofs.Meets.{closes_alone}
use Rattle.kb_turn.proofs.turn.Turn.close_alone.Goals as goal

pub returns-else-is_out : goal.returns-else-is_out
returns-else-is_out g c = let told = g.T.Told.told in let number_of = g.T.Told.number_of in
    let end = closes_alone told number_of c.args.self.table.shared.key.0 _ _ c.close-closed.ensures.values.2 c.word-is_out.result c.take-slot.result c.word-is_out.ensures c.take-slot.ensures.value c.if-is_out.false in
    subst (λ o. IfSome o (λ x. AreNumbered number_of c.args.self.table.shared.key.0 (told x))) (sym end.1) end.2
