use Rattle.std.proofs.Common.{sym, ap, ◌∙◌, subst, IfSome, ◌≤◌, inl, inr, arith}
use Rattle.kb_turn.specs.Rule.{AreNumbered}
use Rattle.kb_turn.specs.Steps.{Follows}
use Rattle.kb_turn.specs.Views.{weight}
use Rattle.kb_turn.proofs.Lists.{if_none_is}
use Rattle.kb_turn.proofs.Meets.{closes, ends_out}
use Rattle.kb_turn.proofs.turn.Turn.close_with.Goals as goal

pub returns-else-is_out-clause-some : goal.returns-else-is_out-clause-some
returns-else-is_out-clause-some g c = let told = g.T.Told.told in let number_of = g.T.Told.number_of in
    let end = closes told number_of _ _ _ _ _ c.close_with-closed.ensures.values.2 c.word-is_out.result c.take-slot.result c.word-is_out.ensures c.take-slot.ensures.value c.if-is_out.false in
    subst (λ o. IfSome o (λ x. Follows number_of c.args.pass.seat.me.0 (told x))) (sym end.1)
    (subst (λ s. Follows number_of s.me.0 (told end.0)) c.into_seat.ensures end.2)

pub returns-else-is_out-clause-numbered : goal.returns-else-is_out-clause-numbered
returns-else-is_out-clause-numbered g c = let told = g.T.Told.told in let number_of = g.T.Told.number_of in
    let end = closes told number_of c.args.self.table.shared.key.0 _ _ _ _ c.close_with-closed.ensures.values.2 c.word-is_out.result c.take-slot.result c.word-is_out.ensures c.take-slot.ensures.value c.if-is_out.false in
    subst (λ o. IfSome o (λ x. AreNumbered number_of c.args.self.table.shared.key.0 (told x))) (sym end.1) end.3

pub returns-else-is_out-clause-none : goal.returns-else-is_out-clause-none
returns-else-is_out-clause-none g c = let told = g.T.Told.told in let number_of = g.T.Told.number_of in
    if_none_is _ c.take-slot.result
    (λ gone e le all.
    ends_out told number_of _ _ _ _ _ c.close_with-closed.ensures.values.2 (ap (λ s. s.me.0.holds) c.into_seat.ensures ∙ c.requires.2) c.word-is_out.result c.take-slot.result c.word-is_out.ensures c.take-slot.ensures.value (inr gone) e
    (subst (λ s. s.me.0.halvings ≤ e) (sym c.into_seat.ensures) le) (ap (λ s. weight e s.me.0) c.into_seat.ensures ∙ all))

pub returns-then-is_out-clause-none : goal.returns-then-is_out-clause-none
returns-then-is_out-clause-none g c e le all = let told = g.T.Told.told in let number_of = g.T.Told.number_of in
    ends_out told number_of _ _ _ _ _ c.close_with-closed.ensures.values.2 (ap (λ s. s.me.0.holds) c.into_seat.ensures ∙ c.requires.2) c.word-is_out.result c.take-slot.result c.word-is_out.ensures c.take-slot.ensures.value (inl (omega (arith, c.if-is_out.true))) e
    (subst (λ s. s.me.0.halvings ≤ e) (sym c.into_seat.ensures) le) (ap (λ s. weight e s.me.0) c.into_seat.ensures ∙ all)
