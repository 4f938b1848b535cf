use Rattle.std.proofs.Common.{rules, sym, ap, ◌∙◌, ◌≡◌, subst, arith, ℕ, ◌<◌, ◌+◌, ◌-◌, [], false, length}
use Rattle.kb_turn.specs.declared.pass.Pass.{Pass}
use Rattle.kb_turn.specs.Views.{numbered, newcomer}
use Rattle.kb_turn.specs.Passes.{view, IsPassOf, AreDealt}
use Rattle.kb_turn.proofs.Lists.{each_snoc}
use Rattle.kb_turn.proofs.Meets.{dealt_are_all}
use Rattle.kb_turn.proofs.Whole.{hands_out}
use Rattle.kb_turn.proofs.turn.Turn.deal.Goals as goal

pub split_seat-next-requires : goal.split_seat-next-requires
split_seat-next-requires g c = let next = c.loop-k.invariant.next in
    (next.0, search rules, hands_out g.T.Told.told g.T.Told.number_of _ _ c.loop-k.seat.me.0 (subst (λ (n : ℕ). 0 < n) (sym next.1) (omega arith)) (let low = next.1 in let all = c.requires.seat.1 in let more = c.loop-k-test.true in omega arith) (let left = next.3 in let more = c.loop-k-test.true in omega arith) next.4 next.5)

pub loop-k-preserved : goal.loop-k-preserved
loop-k-preserved g c = let next = c.loop-k.invariant.next in let cut = c.split_seat-next.ensures in let v = c.loop-k.seat.me.0 in
    let items = c.loop-k.passes.items in
    let begun = c.args.seat.me.0.seen in
    let count : length items ≡ c.loop-k.k = let n = c.loop-k.invariant.count in search rules in
    let first : numbered v ≡ newcomer begun (length items + 1) =
    (λ i. record { seen = next.2 i; holds = false; number = next.1 i; gone = []; next = 0; loaded = 0; kept = []; missed = 0; parts = 1; halvings = 0 }) ∙ ap (λ (n : ℕ). newcomer begun (n + 1)) (sym count) in
    let P : ℕ → Pass g.row.T.Denot g.row.T-Entry.Denot g.T.Told → Type 0 = λ j p. IsPassOf c.args.self.now p × (view p ≡ newcomer begun (j + 1)) in
    let me = cut.4 in record {
      next = (cut.0 ∙ next.0, ap (λ m. m.0.next) cut.2 ∙ ap (λ (n : ℕ). n + 1) next.1, ap (λ m. m.0.seen) cut.2 ∙ next.2, (let less : c.split_seat-next.new.seat.me.0.parts ≡ v.parts - 1 = ap (λ m. m.0.parts) cut.2 in let left = next.3 in let more = c.loop-k-test.true in omega arith), ap (λ m. m.0.halvings) cut.2 ∙ next.4, ap (λ m. m.0.holds) cut.2 ∙ next.5);
      count = search rules;
      room = search rules;
      dealt = subst (AreDealt c.args.self.now begun) (sym c.push_reserved.ensures.items)
          (each_snoc P items _ c.loop-k.invariant.dealt ((cut.3 ∙ next.0, ap (λ m. m.1) me, ap (λ m. m.0.holds) me, ap (λ m. m.0.kept) me, (let one : c.split_seat-next.result.me.0.parts ≡ 1 = ap (λ m. m.0.parts) me in omega arith)), ap (λ m. m.0) me ∙ first));
    }

pub returns-clause-all : goal.returns-clause-all
returns-clause-all g c = let dealt = c.loop-k.invariant.dealt in dealt_are_all c.args.self.now c.args.seat.me.0.seen c.loop-k.passes.items (let n = c.loop-k.invariant.count in let m = c.requires.seat.1 in search rules) dealt
