use Rattle.std.proofs.Common.{rules, sym, ap, ◌∙◌, subst, [], ◌∷◌, ◌++◌, append_assoc, All, ◌≤◌, arith}
use Rattle.kb_turn.specs.declared.pass.Pass.{Pass}
use Rattle.kb_turn.specs.Steps.{Leads}
use Rattle.kb_turn.specs.Passes.{total_of, view, IsPassOf}
use Rattle.kb_turn.proofs.Lists.{all_left, all_last, all_cons, nil_of_length}
use Rattle.kb_turn.proofs.Meets.{leads_trans, total_of_snoc}
use Rattle.kb_turn.proofs.turn.Turn.gather.Goals as goal

pub loop-other-preserved : goal.loop-other-preserved
loop-other-preserved g c =
    let n = g.T.Told.number_of in
    let inv = c.loop-other.invariant in
    let items = c.in-Some.ensures.items in
    let other = c.in-Some.other in
    let ps = inv.done.0 in
    let of : Pass g.row.T.Denot g.row.T-Entry.Denot g.T.Told → Type 0 = IsPassOf c.args.self.now in
    let ahead : Pass g.row.T.Denot g.row.T-Entry.Denot g.T.Told → Type 0 = λ p. Leads n (view p) (view c.meet.new.pass) in
    record {
      pass = c.meet.ensures.pass inv.pass.4;
      rest = all_left of c.pop.new.self.items (other ∷ []) (subst (All of) items inv.rest);
      first = leads_trans n (view c.args.pass) (view c.loop-other.pass) (view c.meet.new.pass) inv.first c.meet.ensures.first;
      done = (
        other ∷ ps,
        inv.done.1 ∙ (ap (λ l. l ++ ps) items ∙ append_assoc c.pop.new.self.items (other ∷ []) ps),
        all_cons ahead other ps c.meet.ensures.second (λ k d lt. leads_trans n _ (view c.loop-other.pass) (view c.meet.new.pass) (inv.done.2 k d lt) c.meet.ensures.first),
      );
      share = λ e all le.
          let s = inv.share e all le in
          let small : Pass g.row.T.Denot g.row.T-Entry.Denot g.T.Told → Type 0 = λ p. (view p).halvings ≤ e in
          let rest = all_left small c.loop-other.passes.items ps (subst (All small) inv.done.1 all) in
          let sum = c.meet.ensures.share e s.0 (all_last small c.pop.new.self.items other (subst (All small) items rest)) in
          let cut = ap (total_of e) items ∙ total_of_snoc e c.pop.new.self.items other in
          let t = s.1 in
          (sum.0, omega (arith, sum.1, cut, t));
    }

pub returns-clause-rest : goal.returns-clause-rest
returns-clause-rest g c =
    let inv = c.loop-other.invariant in
    let ahead : Pass g.row.T.Denot g.row.T-Entry.Denot g.T.Told → Type 0 = λ p. Leads g.T.Told.number_of (view p) (view c.loop-other.pass) in
    let none_left = nil_of_length c.loop-other.passes.items (let z = c.in_default.ensures.cases.0 in search rules) in
    subst (All ahead) (sym (inv.done.1 ∙ ap (λ l. l ++ inv.done.0) none_left)) inv.done.2

pub returns-clause-share : goal.returns-clause-share
returns-clause-share g c e all le =
    let s = c.loop-other.invariant.share e all le in
    let none_left = nil_of_length c.loop-other.passes.items (let z = c.in_default.ensures.cases.0 in search rules) in
    let t = ap (total_of e) none_left in
    (s.0, omega (arith, s.1, t))
