use Rattle.std.proofs.Common.{rules, sym, ap, ◌∙◌, subst, [], ◌∷◌, All, ◌≡◌, ◌<◌, ◌≤◌, ◌*◌, ◌^◌, arith}
use Rattle.std.proofs.Math.Nat.{mul-pos}
use Rattle.std.proofs.lemmas.Nat.{pow_pos}
use Rattle.kb_turn.specs.declared.pass.Pass.{Pass}
use Rattle.kb_turn.specs.Views.{weight}
use Rattle.kb_turn.specs.Steps.{Follows}
use Rattle.kb_turn.specs.Passes.{view, total_of}
use Rattle.kb_turn.proofs.Lists.{all_left, all_last, all_snoc, if_some_more, if_none_more, if_none_is, nil_of_length}
use Rattle.kb_turn.proofs.Meets.{leads_follow, total_of_snoc}
use Rattle.kb_turn.proofs.turn.Turn.close.Goals as goal

pub returns-in-Some-clause-some : goal.returns-in-Some-clause-some
returns-in-Some-clause-some g c =
    let told = g.T.Told.told in
    let n = g.T.Told.number_of in
    let gathered = c.gather-pass.ensures in
    let pass = c.gather-pass.result in
    let first = c.in-Some.first in
    let P : g.row.T.Denot → Type 0 = λ x. Follows n (view pass) (told x) in
    let F : g.row.T.Denot → Pass g.row.T.Denot g.row.T-Entry.Denot g.T.Told → Type 0 = λ x p. Follows n (view p) (told x) in
    if_some_more P (λ x. All (F x) c.args.passes.items) c.close_with.result
    (λ x h.
    subst (All (F x)) (sym c.in-Some.ensures.items)
    (all_snoc (F x) c.pop.new.self.items first (λ k d lt. leads_follow told n _ (view pass) (told x) (gathered.rest k d lt) h) (leads_follow told n (view first) (view pass) (told x) gathered.first h)))
    c.close_with.ensures.some

pub returns-in-Some-clause-none : goal.returns-in-Some-clause-none
returns-in-Some-clause-none g c =
    let gathered = c.gather-pass.ensures in
    let first = c.in-Some.first in
    let items = c.in-Some.ensures.items in
    if_none_more _ _ c.close_with.result
    (λ out all.
    let e = all.0 in
    let small : Pass g.row.T.Denot g.row.T-Entry.Denot g.T.Told → Type 0 = λ p. (view p).halvings ≤ e in
    let each = subst (All small) items all.1 in
    let s = gathered.share e (all_left small c.pop.new.self.items (first ∷ []) each) (all_last small c.pop.new.self.items first each) in
    let cut = ap (total_of e) items ∙ total_of_snoc e c.pop.new.self.items first in
    let sum = all.2 in
    out e s.0 (let t : weight e (view c.gather-pass.result) ≡ total_of e c.args.passes.items = omega (arith, s.1, cut) in t ∙ sum))
    c.close_with.ensures.none

pub returns-in-None-clause-none : goal.returns-in-None-clause-none
returns-in-None-clause-none g c =
    let empty = nil_of_length c.args.passes.items (let z = c.in-None.ensures.cases.0 in search rules) in
    if_none_is _ c.close_alone.result
    (λ gone all.
    let e = all.0 in
    let none = ap (total_of e) empty in
    let some_left : 0 < c.args.self.table.shared.key.0 * 2 ^ e = mul-pos c.args.self.some (pow_pos e) in
    let sum = all.2 in
    omega (arith, none, sum))
