use Rattle.std.proofs.Common.{◌≡◌, map, nat_eq, ap, ◌∙◌}
use Rattle.std.proofs.lemmas.Result.{IfOk-weaker}
use Rattle.kb_rules.specs.Code.{reaches_in}
use Rattle.kb_rules.proofs.Guessed.{reached_is}
use Rattle.kb_rules.proofs.walks.reached.Goals as goal

pub returns : goal.returns
returns c =
    let s = c.args.sides.now in
    IfOk-weaker c.are.result (λ v. v.items ≡ map (λ i. nat_eq i c.root_place.result) c.deref.result.now) (λ v. v.items ≡ map (reaches_in s) s.ids.now)
    (λ v e. reached_is s c.requires c.in_ok-ups.field-0.items c.in_ok-ends.ends.items v.items c.root_place.result c.in_ok-ups.ensures c.in_ok-ends.ensures c.root_place.ensures (e ∙ ap (map (λ i. nat_eq i c.root_place.result)) c.deref.ensures.value))
    c.are.ensures
