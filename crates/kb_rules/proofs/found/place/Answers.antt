use Rattle.std.proofs.Common.{◌≡◌, ℕ, true, cond, List, Option, Some, None, slice_get, sym, ap, ◌∙◌}
use Rattle.std.proofs.lemmas.Option.{slice_get_within}
use Rattle.kb_name.specs.declared.ids.NodeId.{NodeId}
use Rattle.kb_rules.specs.Code.{ascend, before, place_in}
use Rattle.kb_rules.proofs.Positions.{place_at, place_is}
use Rattle.kb_rules.proofs.found.place.Goals as goal

at : (k : NodeId) (ids : List NodeId) (i : ℕ) (o : Option NodeId) → ascend ids ≡ true → i ≡ before k ids → o ≡ slice_get ids i → place_at k i o ≡ place_in ids k
at k ids i o up place got = ap (place_at k i) got ∙ ap (λ j. place_at k j (slice_get ids j)) place ∙ place_is k ids up

pub returns-then-eq-clause-is : goal.returns-then-eq-clause-is
returns-then-eq-clause-is c =
    sym (ap (λ b. cond b (Some c.ids_before-place.result) None) (sym c.eq.ensures ∙ c.if-eq.true))
    ∙ at c.args.id c.args.ids.now c.ids_before-place.result (Some c.in-Some.q) c.requires c.ids_before-place.ensures c.in-Some.ensures

pub returns-else-eq-clause-is : goal.returns-else-eq-clause-is
returns-else-eq-clause-is c =
    sym (ap (λ b. cond b (Some c.ids_before-place.result) None) (sym c.eq.ensures ∙ c.if-eq.false))
    ∙ at c.args.id c.args.ids.now c.ids_before-place.result (Some c.in-Some.q) c.requires c.ids_before-place.ensures c.in-Some.ensures

pub returns-in-None-clause-is : goal.returns-in-None-clause-is
returns-in-None-clause-is c = at c.args.id c.args.ids.now c.ids_before-place.result None c.requires c.ids_before-place.ensures c.in-None.ensures

pub returns-then-eq-clause-within : goal.returns-then-eq-clause-within
returns-then-eq-clause-within c = slice_get_within c.args.ids.now c.ids_before-place.result c.in-Some.q (sym c.in-Some.ensures)
