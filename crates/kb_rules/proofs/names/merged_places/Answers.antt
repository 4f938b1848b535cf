use Rattle.std.proofs.Common.{◌<◌, get_or, length, sym, ap, ◌∙◌, ◌||◌, arith}
use Rattle.std.proofs.lemmas.List.Folds.{list_any_more}
use Rattle.kb_rules.specs.Naming.{merged_stands_in}
use Rattle.kb_rules.proofs.names.merged_places.Goals as goal

pub loop-q-preserved : goal.loop-q-preserved
loop-q-preserved c = λ p n.
    let s = c.args.seats.now.sides.now in
    let i = c.loop-q.q-index in
    let within : i < length s.ids.now = omega arith in
    let more = list_any_more (merged_stands_in s p n) s.ids.now i (record { device = 0; seq = 0; part = 0 }) within in
    c.in_ok-add_merged_place.ensures p n ∙ (ap (λ b. b || merged_stands_in s p n (get_or s.ids.now i (record { device = 0; seq = 0; part = 0 }))) (c.loop-q.invariant p n) ∙ sym more)
