use Rattle.std.proofs.Common.{ap, sym, ◌∙◌, refl, subst}
use Rattle.std.proofs.Math.ListN.{set}
use Rattle.std.specs.List.{position}
use Rattle.kb_keys.specs.Halves.{is_half, HasOnly}
use Rattle.kb_keys.proofs.Places.{has_put, has_push}
use Rattle.kb_keys.proofs.halves.Halves.add.Goals as goal

pub returns-in-Some-clause-kept : goal.returns-in-Some-clause-kept
returns-in-Some-clause-kept c =
    let at = c.in-Some.ensures.place ∙ ap (position (is_half c.args.half.now.device c.args.half.now.generation)) c.as_slice.ensures.value in
    subst (λ old. HasOnly c.args.half.now old (set c.self.inside.halves.items c.in-Some.i c.args.half.now)) (ap (λ m. m.0) c.self.view_is) (has_put c.args.half.now c.self.inside.halves.items (set c.self.inside.halves.items c.in-Some.i c.args.half.now) c.in-Some.i (sym at) refl)

pub returns-in-None-clause-kept : goal.returns-in-None-clause-kept
returns-in-None-clause-kept c =
    let at = c.in-None.ensures.place ∙ ap (position (is_half c.args.half.now.device c.args.half.now.generation)) c.as_slice.ensures.value in
    subst (λ old. HasOnly c.args.half.now old c.push_reserved.new.self.items) (ap (λ m. m.0) c.self.view_is) (has_push c.args.half.now c.self.inside.halves.items c.push_reserved.new.self.items (sym at) c.push_reserved.ensures.items)
