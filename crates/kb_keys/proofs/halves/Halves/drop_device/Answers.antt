use Rattle.std.proofs.Common.{rules, ap, subst}
use Rattle.std.proofs.lemmas.Fn.{filter_same}
use Rattle.kb_keys.specs.Halves.{HasNone}
use Rattle.kb_keys.proofs.Places.{stays, has_none}
use Rattle.kb_keys.proofs.halves.Halves.drop_device.Goals as goal

pub returns-clause-kept : goal.returns-clause-kept
returns-clause-kept c =
    subst (λ old. HasNone c.args.d old c.retain.new.self.items) (ap (λ m. m.0) c.self.view_is)
    (has_none c.args.d c.self.inside.halves.items c.retain.new.self.items (filter_same _ (stays c.args.d) _ (λ x b f' k. search rules) _ _ c.retain.ensures.filtered))
