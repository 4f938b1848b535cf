use Rattle.std.proofs.Common.{ap, sym, ◌∙◌}
use Rattle.std.specs.FinMap.{get}
use Rattle.kb_snap.proofs.Maps.{get-lookup}
use Rattle.kb_snap.proofs.pointers.Pointers.get.Goals as goal

pub returns : goal.returns
returns c = c.copied.ensures ∙ c.get.ensures.value ∙ sym (get-lookup c.self.inside.by_id.entries c.args.id) ∙ ap (λ m. get m c.args.id) c.self.view_is
