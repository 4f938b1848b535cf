use Rattle.std.proofs.Common.{ap, ◌∙◌}
use Rattle.std.specs.FinMap.{remove}
use Rattle.kb_snap.proofs.Maps.{removed}
use Rattle.kb_snap.proofs.pointers.Pointers.drop_one.Goals as goal

pub returns : goal.returns
returns c = removed c.self.inside.by_id.entries c.remove.new.self.entries c.args.id c.remove.ensures.updates.0 ∙ ap (λ m. remove m c.args.id) c.self.view_is
