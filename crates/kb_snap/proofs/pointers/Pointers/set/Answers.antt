use Rattle.std.proofs.Common.{ap, ◌∙◌}
use Rattle.std.specs.FinMap.{insert}
use Rattle.kb_snap.proofs.Maps.{inserted}
use Rattle.kb_snap.proofs.pointers.Pointers.set.Goals as goal

pub returns-clause-ok : goal.returns-clause-ok
returns-clause-ok c = inserted c.self.inside.by_id.entries c.insert.new.self.entries c.args.id c.args.ptr c.in_ok-insert.ensures.updates.0 ∙ ap (λ m. insert m c.args.id c.args.ptr) c.self.view_is
