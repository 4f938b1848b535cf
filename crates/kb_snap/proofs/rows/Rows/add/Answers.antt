use Rattle.std.proofs.Common.{ap, ◌∙◌}
use Rattle.std.specs.FinMap.{insert}
use Rattle.kb_snap.proofs.Maps.{inserted}
use Rattle.kb_snap.proofs.rows.Rows.add.Goals as goal

pub returns : goal.returns
returns c = inserted c.self.inside.by_id.entries c.insert.new.self.entries c.args.row.id c.args.row c.in_ok-insert.ensures.updates.0 ∙ ap (λ m. insert m c.args.row.id c.args.row) c.self.view_is
