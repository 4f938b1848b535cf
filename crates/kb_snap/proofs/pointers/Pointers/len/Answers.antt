use Rattle.std.proofs.Common.{ap, ◌∙◌}
use Rattle.std.specs.FinMap as map
use Rattle.kb_snap.proofs.Sorts.{len_is}
use Rattle.kb_snap.proofs.pointers.Pointers.len.Goals as goal

pub returns-clause-len : goal.returns-clause-len
returns-clause-len c = c.len.ensures.len ∙ len_is c.self.inside.by_id.entries c.len.ensures.ordered ∙ ap map.len c.self.view_is
