use Rattle.std.proofs.Common.{[], ◌∷◌}
use Rattle.kb_rekey.specs.Founding.{any_names, founded_by}
use Rattle.kb_top.proofs.tests.audit.begun.Goals as goal

pub returns-clause-standing : goal.returns-clause-standing
returns-clause-standing g c = record { names = any_names; chain = founded_by any_names 1 0 ∷ []; stands = c.in_ok-found.ensures.1 any_names }
