use Rattle.std.proofs.Common.{◌≡◌, ◌++◌}
use Rattle.kb_gen.specs.Generated.{files}
use Rattle.kb_gen.proofs.statements.files.Given as goal

abbrev pub invariant-loop-before : goal.invariant-loop-before
invariant-loop-before l = l.statements.items ≡ l.fn.statements.items ++ files l.device l.letter l.before
