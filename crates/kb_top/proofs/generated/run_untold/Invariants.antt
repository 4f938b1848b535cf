use Rattle.std.proofs.Common.{◌≡◌, take}
use Rattle.kb_world.specs.Standing.{WorldStands}
use Rattle.kb_top.specs.Replies.{names_in}
use Rattle.kb_top.specs.Summaries.{names_given}
use Rattle.kb_top.proofs.Runs.{HasRun}
use Rattle.kb_top.proofs.generated.run_untold.Given as goal

abbrev pub invariant-loop-statement : goal.invariant-loop-statement
invariant-loop-statement g l = (ran : HasRun WorldStands (names_in l.fn.statements) l.world (take l.statement-index l.statements)) × (l.names ≡ names_given ran.each)
