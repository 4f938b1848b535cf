use Rattle.std.proofs.Common.{take}
use Rattle.kb_world.specs.Standing.{WorldStands}
use Rattle.kb_top.specs.Replies.{names_in}
use Rattle.kb_top.proofs.Runs.{IsRunning}
use Rattle.kb_top.proofs.run.run_all.Given as goal

abbrev pub invariant-loop-statement : goal.invariant-loop-statement
invariant-loop-statement g l =
    IsRunning WorldStands (names_in l.fn.statements)
    l.world (g.K.Sink.held l.fn.sink) (g.K.Sink.held l.sink) (g.K.Sink.faults l.fn.sink) (g.K.Sink.faults l.sink) (take l.statement-index l.statements)
