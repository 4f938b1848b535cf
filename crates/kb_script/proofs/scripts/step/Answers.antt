use Rattle.std.proofs.Common.{◌∙◌, ap, sym, Ok}
use Rattle.kb_script.specs.Seen.{known}
use Rattle.kb_script.proofs.DevicesNew.{line_new}
use Rattle.kb_script.proofs.scripts.step.Goals as goal

pub note-requires-clause-new : goal.note-requires-clause-new
note-requires-clause-new c = line_new c.args.live (known c.args.seen.now) c.args.line.now c.in-Some.statement (c.in_ok-statement.ensures.value ∙ ap (λ o. Ok o) c.in-Some.is)
