use Rattle.kb_world.proofs.Determined.{plain_answers}
use Rattle.kb_world.proofs.runs.plain_runs_answer.Goals as goal

pub returns : goal.returns
returns c = plain_answers
