use Rattle.kb_world.proofs.PartAnswers.{parts_answer}
use Rattle.kb_world.proofs.runs.parts_answer.Goals as goal

pub returns : goal.returns
returns c = parts_answer
