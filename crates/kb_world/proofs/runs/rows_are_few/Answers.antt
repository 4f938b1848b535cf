use Rattle.kb_world.proofs.Rows.{few_rows}
use Rattle.kb_world.proofs.runs.rows_are_few.Goals as goal

pub returns : goal.returns
returns c = few_rows
