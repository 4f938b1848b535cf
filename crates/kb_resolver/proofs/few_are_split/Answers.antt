use Rattle.kb_resolver.proofs.Split.{few_split}
use Rattle.kb_resolver.proofs.few_are_split.Goals as goal

pub returns : goal.returns
returns c = few_split
