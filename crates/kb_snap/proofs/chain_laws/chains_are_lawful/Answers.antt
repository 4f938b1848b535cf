use Rattle.kb_snap.proofs.ChainLaws.{chain_laws}
use Rattle.kb_snap.proofs.chain_laws.chains_are_lawful.Goals as goal

pub returns : goal.returns
returns c = chain_laws
