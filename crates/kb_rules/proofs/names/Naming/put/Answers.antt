use Rattle.kb_rules.proofs.NamingFacts.{name_put}
use Rattle.kb_rules.proofs.names.Naming.put.Goals as goal

pub returns-clause-names : goal.returns-clause-names
returns-clause-names c = name_put c.args.self.now.names _ c.args.q c.args.given.name c.in_ok-insert.ensures.updates
