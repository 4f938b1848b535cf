use Rattle.kb_rules.proofs.HostFacts.{added_host}
use Rattle.kb_rules.proofs.hosts.Hosts.add.Goals as goal

pub returns : goal.returns
returns c = added_host c.args.self.now _ c.args.place c.args.id c.in_ok-insert.ensures.entries
