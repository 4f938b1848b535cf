use Rattle.std.proofs.Common.{◌∙◌}
use Rattle.kb_rules.proofs.HostFacts.{found_host}
use Rattle.kb_rules.proofs.hosts.Hosts.find.Goals as goal

pub returns : goal.returns
returns c = c.copied.ensures ∙ c.get.ensures.value ∙ found_host c.args.self.now c.args.place.now
