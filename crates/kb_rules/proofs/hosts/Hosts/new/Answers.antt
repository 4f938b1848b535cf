use Rattle.std.proofs.Common.{refl}
use Rattle.kb_rules.specs.Hosting.{host_at}
use Rattle.kb_rules.proofs.hosts.Hosts.new.Goals as goal

pub returns : goal.returns
unfolding host_at
returns c = λ p n. rw c.new.ensures.empty refl
