use Rattle.std.proofs.Common.{None, refl, sym, subst}
use Rattle.kb_device.specs.Lending.{LendsBranch}
use Rattle.kb_device.proofs.Options.{none_by}
use Rattle.kb_device.proofs.Views.{inside_of, outside_of}
use Rattle.kb_device.proofs.device.Device.branch.Goals as goal

pub returns-in_default : goal.returns-in_default
returns-in_default g c v view = subst (λ o. LendsBranch o None) (sym (outside_of c.args.self.now v view (none_by c.args.self.now.session c.in_default.not-Some))) refl

pub returns : goal.returns
returns g c v view = subst (λ o. LendsBranch o c.branch-session.result) (sym (inside_of c.args.self.now v c.in-Some.session view c.in-Some.is)) c.branch-session.ensures
