use Rattle.std.proofs.Common.{refl, ap, sym, ◌∙◌}
use Rattle.std.specs.Option.{option_map}
use Rattle.kb_device.specs.Inside.{Inside}
use Rattle.kb_device.specs.Views.{inside, aloft_of}
use Rattle.kb_device.proofs.Options.{none_of}
use Rattle.kb_device.proofs.Running.{picks_run, goes_run}
use Rattle.kb_device.proofs.Requested.{picks_made, goes_only, owned_on}
use Rattle.kb_device.proofs.session.Session.pick.Goals as goal

pub returns-clause-does : goal.returns-clause-does
returns-clause-does g c =
    let made = c.in-Ok-request.ensures in
    picks_made g.S.Sealer.sealed g.S.Sealer.signed g.H.BlockHash.hashed c.args.secret.now (inside c.args.self.now) _ _ _ (aloft_of c.in-Ok-request.made.1) c.in_ok-op.op c.in_ok-op.ensures.0
    (ap (option_map aloft_of) (none_of c.args.self.now.aloft (sym c.is_some.ensures ∙ c.if-is_some.false))) (sym c.branched.ensures ∙ c.if-branched.false) (sym c.queue.ensures ∙ c.in_ok-op.ensures.1)
    c.in-Ok.ensures.ok made.session made.left made.beside refl made.made made.takes

pub returns-in-Err-request-clause-does : goal.returns-in-Err-request-clause-does
returns-in-Err-request-clause-does g c =
    let made = c.in-Err-request.ensures in
    goes_only (inside c.args.self.now) _ (inside c.request.new.self) c.in_ok-op.op c.in_ok-op.ensures.0 (sym c.queue.ensures ∙ c.in_ok-op.ensures.1) c.in-Ok.ensures.ok made.session made.left made.beside made.cache refl

pub returns-clause-owned : goal.returns-clause-owned
returns-clause-owned g c d =
    owned_on d (inside c.args.self.now) _ (ap (λ (x : Inside). x.journal) c.in-Ok-request.ensures.session) (ap (λ (x : Inside). x.shown) c.in-Ok-request.ensures.session)

pub returns-clause-running : goal.returns-clause-running
returns-clause-running g c =
    picks_run g.S.Sealer.sealed g.S.Sealer.signed g.H.BlockHash.hashed c.args.secret.now (inside c.args.self.now) _ c.in-Ok-request.made.0 c.requires.running (returns-clause-does g c)

pub returns-in-Err-request-clause-running : goal.returns-in-Err-request-clause-running
returns-in-Err-request-clause-running g c =
    goes_run (inside c.args.self.now) (inside c.request.new.self) c.requires.running (ap (option_map aloft_of) (none_of c.args.self.now.aloft (sym c.is_some.ensures ∙ c.if-is_some.false))) (sym c.branched.ensures ∙ c.if-branched.false) (returns-in-Err-request-clause-does g c)
