use Rattle.std.proofs.Common.{◌≡◌, map, ap, ◌∙◌, arith}
use Rattle.std.proofs.lemmas.Result.{IfOk-weaker}
use Rattle.kb_rules.specs.Code.{joined_in}
use Rattle.kb_rules.specs.Hosting.{is_joined}
use Rattle.kb_rules.proofs.JoinWalks.{settled_first, next_settled, all_settled}
use Rattle.kb_rules.proofs.joins.joins_of.Goals as goal

pub loop-i-init : goal.loop-i-init
loop-i-init c = λ a. settled_first c.args.sides.now a c.in_ok-known.known.items c.in_ok-known.ensures

pub loop-i-preserved : goal.loop-i-preserved
loop-i-preserved c = λ a. next_settled c.args.sides.now a c.args.ups.now c.loop-i.known.items c.settle_from.new.known.items c.args.kept.now c.loop-i.i c.requires.ups c.requires.kept (c.loop-i.invariant a) c.loop-i-test.true c.in_ok-settle_from.ensures

pub returns : goal.returns
returns c =
    let s = c.args.sides.now in
    IfOk-weaker c.all_known.result (λ v. v.items ≡ map is_joined c.deref.result.now) (λ v. v.items ≡ map (joined_in s) s.ids.now)
    (λ v e. e ∙ ap (map is_joined) c.deref.ensures.value ∙ all_settled s c.requires.sides c.loop-i.known.items c.loop-i.i (omega arith) (c.loop-i.invariant c.requires.sides))
    c.all_known.ensures
