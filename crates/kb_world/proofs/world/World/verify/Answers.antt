use Rattle.std.proofs.lemmas.Result.{IfOk-weaker}
use Rattle.kb_world.proofs.Wholeness.{can_audit, tells_whole}
use Rattle.kb_world.proofs.world.World.verify.Goals as goal

pub whole_line-requires : goal.whole_line-requires
whole_line-requires g c = can_audit c.args.self.now c.deref.result.now c.deref.ensures.value c.new-secrets.result c.new-secrets.ensures c.requires

pub returns : goal.returns
returns g c = IfOk-weaker c.whole_line.result _ _ (λ line is names s h. tells_whole c.args.self.now line is names s h) c.whole_line.ensures
