use Rattle.std.proofs.lemmas.Result.{IfOk-weaker}
use Rattle.kb_world.proofs.WorldChain.{has_chain, are_named}
use Rattle.kb_world.proofs.world.World.list.Goals as goal

pub chain_lines-requires : goal.chain_lines-requires
chain_lines-requires g c = has_chain c.args.self.now c.deref.result.now c.deref.ensures.value c.requires

pub returns : goal.returns
returns g c = IfOk-weaker c.chain_lines.result _ _ (λ lines are names s h. are s.seed names s.chain h.folder (are_named c.args.self.now c.deref.result.now c.deref.ensures.value names s h)) c.chain_lines.ensures
