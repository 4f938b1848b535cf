use Rattle.kb_wire.specs.Fields.{u16_text, u32_text, u64_text}
use Rattle.kb_ops.specs.Grammar.{change_text}
use Rattle.kb_ops.proofs.Appends.{in_turn}
use Rattle.kb_ops.proofs.encode.put_op.Goals as goal

pub returns-clause-text : goal.returns-clause-text
returns-clause-text c = let op = c.args.op.now in
    in_turn _ _ _ (u16_text op.device) _ c.in_ok-u16.ensures.ok
    (in_turn _ _ _ (u32_text op.seq) _ c.in_ok-u32.ensures.ok
    (in_turn _ _ _ (u64_text op.moment) (change_text op.change) c.in_ok-put_moment.ensures.text c.in_ok-put_change.ensures.text))
