use Rattle.kb_wire.specs.Fields.{u8_text, u64_text}
use Rattle.kb_ops.specs.Grammar.{node_text}
use Rattle.kb_ops.proofs.Appends.{in_turn}
use Rattle.kb_ops.proofs.encode.put_touch.Goals as goal

pub returns-clause-text : goal.returns-clause-text
returns-clause-text c = in_turn _ _ _ (u8_text 6) _ c.in_ok-u8.ensures.ok (in_turn _ _ _ (node_text c.args.node) (u64_text c.args.mtime) c.in_ok-put_node.ensures.text c.in_ok-put_moment.ensures.text)
