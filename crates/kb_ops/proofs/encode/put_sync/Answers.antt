use Rattle.kb_wire.specs.Fields.{u8_text, u32_text}
use Rattle.kb_ops.specs.Grammar.{node_text, bytes_text}
use Rattle.kb_ops.proofs.Appends.{in_turn}
use Rattle.kb_ops.proofs.encode.put_sync.Goals as goal

pub returns-clause-text : goal.returns-clause-text
returns-clause-text c = in_turn _ _ _ (u8_text 4) _ c.in_ok-u8.ensures.ok
    (in_turn _ _ _ (node_text c.args.node) _ c.in_ok-put_node.ensures.text
    (in_turn _ _ _ (u32_text c.args.offset) _ c.in_ok-u32.ensures.ok
    (in_turn _ _ _ (bytes_text c.args.bytes.now) (u32_text c.args.size) c.in_ok-put_bytes.ensures c.in_ok-u32-2.ensures.ok)))
