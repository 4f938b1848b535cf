use Rattle.kb_wire.specs.Fields.{u8_text}
use Rattle.kb_ops.specs.Grammar.{node_text, name_text, kind_text, bytes_text}
use Rattle.kb_ops.proofs.Appends.{in_turn}
use Rattle.kb_ops.proofs.encode.put_create.Goals as goal

pub returns-clause-text : goal.returns-clause-text
returns-clause-text c = in_turn _ _ _ (u8_text 1) _ c.in_ok-u8.ensures.ok
    (in_turn _ _ _ (node_text c.args.parent) _ c.in_ok-put_node.ensures.text
    (in_turn _ _ _ (name_text c.args.name.now) _ c.in_ok-put_name.ensures
    (in_turn _ _ _ (kind_text c.args.kind) (bytes_text c.args.bytes.now) c.in_ok-put_kind.ensures c.in_ok-put_bytes.ensures)))
