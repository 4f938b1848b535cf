use Rattle.kb_ops.specs.declared.rows.Change.{Change}
use Rattle.kb_ops.specs.Grammar.{fields_text, HasTag}
use Rattle.kb_ops.proofs.Reading.{passed, no_length, no_write, untrue}
use Rattle.kb_ops.proofs.decode.read_sync.Goals as goal

pub returns-in_err-length : goal.returns-in_err-length
returns-in_err-length c = passed {Y = Change} (λ x. x) fields_text (HasTag 4) _ _ _ _ c.from_residual-in_err-length.ensures.1
    (no_length c.args.reader.now c.take_node.new.reader c.take_u32.new.reader c.take_bytes.new.reader c.in_ok-node.node c.in_ok-offset.offset c.in_ok-bytes.bytes c.in_ok-node.ensures.0 c.in_ok-node.ensures.1 c.in_ok-offset.ensures.0 c.in_ok-offset.ensures.1 c.in_ok-bytes.ensures.0 c.in_ok-bytes.ensures.1 c.in_err-length.field-0.0 c.in_err-length.ensures)

pub returns-then-not-is_write : goal.returns-then-not-is_write
returns-then-not-is_write c = no_write c.args.reader.now c.take_node.new.reader c.take_u32.new.reader c.take_bytes.new.reader c.take_u32-2.new.reader c.in_ok-node.node c.in_ok-offset.offset c.in_ok-bytes.bytes c.in_ok-length.length c.in_ok-node.ensures.0 c.in_ok-node.ensures.1 c.in_ok-offset.ensures.0 c.in_ok-offset.ensures.1 c.in_ok-bytes.ensures.0 c.in_ok-bytes.ensures.1 c.in_ok-length.ensures.0 c.in_ok-length.ensures.1
    (untrue c.is_write.result c.if-not-is_write.true (rw c.as_slice.ensures at c.is_write.ensures.1))
