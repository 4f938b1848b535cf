use Rattle.kb_ops.specs.declared.rows.Change.{Change}
use Rattle.kb_ops.specs.Grammar.{fields_text, HasTag}
use Rattle.kb_ops.proofs.Reading.{passed, no_kind, no_bytes, not_new, untrue}
use Rattle.kb_ops.proofs.decode.read_create.Goals as goal

pub returns-in_err-kind : goal.returns-in_err-kind
returns-in_err-kind c = passed {Y = Change} (λ x. x) fields_text (HasTag 1) _ _ _ _ c.from_residual-in_err-kind.ensures.1
    (no_kind c.args.reader.now c.take_node.new.reader c.take_name.new.reader c.in_ok-parent.parent c.in_ok-name.name c.in_ok-parent.ensures.0 c.in_ok-parent.ensures.1 c.in_ok-name.ensures.1 c.in_err-kind.field-0.0 c.in_err-kind.ensures)

pub returns-in_err-bytes : goal.returns-in_err-bytes
returns-in_err-bytes c = passed {Y = Change} (λ x. x) fields_text (HasTag 1) _ _ _ _ c.from_residual-in_err-bytes.ensures.1
    (no_bytes c.args.reader.now c.take_node.new.reader c.take_name.new.reader c.take_kind.new.reader c.in_ok-parent.parent c.in_ok-name.name c.in_ok-kind.kind c.in_ok-parent.ensures.0 c.in_ok-parent.ensures.1 c.in_ok-name.ensures.1 c.in_ok-kind.ensures.1 c.in_err-bytes.field-0.0 c.in_err-bytes.ensures)

pub returns-then-not-is_new : goal.returns-then-not-is_new
returns-then-not-is_new c = not_new c.args.reader.now c.take_node.new.reader c.take_name.new.reader c.take_kind.new.reader c.take_bytes.new.reader c.in_ok-parent.parent c.in_ok-name.name c.in_ok-kind.kind c.in_ok-bytes.bytes c.in_ok-parent.ensures.0 c.in_ok-parent.ensures.1 c.in_ok-name.ensures.1 c.in_ok-kind.ensures.1 c.in_ok-bytes.ensures.0 c.in_ok-bytes.ensures.1
    (untrue c.is_new.result c.if-not-is_new.true (rw c.as_slice.ensures at c.is_new.ensures.1))
