use Rattle.kb_ops.specs.declared.rows.Change.{Change}
use Rattle.kb_ops.specs.Grammar.{fields_text, HasTag}
use Rattle.kb_ops.proofs.Reading.{passed, no_replaced, no_move, untrue}
use Rattle.kb_ops.proofs.decode.read_rename.Goals as goal

pub returns-in_err-replaced : goal.returns-in_err-replaced
returns-in_err-replaced c = passed {Y = Change} (λ x. x) fields_text (HasTag 3) _ _ _ _ c.from_residual-in_err-replaced.ensures.1
    (no_replaced c.args.reader.now c.take_node.new.reader c.take_node-2.new.reader c.take_name.new.reader c.in_ok-node.node c.in_ok-parent.parent c.in_ok-name.name c.in_ok-node.ensures.0 c.in_ok-node.ensures.1 c.in_ok-parent.ensures.0 c.in_ok-parent.ensures.1 c.in_ok-name.ensures.1 c.in_err-replaced.field-0.0 c.in_err-replaced.ensures)

pub returns-then-not-is_move : goal.returns-then-not-is_move
returns-then-not-is_move c = no_move c.args.reader.now c.take_node.new.reader c.take_node-2.new.reader c.take_name.new.reader c.take_replaced.new.reader c.in_ok-node.node c.in_ok-parent.parent c.in_ok-name.name c.in_ok-replaced.replaced c.in_ok-node.ensures.0 c.in_ok-node.ensures.1 c.in_ok-parent.ensures.0 c.in_ok-parent.ensures.1 c.in_ok-name.ensures.1 c.in_ok-replaced.ensures.0 c.in_ok-replaced.ensures.1
    (untrue c.is_move.result c.if-not-is_move.true c.is_move.ensures.1)
