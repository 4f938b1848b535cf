use Rattle.std.proofs.Common.{◌<◌, length, sym, ◌∙◌, arith}
use Rattle.kb_ops.proofs.Spelled.{more_behind}
use Rattle.kb_ops.proofs.codec.read_all.Goals as goal

pub returns-then-left-gt0-clause-bad_op : goal.returns-then-left-gt0-clause-bad_op
returns-then-left-gt0-clause-bad_op c = λ _.
    let more : 0 < length c.read_op.new.reader = omega arith in
    more_behind c.args.bytes.now c.read_op.new.reader c.in_ok-op.op c.in_ok-op.ensures.0 (sym c.new-reader.ensures ∙ c.in_ok-op.ensures.1) more
