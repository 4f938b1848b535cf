use Rattle.std.proofs.Common.{◌≡◌, ◌∷◌, length, ap, arith, rules}
use Rattle.kb_ops.specs.Grammar.{op_text}
use Rattle.kb_journal.proofs.Short.{op_short}
use Rattle.kb_journal.proofs.held.payload_of.Goals as goal

pub returns-clause-short : goal.returns-clause-short
returns-clause-short c =
    let text : c.extend_from_slice.new.self.items ≡ 1 ∷ op_text c.args.op.now = search rules in
    omega (arith, ap length text, op_short c.args.op.now c.requires)
