use Rattle.std.proofs.Common.{◌≡◌, ◌+◌, ◌-◌, arith}
use Rattle.kb_name.proofs.Dots.{dot_is_last, no_dot_more}
use Rattle.kb_name.proofs.copies.last_dot.Goals as goal

pub returns-then-name-i-eq46-clause-dot : goal.returns-then-name-i-eq46-clause-dot
returns-then-name-i-eq46-clause-dot c =
    let next : c.loop-i.i - 1 + 1 ≡ c.loop-i.i = omega arith in
    dot_is_last c.args.name.now (c.loop-i.i - 1) (omega arith) (omega arith) c.if-name-i-eq46.true (rw next c.loop-i.invariant)

pub loop-i-preserved : goal.loop-i-preserved
loop-i-preserved c =
    let next : c.loop-i.i - 1 + 1 ≡ c.loop-i.i = omega arith in
    no_dot_more c.args.name.now (c.loop-i.i - 1) (omega arith) c.if-name-i-eq46.false (rw next c.loop-i.invariant)
