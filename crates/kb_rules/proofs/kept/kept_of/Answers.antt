use Rattle.std.proofs.Common.{arith}
use Rattle.kb_rules.proofs.Marks.{first_marks, next_marks, all_marks}
use Rattle.kb_rules.proofs.kept.kept_of.Goals as goal

pub loop-i-init : goal.loop-i-init
loop-i-init c = λ a. first_marks c.args.sides.now a c.in_ok-kept.kept.items c.in_ok-kept.ensures

pub loop-i-preserved : goal.loop-i-preserved
loop-i-preserved c = λ a. next_marks c.args.sides.now a c.args.ups.now c.loop-i.kept.items c.mark_if.new.kept.items c.loop-i.i _ c.stays.result c.requires.ups (c.loop-i.invariant a) (omega arith) c.stays.ensures c.mark_if.ensures

pub returns : goal.returns
returns c = all_marks c.args.sides.now c.requires.sides c.loop-i.kept.items c.loop-i.i (omega arith) (c.loop-i.invariant c.requires.sides)
