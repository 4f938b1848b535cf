use Rattle.std.proofs.Common.{ap}
use Rattle.kb_ops.specs.declared.rows.Op.{Op}
use Rattle.kb_ops.specs.Trees.{apply}
use Rattle.kb_apply.proofs.Preparing.{copy_ready}
use Rattle.kb_apply.proofs.doing.prepare.Goals as goal

pub returns-clause-ready : goal.returns-clause-ready
returns-clause-ready c = copy_ready c.args.op.now c.in_ok-own.own c.in_ok-spare.spare c.args.table.now.tree c.spare_for.new.table.room c.requires c.in_ok-own.ensures c.in_ok-spare.ensures.room c.in_ok-spare.ensures.spare

pub returns-clause-does : goal.returns-clause-does
returns-clause-does c = ap (λ (o : Op). apply o c.args.table.now.tree) c.in_ok-own.ensures
