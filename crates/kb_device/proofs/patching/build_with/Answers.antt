use Rattle.std.proofs.Common.{sym, ap, ◌∙◌}
use Rattle.std.specs.FinMap.{get}
use Rattle.kb_snap.specs.Pointers.{Kept}
use Rattle.kb_device.proofs.Patched.{still, beside_still}
use Rattle.kb_device.proofs.patching.build_with.Goals as goal

pub returns-in-Err-clause-left : goal.returns-in-Err-clause-left
returns-in-Err-clause-left g c q p at = ap (λ (m : Kept). get m q) (sym c.in-Err.ensures.err) ∙ at

pub returns-clause-left : goal.returns-clause-left
returns-clause-left g c = still c.args.table.now.tree _ _ _ c.args.node c.args.ptr c.in-Ok.ensures.ok c.forget.ensures

pub returns-in-Err-clause-beside : goal.returns-in-Err-clause-beside
returns-in-Err-clause-beside g c q _ = ap (λ (m : Kept). get m q) c.in-Err.ensures.err

pub returns-clause-beside : goal.returns-clause-beside
returns-clause-beside g c = beside_still c.args.table.now.tree _ _ _ c.args.node c.args.ptr c.in-Ok.ensures.ok c.forget.ensures
