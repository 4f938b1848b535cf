use Rattle.std.specs.Prelude.{Bool, IsTrue, ◌↔◌}
use Rattle.std.proofs.Common.{subst, sym}
use Rattle.kb_ops.specs.Trees.{Fits, new_id}
use Rattle.kb_apply.proofs.Deciding.{decided}
use Rattle.kb_apply.proofs.fitting.fits.Goals as goal

pub returns : goal.returns
returns c =
    let op = c.args.op.now in
    let t = c.args.table.now.tree in
    subst (λ (b : Bool). IsTrue b ↔ Fits op t) (sym c.change_fits.ensures) (decided (new_id op) op.moment op.change t c.is_well_formed.ensures)
