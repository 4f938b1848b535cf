use Rattle.std.proofs.Common.{None, sym, subst}
use Rattle.std.specs.FinMap.{len}
use Rattle.kb_ops.specs.Rows.{FitsRename}
use Rattle.kb_ops.specs.Trees.{Tree, look}
use Rattle.kb_apply.proofs.Preparing.{goes_first, fits_then}
use Rattle.kb_apply.proofs.doing.rename.Goals as goal

pub make_way-requires : goal.make_way-requires
make_way-requires c = goes_first c.args.table.now.tree c.args.node c.args.parent c.args.name c.args.gone c.is_well_formed.ensures c.requires

pub relocate-requires : goal.relocate-requires
relocate-requires c =
    let a = c.args in
    subst (λ (u : Tree). FitsRename (len u) (look u) a.node a.parent a.name None) (sym c.make_way.ensures.tree) (fits_then a.table.now.tree a.node a.parent a.name a.gone c.is_well_formed.ensures c.requires)
