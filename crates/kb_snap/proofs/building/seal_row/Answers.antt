use Rattle.std.proofs.Common.{sym}
use Rattle.std.specs.FinMap as map
use Rattle.kb_ops.specs.Trees.{look}
use Rattle.kb_snap.proofs.Sealing.{sealed_dir}
use Rattle.kb_snap.proofs.building.seal_row.Goals as goal

pub returns-in_ok-made-in-Dir : goal.returns-in_ok-made-in-Dir
returns-in_ok-made-in-Dir g c =
    let e = c.in_ok-entries-in-Dir.ensures in
    let m = c.in_ok-made-in-Dir.ensures in
    let is = sym c.in-Some.ensures.found in
    sealed_dir g.S.Sealer.sealed g.H.BlockHash.hashed c.args.key.now c.args.generation (look c.args.table.now.tree) (map.get c.args.pointers.now) c.args.id c.in-Some.row.now c.in_ok-made-in-Dir.made.0 c.in_ok-made-in-Dir.made.1.items
    c.in_ok-entries-in-Dir.entries.items c.deref.result.now is (c.is_well_formed.ensures.keyed c.args.id c.in-Some.row.now is) c.in-Dir.is c.deref.ensures.value m.made m.holds e.children e.pointed
