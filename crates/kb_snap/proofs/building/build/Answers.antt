use Rattle.std.proofs.Common.{◌≡◌, ap, sym, subst, ◌∙◌, Vec, Global, ℕ}
use Rattle.std.specs.FinMap as map
use Rattle.kb_name.specs.Nodes.{root}
use Rattle.kb_blocks.specs.declared.pointer.Ptr.{Ptr}
use Rattle.kb_snap.proofs.Sealing.{IsSoFar, so_far_first, so_far_kept, so_far_made, row_here, below_pointed, kept_all, made_all, holds_all, emptied}
use Rattle.kb_snap.proofs.building.build.Goals as goal
use Rattle.kb_snap.proofs.building.build.Goals.{in-Some-get, in-None+in_ok-ptr-in-None}

pub rows-init : goal.rows-init
rows-init g c = so_far_first g.S.Sealer.sealed g.H.BlockHash.hashed c.args.key.now c.args.generation c.args.table.now.tree c.args.old.now c.new-pointers.result c.in_ok-left.left.items c.new-blocks.result.items c.new-pointers.ensures c.new-blocks.ensures.items c.in_ok-left.ensures

pub add_row-requires-clause-row : goal.add_row-requires-clause-row
add_row-requires-clause-row g c =
    row_here g.S.Sealer.sealed g.H.BlockHash.hashed c.args.key.now c.args.generation c.args.table.now.tree c.is_well_formed.ensures c.args.old.now c.rows.pointers c.rows.left.items c.pop.new.self.items c.in-Some.id c.rows.blocks.items c.in-Some.ensures.items c.rows.invariant

pub add_row-requires-clause-pointed : goal.add_row-requires-clause-pointed
add_row-requires-clause-pointed g c =
    below_pointed g.S.Sealer.sealed g.H.BlockHash.hashed c.args.key.now c.args.generation c.args.table.now.tree c.is_well_formed.ensures c.args.old.now c.rows.pointers c.rows.left.items c.pop.new.self.items c.in-Some.id c.rows.blocks.items c.in-Some.ensures.items c.rows.invariant

pub rows-preserved : goal.rows-preserved
rows-preserved g c = elim c.match-get.branch [
  | in-Some-get w ↦
      let e : c.set.new.self ≡ map.insert c.rows.pointers c.in-Some.id w.in-Some-get.ptr = c.in_ok-set.ensures.ok ∙ ap (λ (p : Ptr). map.insert c.rows.pointers c.in-Some.id p) w.ptr-is in
      subst (λ (b : Vec (Vec ℕ Global) Global). IsSoFar g.S.Sealer.sealed g.H.BlockHash.hashed c.args.key.now c.args.generation c.args.table.now.tree c.args.old.now c.set.new.self c.pop.new.self.items b.items) (sym w.blocks-is)
      (so_far_kept g.S.Sealer.sealed g.H.BlockHash.hashed c.args.key.now c.args.generation c.args.table.now.tree c.is_well_formed.ensures c.args.old.now c.rows.pointers c.rows.left.items c.pop.new.self.items c.in-Some.id c.rows.blocks.items c.in-Some.ensures.items c.rows.invariant
      w.in-Some-get.ptr c.set.new.self (sym w.in-Some-get.ensures) e)
  | in-None+in_ok-ptr-in-None w ↦
      let e : c.set.new.self ≡ map.insert c.rows.pointers c.in-Some.id w.in_ok-ptr-in-None.ptr = c.in_ok-set.ensures.ok ∙ ap (λ (p : Ptr). map.insert c.rows.pointers c.in-Some.id p) w.ptr-is in
      subst (λ (b : Vec (Vec ℕ Global) Global). IsSoFar g.S.Sealer.sealed g.H.BlockHash.hashed c.args.key.now c.args.generation c.args.table.now.tree c.args.old.now c.set.new.self c.pop.new.self.items b.items) (sym w.blocks-is)
      (so_far_made g.S.Sealer.sealed g.H.BlockHash.hashed c.args.key.now c.args.generation c.args.table.now.tree c.is_well_formed.ensures c.args.old.now c.rows.pointers c.rows.left.items c.pop.new.self.items c.in-Some.id c.rows.blocks.items c.in-Some.ensures.items c.rows.invariant
      w.in_ok-ptr-in-None.ptr c.set.new.self w.add_row.new.blocks.items (sym w.in-None.ensures) e w.in_ok-ptr-in-None.ensures)
]

pub returns-clause-kept : goal.returns-clause-kept
returns-clause-kept g c =
    let none = emptied _ c.pop.result c.rows.left.items _ _ c.in_default.not-Some c.pop.ensures.cases c.rows.left.ok.0 in
    kept_all g.S.Sealer.sealed g.H.BlockHash.hashed c.args.key.now c.args.generation c.args.table.now.tree c.is_well_formed.ensures c.args.old.now c.rows.pointers c.rows.left.items c.rows.blocks.items none c.rows.invariant c.in-Some-get-2.root (sym c.in-Some-get-2.ensures)

pub returns-clause-made : goal.returns-clause-made
returns-clause-made g c =
    let none = emptied _ c.pop.result c.rows.left.items _ _ c.in_default.not-Some c.pop.ensures.cases c.rows.left.ok.0 in
    made_all g.S.Sealer.sealed g.H.BlockHash.hashed c.args.key.now c.args.generation c.args.table.now.tree c.is_well_formed.ensures c.args.old.now c.rows.pointers c.rows.left.items c.rows.blocks.items none c.rows.invariant c.new.result c.new.ensures

pub returns-clause-holds : goal.returns-clause-holds
returns-clause-holds g c =
    let none = emptied _ c.pop.result c.rows.left.items _ _ c.in_default.not-Some c.pop.ensures.cases c.rows.left.ok.0 in
    holds_all g.S.Sealer.sealed g.H.BlockHash.hashed c.args.key.now c.args.generation c.args.table.now.tree c.is_well_formed.ensures c.args.old.now c.rows.pointers c.rows.left.items c.rows.blocks.items none c.rows.invariant c.new.result c.new.ensures

pub returns-clause-tree : goal.returns-clause-tree
returns-clause-tree g c bs keys known stored old =
    let none = emptied _ c.pop.result c.rows.left.items _ _ c.in_default.not-Some c.pop.ensures.cases c.rows.left.ok.0 in
    let all = holds_all g.S.Sealer.sealed g.H.BlockHash.hashed c.args.key.now c.args.generation c.args.table.now.tree c.is_well_formed.ensures c.args.old.now c.rows.pointers c.rows.left.items c.rows.blocks.items none c.rows.invariant c.new.result c.new.ensures bs keys known stored old in
    all root c.in-Some-get-2.root (sym c.in-Some-get-2.ensures)
