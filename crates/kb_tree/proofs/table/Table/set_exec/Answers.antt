use Rattle.std.proofs.Common.{refl, ap, ◌∙◌, arith}
use Rattle.kb_ops.specs.Lists.{place_of}
use Rattle.kb_ops.specs.Trees.{edit}
use Rattle.kb_tree.specs.Held.{Held}
use Rattle.kb_tree.specs.Slots.{rows_in, with_exec}
use Rattle.kb_tree.proofs.Edits.{Tables}
use Rattle.kb_tree.proofs.Fitting.{Changes, marks}
use Rattle.kb_tree.proofs.Calls.{formed, changed_within, changed_slot, after_edit}
use Rattle.kb_tree.proofs.table.Table.set_exec.Goals as goal

pub index-slot-requires : goal.index-slot-requires
index-slot-requires c =
    let inside = c.self.inside in
    let tree = ap (λ (h : Held). h.tree) c.self.view_is in
    let place = c.place-id_place.ensures.is ∙ (λ i. place_of c.args.node (rows_in (c.deref.ensures.value i) (c.deref-2.ensures.value i))) in
    let change : Changes c.args.self.now.tree c.args.node (with_exec c.args.on) = marks c.args.self.now.tree c.args.node c.args.on (formed inside.rows.items inside.by_id.items inside.by_spot.items c.self.invariant c.args.self.now.tree tree) c.requires in
    omega (arith, changed_within inside.rows.items inside.by_id.items inside.by_spot.items c.self.invariant c.args.self.now.tree tree c.args.node (with_exec c.args.on) change c.place-id_place.result place, inside.by_id.ok.0)

pub set_exec-requires : goal.set_exec-requires
set_exec-requires c =
    let inside = c.self.inside in
    let tree = ap (λ (h : Held). h.tree) c.self.view_is in
    let place = c.place-id_place.ensures.is ∙ (λ i. place_of c.args.node (rows_in (c.deref.ensures.value i) (c.deref-2.ensures.value i))) in
    let change : Changes c.args.self.now.tree c.args.node (with_exec c.args.on) = marks c.args.self.now.tree c.args.node c.args.on (formed inside.rows.items inside.by_id.items inside.by_spot.items c.self.invariant c.args.self.now.tree tree) c.requires in
    changed_slot inside.rows.items inside.by_id.items inside.by_spot.items c.self.invariant c.args.self.now.tree tree c.args.node (with_exec c.args.on) change c.place-id_place.result place c.index-slot.result.now c.index-slot.ensures

after : (c : goal.After-set_exec) → Tables c.set_exec.new.rows.items c.self.inside.by_id.items c.self.inside.by_spot.items (edit c.args.self.now.tree c.args.node (with_exec c.args.on))
after c =
    let inside = c.self.inside in
    let tree = ap (λ (h : Held). h.tree) c.self.view_is in
    let place = c.place-id_place.ensures.is ∙ (λ i. place_of c.args.node (rows_in (c.deref.ensures.value i) (c.deref-2.ensures.value i))) in
    let change : Changes c.args.self.now.tree c.args.node (with_exec c.args.on) = marks c.args.self.now.tree c.args.node c.args.on (formed inside.rows.items inside.by_id.items inside.by_spot.items c.self.invariant c.args.self.now.tree tree) c.requires in
    after_edit inside.rows.items inside.by_id.items inside.by_spot.items c.self.invariant c.args.self.now.tree tree c.args.node (with_exec c.args.on) change c.place-id_place.result place c.index-slot.result.now c.index-slot.ensures refl refl c.set_exec.new.rows.items c.set_exec.ensures.items

pub invariant_of-self : goal.invariant_of-self
invariant_of-self c = (after c).table

pub returns-clause-tree : goal.returns-clause-tree
returns-clause-tree c = (after c).tree
