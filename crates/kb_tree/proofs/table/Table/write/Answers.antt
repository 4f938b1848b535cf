use Rattle.std.proofs.Common.{refl, ap, ◌∙◌, arith}
use Rattle.kb_ops.specs.Lists.{place_of}
use Rattle.kb_ops.specs.Trees.{edit}
use Rattle.kb_tree.specs.Held.{Held}
use Rattle.kb_tree.specs.Slots.{row_in, rows_in, written}
use Rattle.kb_tree.proofs.Edits.{Tables}
use Rattle.kb_tree.proofs.Fitting.{Changes, writes, has_room}
use Rattle.kb_tree.proofs.Calls.{formed, changed_within, changed_slot, in_it, after_edit}
use Rattle.kb_tree.proofs.table.Table.write.Goals as goal

pub index-slot-requires : goal.index-slot-requires
index-slot-requires c =
    let inside = c.self.inside in
    let tree = ap (λ (h : Held). h.tree) c.self.view_is in
    let place = c.place-id_place.ensures.is ∙ (λ i. place_of c.args.node (rows_in (c.deref.ensures.value i) (c.deref-2.ensures.value i))) in
    let change : Changes c.args.self.now.tree c.args.node (written c.args.offset c.args.bytes.now c.args.size c.args.mtime) = writes c.args.self.now.tree c.args.node c.args.offset c.args.bytes.now c.args.size c.args.mtime (formed inside.rows.items inside.by_id.items inside.by_spot.items c.self.invariant c.args.self.now.tree tree) c.requires.file c.requires.small in
    omega (arith, changed_within inside.rows.items inside.by_id.items inside.by_spot.items c.self.invariant c.args.self.now.tree tree c.args.node (written c.args.offset c.args.bytes.now c.args.size c.args.mtime) change c.place-id_place.result place, inside.by_id.ok.0)

pub write-requires-clause-there : goal.write-requires-clause-there
write-requires-clause-there c =
    let inside = c.self.inside in
    let tree = ap (λ (h : Held). h.tree) c.self.view_is in
    let place = c.place-id_place.ensures.is ∙ (λ i. place_of c.args.node (rows_in (c.deref.ensures.value i) (c.deref-2.ensures.value i))) in
    let change : Changes c.args.self.now.tree c.args.node (written c.args.offset c.args.bytes.now c.args.size c.args.mtime) = writes c.args.self.now.tree c.args.node c.args.offset c.args.bytes.now c.args.size c.args.mtime (formed inside.rows.items inside.by_id.items inside.by_spot.items c.self.invariant c.args.self.now.tree tree) c.requires.file c.requires.small in
    changed_slot inside.rows.items inside.by_id.items inside.by_spot.items c.self.invariant c.args.self.now.tree tree c.args.node (written c.args.offset c.args.bytes.now c.args.size c.args.mtime) change c.place-id_place.result place c.index-slot.result.now c.index-slot.ensures

pub write-requires-clause-room : goal.write-requires-clause-room
write-requires-clause-room c =
    let inside = c.self.inside in
    let tree = ap (λ (h : Held). h.tree) c.self.view_is in
    let place = c.place-id_place.ensures.is ∙ (λ i. place_of c.args.node (rows_in (c.deref.ensures.value i) (c.deref-2.ensures.value i))) in
    let change : Changes c.args.self.now.tree c.args.node (written c.args.offset c.args.bytes.now c.args.size c.args.mtime) = writes c.args.self.now.tree c.args.node c.args.offset c.args.bytes.now c.args.size c.args.mtime (formed inside.rows.items inside.by_id.items inside.by_spot.items c.self.invariant c.args.self.now.tree tree) c.requires.file c.requires.small in
    has_room c.args.self.now.tree c.args.node c.args.size _ change.was (row_in inside.rows.items c.index-slot.result.now) change.found (in_it inside.rows.items inside.by_id.items inside.by_spot.items c.self.invariant c.args.self.now.tree tree c.args.node (written c.args.offset c.args.bytes.now c.args.size c.args.mtime) change c.place-id_place.result place c.index-slot.result.now c.index-slot.ensures) c.requires.room

after : (c : goal.After-write) → Tables c.write.new.rows.items c.self.inside.by_id.items c.self.inside.by_spot.items (edit c.args.self.now.tree c.args.node (written c.args.offset c.args.bytes.now c.args.size c.args.mtime))
after c =
    let inside = c.self.inside in
    let tree = ap (λ (h : Held). h.tree) c.self.view_is in
    let place = c.place-id_place.ensures.is ∙ (λ i. place_of c.args.node (rows_in (c.deref.ensures.value i) (c.deref-2.ensures.value i))) in
    let change : Changes c.args.self.now.tree c.args.node (written c.args.offset c.args.bytes.now c.args.size c.args.mtime) = writes c.args.self.now.tree c.args.node c.args.offset c.args.bytes.now c.args.size c.args.mtime (formed inside.rows.items inside.by_id.items inside.by_spot.items c.self.invariant c.args.self.now.tree tree) c.requires.file c.requires.small in
    after_edit inside.rows.items inside.by_id.items inside.by_spot.items c.self.invariant c.args.self.now.tree tree c.args.node (written c.args.offset c.args.bytes.now c.args.size c.args.mtime) change c.place-id_place.result place c.index-slot.result.now c.index-slot.ensures refl refl c.write.new.rows.items c.write.ensures.items

pub invariant_of-self : goal.invariant_of-self
invariant_of-self c = (after c).table

pub returns-clause-tree : goal.returns-clause-tree
returns-clause-tree c = (after c).tree
