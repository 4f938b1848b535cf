use Rattle.std.proofs.Common.{◌≡◌, ◌<◌, true, false, length, Some, slice_get, sym, ap, subst, ◌∙◌, arith}
use Rattle.std.specs.FinMap.Entries as entries
use Rattle.std.specs.List.{remove}
use Rattle.kb_ops.specs.Lists.{place_of}
use Rattle.kb_ops.specs.Spots.{spot_cmp}
use Rattle.kb_ops.specs.Trees.{edit}
use Rattle.kb_tree.specs.Held.{Held}
use Rattle.kb_tree.specs.Slots.{row_in, rows_in, spots_in, spot_place, stays, followed, moved}
use Rattle.kb_tree.proofs.Edits.{Tables, spots_rise}
use Rattle.kb_tree.proofs.Fitting.{Changes, moves}
use Rattle.kb_tree.proofs.Calls.{formed, changed_within, changed_slot, changed_listed, changed_left, after_change}
use Rattle.kb_tree.proofs.table.Table.relocate.Goals as goal

pub index-slot-requires : goal.index-slot-requires
index-slot-requires c =
    let inside = c.self.inside in
    let tree = ap (λ (h : Held). h.tree) c.self.view_is in
    let place = c.place-id_place.ensures.is ∙ (λ i. place_of c.args.node (rows_in (c.deref.ensures.value i) (c.deref-2.ensures.value i))) in
    let change : Changes c.args.self.now.tree c.args.node (moved c.args.parent c.args.name) = moves c.args.self.now.tree c.args.node c.args.parent c.args.name (formed inside.rows.items inside.by_id.items inside.by_spot.items c.self.invariant c.args.self.now.tree tree) c.requires in
    omega (arith, changed_within inside.rows.items inside.by_id.items inside.by_spot.items c.self.invariant c.args.self.now.tree tree c.args.node (moved c.args.parent c.args.name) change c.place-id_place.result place, inside.by_id.ok.0)

pub follow-requires-clause-rise : goal.follow-requires-clause-rise
follow-requires-clause-rise c = ap (λ l. entries.is_sorted spot_cmp (spots_in l c.self.inside.by_spot.items)) c.deref-3.ensures.value ∙ spots_rise _ _ _ c.self.invariant

pub follow-requires-clause-there : goal.follow-requires-clause-there
follow-requires-clause-there c =
    let inside = c.self.inside in
    let tree = ap (λ (h : Held). h.tree) c.self.view_is in
    let place = c.place-id_place.ensures.is ∙ (λ i. place_of c.args.node (rows_in (c.deref.ensures.value i) (c.deref-2.ensures.value i))) in
    let change : Changes c.args.self.now.tree c.args.node (moved c.args.parent c.args.name) = moves c.args.self.now.tree c.args.node c.args.parent c.args.name (formed inside.rows.items inside.by_id.items inside.by_spot.items c.self.invariant c.args.self.now.tree tree) c.requires in
    subst (λ l. c.index-slot.result.now < length l) (sym c.deref-3.ensures.value) (changed_slot inside.rows.items inside.by_id.items inside.by_spot.items c.self.invariant c.args.self.now.tree tree c.args.node (moved c.args.parent c.args.name) change c.place-id_place.result place c.index-slot.result.now c.index-slot.ensures)

pub follow-requires-clause-listed : goal.follow-requires-clause-listed
follow-requires-clause-listed c =
    let inside = c.self.inside in
    let tree = ap (λ (h : Held). h.tree) c.self.view_is in
    let place = c.place-id_place.ensures.is ∙ (λ i. place_of c.args.node (rows_in (c.deref.ensures.value i) (c.deref-2.ensures.value i))) in
    let change : Changes c.args.self.now.tree c.args.node (moved c.args.parent c.args.name) = moves c.args.self.now.tree c.args.node c.args.parent c.args.name (formed inside.rows.items inside.by_id.items inside.by_spot.items c.self.invariant c.args.self.now.tree tree) c.requires in
    let slot = c.index-slot.result.now in
    subst (λ l. stays l slot (moved c.args.parent c.args.name (row_in l slot)) ≡ false → slice_get inside.by_spot.items (spot_place l inside.by_spot.items slot) ≡ Some slot) (sym c.deref-3.ensures.value)
    (changed_listed inside.rows.items inside.by_id.items inside.by_spot.items c.self.invariant c.args.self.now.tree tree c.args.node (moved c.args.parent c.args.name) change c.place-id_place.result place slot c.index-slot.ensures)

pub follow-requires-clause-left : goal.follow-requires-clause-left
follow-requires-clause-left c =
    let inside = c.self.inside in
    let tree = ap (λ (h : Held). h.tree) c.self.view_is in
    let place = c.place-id_place.ensures.is ∙ (λ i. place_of c.args.node (rows_in (c.deref.ensures.value i) (c.deref-2.ensures.value i))) in
    let change : Changes c.args.self.now.tree c.args.node (moved c.args.parent c.args.name) = moves c.args.self.now.tree c.args.node c.args.parent c.args.name (formed inside.rows.items inside.by_id.items inside.by_spot.items c.self.invariant c.args.self.now.tree tree) c.requires in
    let slot = c.index-slot.result.now in
    subst (λ l. stays l slot (moved c.args.parent c.args.name (row_in l slot)) ≡ false → entries.is_sorted spot_cmp (spots_in l (remove inside.by_spot.items (spot_place l inside.by_spot.items slot))) ≡ true) (sym c.deref-3.ensures.value)
    (changed_left inside.rows.items inside.by_id.items inside.by_spot.items c.self.invariant c.args.self.now.tree tree c.args.node (moved c.args.parent c.args.name) change c.place-id_place.result place slot c.index-slot.ensures)

pub set_place-requires : goal.set_place-requires
set_place-requires c =
    let inside = c.self.inside in
    let tree = ap (λ (h : Held). h.tree) c.self.view_is in
    let place = c.place-id_place.ensures.is ∙ (λ i. place_of c.args.node (rows_in (c.deref.ensures.value i) (c.deref-2.ensures.value i))) in
    let change : Changes c.args.self.now.tree c.args.node (moved c.args.parent c.args.name) = moves c.args.self.now.tree c.args.node c.args.parent c.args.name (formed inside.rows.items inside.by_id.items inside.by_spot.items c.self.invariant c.args.self.now.tree tree) c.requires in
    changed_slot inside.rows.items inside.by_id.items inside.by_spot.items c.self.invariant c.args.self.now.tree tree c.args.node (moved c.args.parent c.args.name) change c.place-id_place.result place c.index-slot.result.now c.index-slot.ensures

after : (c : goal.After-set_place) → Tables c.set_place.new.rows.items c.self.inside.by_id.items c.follow.new.slots.items (edit c.args.self.now.tree c.args.node (moved c.args.parent c.args.name))
after c =
    let inside = c.self.inside in
    let tree = ap (λ (h : Held). h.tree) c.self.view_is in
    let place = c.place-id_place.ensures.is ∙ (λ i. place_of c.args.node (rows_in (c.deref.ensures.value i) (c.deref-2.ensures.value i))) in
    let change : Changes c.args.self.now.tree c.args.node (moved c.args.parent c.args.name) = moves c.args.self.now.tree c.args.node c.args.parent c.args.name (formed inside.rows.items inside.by_id.items inside.by_spot.items c.self.invariant c.args.self.now.tree tree) c.requires in
    let slot = c.index-slot.result.now in
    after_change inside.rows.items inside.by_id.items inside.by_spot.items c.self.invariant c.args.self.now.tree tree c.args.node (moved c.args.parent c.args.name) change c.place-id_place.result place slot c.index-slot.ensures c.set_place.new.rows.items c.follow.new.slots.items c.set_place.ensures.items
    (c.follow.ensures.items ∙ ap (λ l. followed l inside.by_spot.items slot (moved c.args.parent c.args.name (row_in l slot))) c.deref-3.ensures.value)

pub invariant_of-self : goal.invariant_of-self
invariant_of-self c = (after c).table

pub returns-clause-tree : goal.returns-clause-tree
returns-clause-tree c = (after c).tree
