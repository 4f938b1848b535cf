use Rattle.std.proofs.Common.{◌≡◌, ◌<◌, true, false, length, Some, slice_get, set, sym, ap, subst, ◌∙◌, arith}
use Rattle.std.specs.FinMap as map
use Rattle.std.specs.FinMap.Entries as entries
use Rattle.std.specs.List.{remove}
use Rattle.kb_ops.specs.Lists.{place_of}
use Rattle.kb_ops.specs.Spots.{spot_cmp}
use Rattle.kb_tree.specs.Held.{Held}
use Rattle.kb_tree.specs.Slots.{rows_in, spots_in, spot_place, stays, followed}
use Rattle.kb_tree.proofs.Edits.{Tables, spots_rise}
use Rattle.kb_tree.proofs.Calls.{replaced_within, replaced_slot, replaced_listed, replaced_left, replaced_was, after_replace}
use Rattle.kb_tree.proofs.table.Table.replace.Goals as goal

pub index-slot-requires : goal.index-slot-requires
index-slot-requires c =
    let inside = c.self.inside in
    let place = c.place-id_place.ensures.is ∙ (λ i. place_of c.args.row.id (rows_in (c.deref.ensures.value i) (c.deref-2.ensures.value i))) in
    omega (arith, replaced_within inside.rows.items inside.by_id.items inside.by_spot.items c.self.invariant c.args.self.now.tree (ap (λ (h : Held). h.tree) c.self.view_is) c.args.row c.requires c.place-id_place.result place, inside.by_id.ok.0)

pub follow-requires-clause-rise : goal.follow-requires-clause-rise
follow-requires-clause-rise c = ap (λ l. entries.is_sorted spot_cmp (spots_in l c.self.inside.by_spot.items)) c.deref-3.ensures.value ∙ spots_rise _ _ _ c.self.invariant

pub follow-requires-clause-there : goal.follow-requires-clause-there
follow-requires-clause-there c =
    let inside = c.self.inside in
    let place = c.place-id_place.ensures.is ∙ (λ i. place_of c.args.row.id (rows_in (c.deref.ensures.value i) (c.deref-2.ensures.value i))) in
    subst (λ l. c.index-slot.result.now < length l) (sym c.deref-3.ensures.value)
    (replaced_slot inside.rows.items inside.by_id.items inside.by_spot.items c.self.invariant c.args.self.now.tree (ap (λ (h : Held). h.tree) c.self.view_is) c.args.row c.requires c.place-id_place.result place c.index-slot.result.now c.index-slot.ensures)

pub follow-requires-clause-listed : goal.follow-requires-clause-listed
follow-requires-clause-listed c =
    let inside = c.self.inside in
    let slot = c.index-slot.result.now in
    let place = c.place-id_place.ensures.is ∙ (λ i. place_of c.args.row.id (rows_in (c.deref.ensures.value i) (c.deref-2.ensures.value i))) in
    subst (λ l. stays l slot c.args.row ≡ false → slice_get inside.by_spot.items (spot_place l inside.by_spot.items slot) ≡ Some slot) (sym c.deref-3.ensures.value)
    (replaced_listed inside.rows.items inside.by_id.items inside.by_spot.items c.self.invariant c.args.self.now.tree (ap (λ (h : Held). h.tree) c.self.view_is) c.args.row c.requires c.place-id_place.result place slot c.index-slot.ensures)

pub follow-requires-clause-left : goal.follow-requires-clause-left
follow-requires-clause-left c =
    let inside = c.self.inside in
    let slot = c.index-slot.result.now in
    let place = c.place-id_place.ensures.is ∙ (λ i. place_of c.args.row.id (rows_in (c.deref.ensures.value i) (c.deref-2.ensures.value i))) in
    subst (λ l. stays l slot c.args.row ≡ false → entries.is_sorted spot_cmp (spots_in l (remove inside.by_spot.items (spot_place l inside.by_spot.items slot))) ≡ true) (sym c.deref-3.ensures.value)
    (replaced_left inside.rows.items inside.by_id.items inside.by_spot.items c.self.invariant c.args.self.now.tree (ap (λ (h : Held). h.tree) c.self.view_is) c.args.row c.requires c.place-id_place.result place slot c.index-slot.ensures)

pub index_mut-requires : goal.index_mut-requires
index_mut-requires c =
    let inside = c.self.inside in
    let place = c.place-id_place.ensures.is ∙ (λ i. place_of c.args.row.id (rows_in (c.deref.ensures.value i) (c.deref-2.ensures.value i))) in
    omega (arith, replaced_slot inside.rows.items inside.by_id.items inside.by_spot.items c.self.invariant c.args.self.now.tree (ap (λ (h : Held). h.tree) c.self.view_is) c.args.row c.requires c.place-id_place.result place c.index-slot.result.now c.index-slot.ensures, inside.rows.ok.0)

pub returns-clause-was : goal.returns-clause-was
returns-clause-was c =
    let inside = c.self.inside in
    let place = c.place-id_place.ensures.is ∙ (λ i. place_of c.args.row.id (rows_in (c.deref.ensures.value i) (c.deref-2.ensures.value i))) in
    replaced_was inside.rows.items inside.by_id.items inside.by_spot.items c.self.invariant c.args.self.now.tree (ap (λ (h : Held). h.tree) c.self.view_is) c.args.row c.requires c.place-id_place.result place c.index-slot.result.now c.index-slot.ensures
    c.index_mut.result.now c.index_mut.ensures.value
    ∙ ap (λ x. Some x) (sym c.replace.ensures.value)

after : (c : goal.After-self-1) → Tables (set c.self.inside.rows.items c.index-slot.result.now c.replace.new.dest) c.self.inside.by_id.items c.follow.new.slots.items (map.insert c.args.self.now.tree c.args.row.id c.args.row)
after c =
    let inside = c.self.inside in
    let slot = c.index-slot.result.now in
    let place = c.place-id_place.ensures.is ∙ (λ i. place_of c.args.row.id (rows_in (c.deref.ensures.value i) (c.deref-2.ensures.value i))) in
    after_replace inside.rows.items inside.by_id.items inside.by_spot.items c.self.invariant c.args.self.now.tree (ap (λ (h : Held). h.tree) c.self.view_is) c.args.row c.requires c.place-id_place.result place slot c.index-slot.ensures
    (set inside.rows.items slot c.replace.new.dest) c.follow.new.slots.items (ap (set inside.rows.items slot) c.replace.ensures.after)
    (c.follow.ensures.items ∙ ap (λ l. followed l inside.by_spot.items slot c.args.row) c.deref-3.ensures.value)

pub invariant_of-self : goal.invariant_of-self
invariant_of-self c = (after c).table

pub returns-clause-tree : goal.returns-clause-tree
returns-clause-tree c = (after c).tree
