use Rattle.std.proofs.Common.{◌≡◌, ◌<◌, ◌^◌, ◌-◌, length, sym, ap, subst, ◌≤◌, ◌∙◌, arith}
use Rattle.std.specs.Prelude.{vec_len}
use Rattle.std.specs.Vec.{vec_capacity}
use Rattle.std.specs.FinMap as map
use Rattle.std.specs.FinMap.Entries as entries
use Rattle.kb_ops.specs.Lists.{place_of}
use Rattle.kb_ops.specs.Sorted.{place_in_order}
use Rattle.kb_ops.specs.Spots.{spot_cmp}
use Rattle.kb_tree.specs.Held.{Held}
use Rattle.kb_tree.specs.Slots.{rows_in, spots_in}
use Rattle.kb_tree.proofs.Edits.{Tables, spots_rise}
use Rattle.kb_tree.proofs.Calls.{after_insert, few_rows}
use Rattle.kb_tree.proofs.table.Table.insert.Goals as goal

pub place-spot_place-requires : goal.place-spot_place-requires
place-spot_place-requires c = (λ i. entries.is_sorted spot_cmp (spots_in (c.deref-3.ensures.value i) (c.deref-4.ensures.value i))) ∙ spots_rise _ _ _ c.self.invariant

-- the slots afterwards keep the tree with the row
after : (c : goal.After-push_reserved) → Tables c.push_reserved.new.self.items c.put.new.slots.items c.put-2.new.slots.items (map.insert c.args.self.now.tree c.args.row.id c.args.row)
after c =
    let row = c.args.row in
    let inside = c.self.inside in
    let room = subst (λ (h : Held). 1 ≤ h.room) (sym c.self.view_is) c.requires.room in
    let few : length inside.rows.items < 2 ^ 32 = omega (arith, few_rows (vec_capacity inside.rows - vec_len inside.rows) (vec_capacity inside.by_id - vec_len inside.by_id) (vec_capacity inside.by_spot - vec_len inside.by_spot) (vec_len inside.rows) room, inside.rows.ok.0) in
    let slot : c.len-slot.result ≡ length inside.rows.items = omega (arith, inside.rows.ok.0) in
    after_insert inside.rows.items inside.by_id.items inside.by_spot.items c.self.invariant c.args.self.now.tree (ap (λ (h : Held). h.tree) c.self.view_is) row c.requires.fits few
    c.place-id_place.result c.place-spot_place.result c.len-slot.result
    (c.place-id_place.ensures.is ∙ (λ i. place_of row.id (rows_in (c.deref.ensures.value i) (c.deref-2.ensures.value i))))
    (c.place-spot_place.ensures.is ∙ (λ i. place_in_order spot_cmp (row.parent, row.name) (spots_in (c.deref-3.ensures.value i) (c.deref-4.ensures.value i))))
    slot
    c.push_reserved.new.self.items c.put.new.slots.items c.put-2.new.slots.items c.push_reserved.ensures.items c.put.ensures.items c.put-2.ensures.items

pub invariant_of-self : goal.invariant_of-self
invariant_of-self c = (after c).table

pub returns-clause-tree : goal.returns-clause-tree
returns-clause-tree c = (after c).tree
