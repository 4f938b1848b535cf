use Rattle.std.proofs.Common.{◌≡◌, ◌≢◌, ℕ, ◌+◌, ◌-◌, ◌<◌, length, Some, slice_get, sym, ap, subst, ◌∙◌, arith}
use Rattle.std.specs.Prelude.{vec_len}
use Rattle.std.specs.FinMap as map
use Rattle.std.specs.FinMap.Entries as entries
use Rattle.std.specs.List.{remove}
use Rattle.kb_ops.specs.Lists.{place_of, rises}
use Rattle.kb_ops.specs.Spots.{spot_cmp}
use Rattle.kb_ops.specs.Trees.{root_row}
use Rattle.kb_tree.specs.Held.{Held}
use Rattle.kb_tree.specs.Slots.{row_in, rows_in, spots_in, spot_place, redirected}
use Rattle.kb_tree.proofs.Edits.{Tables, spots_rise}
use Rattle.kb_tree.proofs.Calls.{removed_within, removed_slot, removed_listed, removed_was, ids_left, spots_left, after_remove}
use Rattle.kb_tree.proofs.table.Table.remove.Goals as goal

pub remove-slot-requires : goal.remove-slot-requires
remove-slot-requires c =
    let inside = c.self.inside in
    let place = c.place-id_place.ensures.is ∙ (λ i. place_of c.args.id (rows_in (c.deref.ensures.value i) (c.deref-2.ensures.value i))) in
    omega (arith, removed_within inside.rows.items inside.by_id.items inside.by_spot.items c.self.invariant c.args.self.now.tree (ap (λ (h : Held). h.tree) c.self.view_is) c.args.id c.requires c.place-id_place.result place, inside.by_id.ok.0)

pub leave-requires-clause-rise : goal.leave-requires-clause-rise
leave-requires-clause-rise c =
    ap (λ l. entries.is_sorted spot_cmp (spots_in l c.self.inside.by_spot.items)) c.deref-3.ensures.value ∙ spots_rise _ _ _ c.self.invariant

pub leave-requires-clause-there : goal.leave-requires-clause-there
leave-requires-clause-there c =
    let inside = c.self.inside in
    let place = c.place-id_place.ensures.is ∙ (λ i. place_of c.args.id (rows_in (c.deref.ensures.value i) (c.deref-2.ensures.value i))) in
    subst (λ l. c.remove-slot.result < length l) (sym c.deref-3.ensures.value) (removed_slot inside.rows.items inside.by_id.items inside.by_spot.items c.self.invariant c.args.self.now.tree (ap (λ (h : Held). h.tree) c.self.view_is) c.args.id c.requires c.place-id_place.result place c.remove-slot.result c.remove-slot.ensures.value)

pub leave-requires-clause-listed : goal.leave-requires-clause-listed
leave-requires-clause-listed c =
    let inside = c.self.inside in
    let place = c.place-id_place.ensures.is ∙ (λ i. place_of c.args.id (rows_in (c.deref.ensures.value i) (c.deref-2.ensures.value i))) in
    subst (λ l. slice_get inside.by_spot.items (spot_place l inside.by_spot.items c.remove-slot.result) ≡ Some c.remove-slot.result) (sym c.deref-3.ensures.value) (removed_listed inside.rows.items inside.by_id.items inside.by_spot.items c.self.invariant c.args.self.now.tree (ap (λ (h : Held). h.tree) c.self.view_is) c.args.id c.requires c.place-id_place.result place c.remove-slot.result c.remove-slot.ensures.value)

pub overflow_cast-last : goal.overflow_cast-last
overflow_cast-last c =
    omega (arith, c.self.invariant.few, c.self.inside.rows.ok.0)

pub redirect-requires : goal.redirect-requires
redirect-requires c =
    let inside = c.self.inside in
    let place = c.place-id_place.ensures.is ∙ (λ i. place_of c.args.id (rows_in (c.deref.ensures.value i) (c.deref-2.ensures.value i))) in
    ap rises (λ i. rows_in (c.deref-4.ensures.value i) (c.remove-slot.ensures.items i)) ∙ ids_left inside.rows.items inside.by_id.items inside.by_spot.items c.self.invariant c.args.self.now.tree (ap (λ (h : Held). h.tree) c.self.view_is) c.args.id c.requires c.place-id_place.result place c.remove-slot.result c.remove-slot.ensures.value

pub redirect-requires-2-clause-rise : goal.redirect-requires-2-clause-rise
redirect-requires-2-clause-rise c =
    let inside = c.self.inside in
    let place = c.place-id_place.ensures.is ∙ (λ i. place_of c.args.id (rows_in (c.deref.ensures.value i) (c.deref-2.ensures.value i))) in
    let left = c.leave.ensures.items ∙ ap (λ l. remove inside.by_spot.items (spot_place l inside.by_spot.items c.remove-slot.result)) c.deref-3.ensures.value in
    (λ i. entries.is_sorted spot_cmp (spots_in (c.deref-5.ensures.value i) (left i))) ∙ spots_left inside.rows.items inside.by_id.items inside.by_spot.items c.self.invariant c.args.self.now.tree (ap (λ (h : Held). h.tree) c.self.view_is) c.args.id c.requires c.place-id_place.result place c.remove-slot.result c.remove-slot.ensures.value

pub swap_remove-requires : goal.swap_remove-requires
swap_remove-requires c =
    let inside = c.self.inside in
    let place = c.place-id_place.ensures.is ∙ (λ i. place_of c.args.id (rows_in (c.deref.ensures.value i) (c.deref-2.ensures.value i))) in
    omega (arith, removed_slot inside.rows.items inside.by_id.items inside.by_spot.items c.self.invariant c.args.self.now.tree (ap (λ (h : Held). h.tree) c.self.view_is) c.args.id c.requires c.place-id_place.result place c.remove-slot.result c.remove-slot.ensures.value, inside.rows.ok.0)

pub returns-clause-was : goal.returns-clause-was
returns-clause-was c =
    let inside = c.self.inside in
    let place = c.place-id_place.ensures.is ∙ (λ i. place_of c.args.id (rows_in (c.deref.ensures.value i) (c.deref-2.ensures.value i))) in
    removed_was inside.rows.items inside.by_id.items inside.by_spot.items c.self.invariant c.args.self.now.tree (ap (λ (h : Held). h.tree) c.self.view_is) c.args.id c.requires c.place-id_place.result place c.remove-slot.result c.remove-slot.ensures.value c.swap_remove.result c.swap_remove.ensures.value

after : (c : goal.After-swap_remove) → Tables c.swap_remove.new.self.items c.redirect.new.slots.items c.redirect-2.new.slots.items (map.remove c.args.self.now.tree c.args.id)
after c =
    let inside = c.self.inside in
    let place = c.place-id_place.ensures.is ∙ (λ i. place_of c.args.id (rows_in (c.deref.ensures.value i) (c.deref-2.ensures.value i))) in
    let slot = c.remove-slot.result in
    let rows = inside.rows.items in
    let last : ℕ = c.len.result - 1 in
    let within : slot < length rows = removed_slot inside.rows.items inside.by_id.items inside.by_spot.items c.self.invariant c.args.self.now.tree (ap (λ (h : Held). h.tree) c.self.view_is) c.args.id c.requires c.place-id_place.result place c.remove-slot.result c.remove-slot.ensures.value in
    let size : vec_len inside.rows ≡ length rows = omega (arith, inside.rows.ok.0) in
    let end : last + 1 ≡ length rows = omega (arith, within, size) in
    let left = c.leave.ensures.items ∙ ap (λ l. remove inside.by_spot.items (spot_place l inside.by_spot.items slot)) c.deref-3.ensures.value in
    let fewer : length c.swap_remove.new.self.items ≡ last = omega (arith, end, size, c.swap_remove.new.self.ok.0) in
    let here : slot < last → row_in c.swap_remove.new.self.items slot ≡ row_in rows last = λ lt. c.swap_remove.ensures.by_index.0 root_row (omega (arith, lt, end, size)) ∙ ap (row_in rows) (let e : vec_len inside.rows - 1 ≡ last = omega (arith, end, size) in e) in
    let elsewhere : (k : ℕ) → k ≢ slot → k < last → row_in c.swap_remove.new.self.items k ≡ row_in rows k = λ k ne lt. c.swap_remove.ensures.by_index.1 k root_row ne (omega (arith, lt, end, size)) in
    after_remove inside.rows.items inside.by_id.items inside.by_spot.items c.self.invariant c.args.self.now.tree (ap (λ (h : Held). h.tree) c.self.view_is) c.args.id c.requires c.place-id_place.result place c.remove-slot.result c.remove-slot.ensures.value
    last end c.swap_remove.new.self.items c.redirect.new.slots.items c.redirect-2.new.slots.items fewer here elsewhere
    (c.redirect.ensures.items ∙ ap (redirected last slot) c.remove-slot.ensures.items)
    (c.redirect-2.ensures.items ∙ ap (redirected last slot) left)

pub invariant_of-self : goal.invariant_of-self
invariant_of-self c = (after c).table

pub returns-clause-tree : goal.returns-clause-tree
returns-clause-tree c = (after c).tree
