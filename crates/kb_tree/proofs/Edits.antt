-- What an edit of a table's slots does to its tree.
use Rattle.std.proofs.Common.{◌≡◌, ◌≢◌, ℕ, ◌+◌, ◌^◌, ◌≤◌, ◌<◌, Bool, true, false, List, [], ◌∷◌, ◌++◌, length, map, cond, Option, Some, None, inl, inr, ◌&&◌, slice_get, set, refl, sym, ap, subst, ◌∙◌, arith}
use mathlib.Core.Bool.{true≢false}
use Rattle.std.specs.Prelude.{nat_eq}
use Rattle.std.specs.List.{insert, remove}
use Rattle.std.specs.Option.{option_map}
use Rattle.std.specs.Str.{bytes_eq}
use Rattle.std.proofs.lemmas.Slice.Eq.{bytes_eq-Decides}
use Rattle.std.proofs.lemmas.Option.{slice_get-map}
use Rattle.std.proofs.lemmas.List.{get_or-set_same, get_or-set_other, length-append, length-set}
use Rattle.std.specs.FinMap as map
use Rattle.std.specs.FinMap.Entries as entries
use Rattle.kb_name.specs.declared.ids.NodeId.{NodeId}
use Rattle.kb_ops.specs.declared.rows.Row.{Row}
use Rattle.kb_name.specs.Nodes.{same_node, node_cmp}
use Rattle.kb_ops.specs.Rows.{FitsNew, FitsReplace, FitsRemove, FitsRename}
use Rattle.kb_ops.specs.Trees.{Tree, look, IsWellFormed, root_row}
use Rattle.kb_ops.specs.Lists.{keyed, rises, tree_of, place_of}
use Rattle.kb_ops.specs.Sorted.{place_in_order}
use Rattle.kb_ops.specs.Spots.{Spot, spot_cmp, spotted, IsIndex}
use Rattle.kb_ops.proofs.Nodes.{node_is, node_self}
use Rattle.kb_ops.proofs.Looks.{nodes_total, exact_nodes, look-insert, look-remove}
use Rattle.kb_ops.proofs.Lists.{AreRows, insert_new, insert_over, remove_at, row_at, look_of}
use Rattle.kb_ops.proofs.TreeKept.{new_kept, replace_kept, remove_kept}
use Rattle.kb_ops.proofs.Children.{child_is}
use Rattle.kb_ops.proofs.Sorted.{map-insert}
use Rattle.kb_ops.proofs.Spots.{spots_total, exact_spots, index_insert}
use Rattle.kb_tree.specs.Slots.{row_in, rows_in, ids_in, spot_in, spots_in, AreWithin, AreShown, IsTable, redirected, spot_place, stays, followed}
use Rattle.kb_tree.proofs.Entries.{some_is, none_some, found_at, map-remove}
use Rattle.kb_tree.proofs.Index.{index_same, index_move, index_remove, rest_rises}
use Rattle.kb_tree.proofs.Kept.{rows_same, ids_same, within_more, within_with, within_without, within_got, slot_at, spotted_is, pushed_below, pushed_end, IsAbsent, absent_without, rows_set, nat_cases, map_redirected, within_redirected, place_keyed, keyed_slots, only_at}

-- a table's slots, and the tree that they are
pub record Tables (rows : List Row) (by_id by_spot : List ℕ) (t : Tree) : Type 0 where
  pub table : IsTable rows by_id by_spot
  pub tree : tree_of (rows_in rows by_id) ≡ t

and_true : (a b : Bool) → (a && b) ≡ true → (a ≡ true) × (b ≡ true)
and_true true b h = (refl, h)
and_true false b h = absurd (true≢false (sym h))

-- slots in the order of ids and of places
tables_by : (rows : List Row) (by_id by_spot : List ℕ) (t : Tree) → AreRows (rows_in rows by_id) t → IsWellFormed t → IsIndex t (ids_in rows by_spot) → AreShown t rows → AreWithin (length rows) by_id → AreWithin (length rows) by_spot → length rows ≤ 2 ^ 32
    → Tables rows by_id by_spot t
tables_by rows by_id by_spot t are formed index shown ids spots few = record {
  table = record {
    kept = record { rise = are.rise; formed = subst IsWellFormed (sym are.tree) formed };
    index = subst (λ s. IsIndex s (ids_in rows by_spot)) (sym are.tree) index;
    shown = subst (λ s. AreShown s rows) (sym are.tree) shown;
    ids_within = ids;
    spots_within = spots;
    few = few;
  };
  tree = are.tree;
}

module _ (rows : List Row) (by_id by_spot : List ℕ) (x : IsTable rows by_id by_spot) where
  abbrev sorted : List Row
  sorted = rows_in rows by_id

  abbrev t : Tree
  t = tree_of sorted

  abbrev key : ℕ → NodeId × Row
  key s = keyed (row_in rows s)

  pub spots_are : map (spotted t) (ids_in rows by_spot) ≡ spots_in rows by_spot
  spots_are = spotted_is t rows x.shown by_spot x.spots_within

  pub spots_rise : entries.is_sorted spot_cmp (spots_in rows by_spot) ≡ true
  spots_rise = ap (entries.is_sorted spot_cmp) (sym spots_are) ∙ x.index.rise

  keys_rise : entries.is_sorted node_cmp (map key by_id) ≡ true
  keys_rise = ap (entries.is_sorted node_cmp) (sym (keyed_slots rows by_id)) ∙ x.kept.rise

  -- a slot stands at the place of its row's id alone
  pub only_id : (slot j : ℕ) → slice_get by_id j ≡ Some slot → j ≡ place_of (row_in rows slot).id sorted
  only_id slot j got = only_at node_cmp nodes_total exact_nodes key by_id keys_rise slot j got ∙ place_keyed rows by_id (row_in rows slot).id

  only_spot : (slot j : ℕ) → slice_get by_spot j ≡ Some slot → j ≡ spot_place rows by_spot slot
  only_spot slot j got = only_at spot_cmp spots_total exact_spots (spot_in rows) by_spot spots_rise slot j got

  -- the row that is found stands in the slot at the place of its id
  row_there : (id : NodeId) (o : Row) → look t id ≡ Some o → (slice_get sorted (place_of id sorted) ≡ Some o) × (o.id ≡ id)
  row_there id o found = let at = row_at id o sorted x.kept.rise (sym (look_of sorted x.kept.rise id) ∙ found) in (at.0, at.1)

  pub slot_there : (id : NodeId) (o : Row) → look t id ≡ Some o → (slot : ℕ) × (slice_get by_id (place_of id sorted) ≡ Some slot) × (row_in rows slot ≡ o) × (slot < length rows)
  slot_there id o found =
      let s = slot_at rows by_id (place_of id sorted) o (row_there id o found).0 in
      (s.0, s.1, s.2, within_got (length rows) by_id (place_of id sorted) s.0 x.ids_within s.1)

  -- and in the list by places, but for the root's
  pub spot_there : (slot : ℕ) → slot < length rows → (row_in rows slot).id ≢ record { device = 0; seq = 0; part = 0 } → slice_get by_spot (spot_place rows by_spot slot) ≡ Some slot
  spot_there slot lt off =
      let r = row_in rows slot in
      let k : Spot = (r.parent, r.name) in
      let found : look t r.id ≡ Some r = x.shown.shown slot lt in
      let listed : entries.find spot_cmp k (spots_in rows by_spot) ≡ Some r.id = ap (entries.find spot_cmp k) (sym spots_are) ∙ x.index.gives k ∙ child_is t x.kept.formed r.id r found off in
      let stands : slice_get (spots_in rows by_spot) (spot_place rows by_spot slot) ≡ Some (k, r.id) = found_at spot_cmp spots_total exact_spots k r.id (spots_in rows by_spot) spots_rise listed in
      spot_slot (slice_get by_spot (spot_place rows by_spot slot)) refl (sym (slice_get-map (spot_in rows) by_spot (spot_place rows by_spot slot)) ∙ stands)
    where
      spot_slot : (o : Option ℕ) → slice_get by_spot (spot_place rows by_spot slot) ≡ o → option_map (spot_in rows) o ≡ Some (((row_in rows slot).parent, (row_in rows slot).name), (row_in rows slot).id) → o ≡ Some slot
      spot_slot None e h = absurd (none_some _ h)
      spot_slot (Some s) e h =
          let same : (row_in rows s).id ≡ (row_in rows slot).id = ap (λ (p : Spot × NodeId). p.1) (some_is (spot_in rows s) _ h) in
          ap (λ z. Some z) (x.shown.apart s slot (within_got (length rows) by_spot _ s x.spots_within e) lt same)

  -- a new row, in a new slot
  module _ (row : Row) (fits : FitsNew (look t) row) (room : length rows < 2 ^ 32) where
    abbrev more : List Row
    more = rows ++ row ∷ []

    abbrev id_place : ℕ
    id_place = place_of row.id sorted

    abbrev new_spot : ℕ
    new_spot = place_in_order spot_cmp (row.parent, row.name) (spots_in rows by_spot)

    abbrev with_row : Tree
    with_row = map.insert t row.id row

    more_length : length more ≡ length rows + 1
    more_length = length-append rows (row ∷ [])

    more_sorted : rows_in more (insert by_id id_place (length rows)) ≡ insert sorted id_place row
    more_sorted =
        map-insert (row_in more) by_id id_place (length rows)
        ∙ (λ i. insert (rows_same rows more (length rows) (pushed_below rows row) by_id x.ids_within i) id_place (pushed_end rows row i))

    more_ids : ids_in more (insert by_spot new_spot (length rows)) ≡ insert (ids_in rows by_spot) new_spot row.id
    more_ids =
        map-insert (λ s. (row_in more s).id) by_spot new_spot (length rows)
        ∙ (λ i. insert (ids_same rows more (length rows) (λ s lt. ap (λ (r : Row). r.id) (pushed_below rows row s lt)) by_spot x.spots_within i) new_spot ((pushed_end rows row i).id))

    more_index : IsIndex with_row (insert (ids_in rows by_spot) new_spot row.id)
    more_index =
        subst (λ es. IsIndex with_row (insert (ids_in rows by_spot) (place_in_order spot_cmp (row.parent, row.name) es) row.id)) spots_are
        (index_insert t row x.kept.formed fits (ids_in rows by_spot) x.index)

    other_id : (s : ℕ) → s < length rows → (row_in rows s).id ≢ row.id
    other_id s lt e = none_some (row_in rows s) (sym fits.new ∙ ap (look t) (sym e) ∙ x.shown.shown s lt)

    more_shown : AreShown with_row more
    more_shown = record {
      shown = λ s lt. elim (nat_cases s (length rows)) [
        | inl e ↦
            let is : row_in more s ≡ row = ap (row_in more) e.1 ∙ pushed_end rows row in
            ap (λ (r : Row). look with_row r.id) is ∙ (look-insert t row.id row).here ∙ ap (λ r. Some r) (sym is)
        | inr ne ↦
            let low : s < length rows = (let off : s ≢ length rows = ne.1 in omega (arith, more_length, lt, off)) in
            let is : row_in more s ≡ row_in rows s = pushed_below rows row s low in
            ap (λ (r : Row). look with_row r.id) is ∙ (look-insert t row.id row).others (row_in rows s).id (other_id s low) ∙ x.shown.shown s low ∙ ap (λ r. Some r) (sym is)
      ];
      apart = λ a b la lb same. elim (nat_cases a (length rows)) [
        | inl e ↦ elim (nat_cases b (length rows)) [
          | inl f ↦ e.1 ∙ sym f.1
          | inr nf ↦
              let low : b < length rows = (let off : b ≢ length rows = nf.1 in omega (arith, more_length, lb, off)) in
              absurd (other_id b low (sym (ap (λ (r : Row). r.id) (pushed_below rows row b low)) ∙ sym same ∙ ap (λ (r : Row). r.id) (ap (row_in more) e.1 ∙ pushed_end rows row)))
        ]
        | inr ne ↦
            let low_a : a < length rows = (let off : a ≢ length rows = ne.1 in omega (arith, more_length, la, off)) in
            elim (nat_cases b (length rows)) [
              | inl f ↦ absurd (other_id a low_a (sym (ap (λ (r : Row). r.id) (pushed_below rows row a low_a)) ∙ same ∙ ap (λ (r : Row). r.id) (ap (row_in more) f.1 ∙ pushed_end rows row)))
              | inr nf ↦
                  let low_b : b < length rows = (let off : b ≢ length rows = nf.1 in omega (arith, more_length, lb, off)) in
                  x.shown.apart a b low_a low_b (sym (ap (λ (r : Row). r.id) (pushed_below rows row a low_a)) ∙ same ∙ ap (λ (r : Row). r.id) (pushed_below rows row b low_b))
            ]
      ];
    }

    pub inserted : Tables more (insert by_id id_place (length rows)) (insert by_spot new_spot (length rows)) with_row
    inserted = tables_by _ _ _ _
        (subst (λ l. AreRows l with_row) (sym more_sorted) (insert_new row sorted x.kept.rise fits.new))
        (new_kept t row x.kept.formed fits)
        (subst (IsIndex with_row) (sym more_ids) more_index)
        more_shown
        (within_with (length more) by_id id_place (length rows) (omega (arith, more_length)) (within_more (length rows) (length more) (omega (arith, more_length)) by_id x.ids_within))
        (within_with (length more) by_spot new_spot (length rows) (omega (arith, more_length)) (within_more (length rows) (length more) (omega (arith, more_length)) by_spot x.spots_within))
        (omega (arith, more_length, room))

  -- another row of the same id, in its slot
  module _ (was row : Row) (fits : FitsReplace (map.len t) (look t) was row) (slot : ℕ) (got : slice_get by_id (place_of row.id sorted) ≡ Some slot) where
    abbrev changed : List Row
    changed = set rows slot row

    abbrev with_it : Tree
    with_it = map.insert t row.id row

    slot_lt : slot < length rows
    slot_lt = within_got (length rows) by_id (place_of row.id sorted) slot x.ids_within got

    pub in_slot : row_in rows slot ≡ was
    in_slot = let s = slot_there row.id was fits.there in ap (row_in rows) (some_is slot s.0 (sym got ∙ s.1)) ∙ s.2

    was_id : was.id ≡ row.id
    was_id = (row_there row.id was fits.there).1

    slot_id : (row_in rows slot).id ≡ row.id
    slot_id = ap (λ (r : Row). r.id) in_slot ∙ was_id

    changed_sorted : rows_in changed by_id ≡ set sorted (place_of row.id sorted) row
    changed_sorted = rows_set rows slot row slot_lt by_id (place_of row.id sorted) got (λ j h. only_id slot j h ∙ ap (λ q. place_of q sorted) slot_id)

    changed_id : (s : ℕ) → s < length rows → (row_in changed s).id ≡ (row_in rows s).id
    changed_id s lt = elim (nat_cases s slot) [
      | inl e ↦ ap (λ z. (row_in changed z).id) e.1 ∙ ap (λ (r : Row). r.id) (get_or-set_same rows slot row root_row slot_lt) ∙ sym slot_id ∙ ap (λ z. (row_in rows z).id) (sym e.1)
      | inr ne ↦ ap (λ (r : Row). r.id) (get_or-set_other rows slot s row root_row ne.1)
    ]

    changed_shown : AreShown with_it changed
    changed_shown = record {
      shown = λ s lt.
          let low : s < length rows = omega (arith, lt, length-set rows slot row) in
          elim (nat_cases s slot) [
            | inl e ↦
                let is : row_in changed s ≡ row = ap (row_in changed) e.1 ∙ get_or-set_same rows slot row root_row slot_lt in
                ap (λ (r : Row). look with_it r.id) is ∙ (look-insert t row.id row).here ∙ ap (λ r. Some r) (sym is)
            | inr ne ↦
                let is : row_in changed s ≡ row_in rows s = get_or-set_other rows slot s row root_row ne.1 in
                let off : (row_in rows s).id ≢ row.id = λ e. ne.1 (x.shown.apart s slot low slot_lt (e ∙ sym slot_id)) in
                ap (λ (r : Row). look with_it r.id) is ∙ (look-insert t row.id row).others (row_in rows s).id off ∙ x.shown.shown s low ∙ ap (λ r. Some r) (sym is)
          ];
      apart = λ a b la lb same.
          let low_a : a < length rows = omega (arith, la, length-set rows slot row) in
          let low_b : b < length rows = omega (arith, lb, length-set rows slot row) in
          x.shown.apart a b low_a low_b (sym (changed_id a low_a) ∙ same ∙ changed_id b low_b);
    }

    stays_is : (stays rows slot row ≡ true) → (row.parent ≡ was.parent) × (row.name ≡ was.name)
    stays_is h =
        let both = and_true (same_node (row_in rows slot).parent row.parent) (bytes_eq (row_in rows slot).name row.name) h in
        (sym (node_is _ _ both.0) ∙ ap (λ (r : Row). r.parent) in_slot, sym ((bytes_eq-Decides (row_in rows slot).name row.name).0 both.1) ∙ ap (λ (r : Row). r.name) in_slot)

    is_staying : row.parent ≡ was.parent → row.name ≡ was.name → stays rows slot row ≡ true
    is_staying p n =
        ap (λ b. b && bytes_eq (row_in rows slot).name row.name) (ap (same_node (row_in rows slot).parent) (p ∙ ap (λ (r : Row). r.parent) (sym in_slot)) ∙ node_self (row_in rows slot).parent)
        ∙ (bytes_eq-Decides (row_in rows slot).name row.name).1 (ap (λ (r : Row). r.name) in_slot ∙ sym n)

    pub is_moving : stays rows slot row ≡ false → FitsRename (map.len t) (look t) row.id row.parent row.name None
    is_moving h = elim fits.place [
      | inl same ↦ absurd (true≢false (sym (is_staying same.0 same.1) ∙ h))
      | inr move ↦ move
    ]

    pub is_listed : stays rows slot row ≡ false → slice_get by_spot (spot_place rows by_spot slot) ≡ Some slot
    is_listed h = spot_there slot slot_lt (λ e. (is_moving h).not_root (sym slot_id ∙ e))

    -- the list without the slot, and the index without the id
    abbrev left : List ℕ
    left = remove by_spot (spot_place rows by_spot slot)

    old_place : spot_place rows by_spot slot ≡ place_in_order spot_cmp (was.parent, was.name) (map (spotted t) (ids_in rows by_spot))
    old_place = (λ i. place_in_order spot_cmp ((in_slot i).parent, (in_slot i).name) (sym spots_are i))

    left_ids : ids_in rows left ≡ remove (ids_in rows by_spot) (place_in_order spot_cmp (was.parent, was.name) (map (spotted t) (ids_in rows by_spot)))
    left_ids = map-remove (λ s. (row_in rows s).id) by_spot (spot_place rows by_spot slot) ∙ ap (remove (ids_in rows by_spot)) old_place

    left_spots : spots_in rows left ≡ map (spotted t) (remove (ids_in rows by_spot) (place_in_order spot_cmp (was.parent, was.name) (map (spotted t) (ids_in rows by_spot))))
    left_spots = sym (spotted_is t rows x.shown left (within_without (length rows) by_spot (spot_place rows by_spot slot) x.spots_within)) ∙ ap (map (spotted t)) left_ids

    pub left_rises : stays rows slot row ≡ false → entries.is_sorted spot_cmp (spots_in rows left) ≡ true
    left_rises h = ap (entries.is_sorted spot_cmp) left_spots ∙ rest_rises t x.kept.formed (ids_in rows by_spot) x.index row.id was fits.there (is_moving h).not_root

    followed_ids : (b : Bool) → stays rows slot row ≡ b → IsIndex with_it (ids_in rows (cond b by_spot (insert left (place_in_order spot_cmp (row.parent, row.name) (spots_in rows left)) slot)))
    followed_ids true h = let same = stays_is h in index_same t x.kept.formed was row fits same.0 same.1 (ids_in rows by_spot) x.index
    followed_ids false h =
        subst (IsIndex with_it)
        (sym (map-insert (λ s. (row_in rows s).id) left (place_in_order spot_cmp (row.parent, row.name) (spots_in rows left)) slot
        ∙ (λ i. insert (left_ids i) (place_in_order spot_cmp (row.parent, row.name) (left_spots i)) (slot_id i))))
        (index_move t x.kept.formed was row fits (ids_in rows by_spot) x.index (is_moving h))

    followed_within : (b : Bool) → AreWithin (length rows) (cond b by_spot (insert left (place_in_order spot_cmp (row.parent, row.name) (spots_in rows left)) slot))
    followed_within true = x.spots_within
    followed_within false = within_with (length rows) left _ slot slot_lt (within_without (length rows) by_spot _ x.spots_within)

    pub replaced : Tables changed by_id (followed rows by_spot slot row) with_it
    replaced = tables_by _ _ _ _
        (subst (λ l. AreRows l with_it) (sym changed_sorted) (insert_over row was sorted x.kept.rise fits.there))
        (replace_kept t was row x.kept.formed fits)
        (subst (IsIndex with_it) (sym (ids_same rows changed (length rows) changed_id (followed rows by_spot slot row) (followed_within (stays rows slot row)))) (followed_ids (stays rows slot row) refl))
        changed_shown
        (subst (λ n. AreWithin n by_id) (sym (length-set rows slot row)) x.ids_within)
        (subst (λ n. AreWithin n (followed rows by_spot slot row)) (sym (length-set rows slot row)) (followed_within (stays rows slot row)))
        (omega (arith, length-set rows slot row, x.few))

  -- a row is taken out: the last row moves into its slot
  module _ (id : NodeId) (was : Row) (found : look t id ≡ Some was) (fits : FitsRemove (look t) id) (slot : ℕ) (got : slice_get by_id (place_of id sorted) ≡ Some slot) where
    abbrev without_it : Tree
    without_it = map.remove t id

    abbrev ids_left : List ℕ
    ids_left = remove by_id (place_of id sorted)

    abbrev spots_left : List ℕ
    spots_left = remove by_spot (spot_place rows by_spot slot)

    pub removed_lt : slot < length rows
    removed_lt = within_got (length rows) by_id (place_of id sorted) slot x.ids_within got

    pub removed_is : row_in rows slot ≡ was
    removed_is = let s = slot_there id was found in ap (row_in rows) (some_is slot s.0 (sym got ∙ s.1)) ∙ s.2

    removed_id : (row_in rows slot).id ≡ id
    removed_id = ap (λ (r : Row). r.id) removed_is ∙ (row_there id was found).1

    pub is_spotted : slice_get by_spot (spot_place rows by_spot slot) ≡ Some slot
    is_spotted = spot_there slot removed_lt (λ e. fits.not_root (sym removed_id ∙ e))

    no_id : IsAbsent slot ids_left
    no_id = absent_without slot by_id (place_of id sorted) (λ j h. only_id slot j h ∙ ap (λ q. place_of q sorted) removed_id)

    no_spot : IsAbsent slot spots_left
    no_spot = absent_without slot by_spot (spot_place rows by_spot slot) (λ j h. only_spot slot j h)

    ids_left_within : AreWithin (length rows) ids_left
    ids_left_within = within_without (length rows) by_id (place_of id sorted) x.ids_within

    spots_left_within : AreWithin (length rows) spots_left
    spots_left_within = within_without (length rows) by_spot (spot_place rows by_spot slot) x.spots_within

    sorted_left : rows_in rows ids_left ≡ remove sorted (place_of id sorted)
    sorted_left = map-remove (row_in rows) by_id (place_of id sorted)

    removed_rows : AreRows (remove sorted (place_of id sorted)) without_it
    removed_rows = remove_at id was sorted x.kept.rise found

    pub ids_left_rise : rises (rows_in rows ids_left) ≡ true
    ids_left_rise = ap rises sorted_left ∙ removed_rows.rise

    gone_place : spot_place rows by_spot slot ≡ place_in_order spot_cmp (was.parent, was.name) (map (spotted t) (ids_in rows by_spot))
    gone_place = λ i. place_in_order spot_cmp ((removed_is i).parent, (removed_is i).name) (sym spots_are i)

    left_by_spot : ids_in rows spots_left ≡ remove (ids_in rows by_spot) (place_in_order spot_cmp (was.parent, was.name) (map (spotted t) (ids_in rows by_spot)))
    left_by_spot = map-remove (λ s. (row_in rows s).id) by_spot (spot_place rows by_spot slot) ∙ ap (remove (ids_in rows by_spot)) gone_place

    pub spots_left_rise : entries.is_sorted spot_cmp (spots_in rows spots_left) ≡ true
    spots_left_rise =
        ap (entries.is_sorted spot_cmp) (sym (spotted_is t rows x.shown spots_left spots_left_within) ∙ ap (map (spotted t)) left_by_spot)
        ∙ rest_rises t x.kept.formed (ids_in rows by_spot) x.index id was found fits.not_root

    module _ (fewer : List Row) (last : ℕ) (last_is : last + 1 ≡ length rows) (fewer_length : length fewer ≡ last)
        (in_its_slot : slot < last → row_in fewer slot ≡ row_in rows last) (elsewhere : (k : ℕ) → k ≢ slot → k < last → row_in fewer k ≡ row_in rows k) where
      slot_le : slot ≤ last
      slot_le = omega (arith, removed_lt, last_is)

      -- the slot from which a row came
      abbrev origin : ℕ → ℕ
      origin k = cond (nat_eq k slot) last k

      from_origin : (k : ℕ) → k < last → (row_in fewer k ≡ row_in rows (origin k)) × (origin k < length rows) × (origin k ≢ slot)
      from_origin k lt = elim (nat_cases k slot) [
        | inl e ↦
            let b : nat_eq k slot ≡ true = e.0 in
            let at : k ≡ slot = e.1 in
            subst (λ b. (row_in fewer k ≡ row_in rows (cond b last k)) × (cond b last k < length rows) × (cond b last k ≢ slot)) (sym b)
            (ap (row_in fewer) at ∙ in_its_slot (omega (arith, lt, at)), omega (arith, last_is), λ p. absurd (omega (arith, lt, at, p)))
        | inr ne ↦ subst (λ b. (row_in fewer k ≡ row_in rows (cond b last k)) × (cond b last k < length rows) × (cond b last k ≢ slot)) (sym ne.0) (elsewhere k ne.1 lt, omega (arith, last_is, lt), ne.1)
      ]

      origin_apart : (a b : ℕ) → a < last → b < last → origin a ≡ origin b → a ≡ b
      origin_apart a b la lb h = elim (nat_cases a slot) [
        | inl e ↦ elim (nat_cases b slot) [
          | inl f ↦ e.1 ∙ sym f.1
          | inr nf ↦ let same : last ≡ b = ap (λ c. cond c last a) (sym e.0) ∙ h ∙ ap (λ c. cond c last b) nf.0 in absurd (omega (arith, same, lb))
        ]
        | inr ne ↦ elim (nat_cases b slot) [
          | inl f ↦ let same : a ≡ last = ap (λ c. cond c last a) (sym ne.0) ∙ h ∙ ap (λ c. cond c last b) f.0 in absurd (omega (arith, same, la))
          | inr nf ↦ ap (λ c. cond c last a) (sym ne.0) ∙ h ∙ ap (λ c. cond c last b) nf.0
        ]
      ]

      moved_to : {A : Type 0} (f : Row → A) → (slots : List ℕ) → AreWithin (length rows) slots → IsAbsent slot slots → map (λ s. f (row_in fewer s)) (redirected last slot slots) ≡ map (λ s. f (row_in rows s)) slots
      moved_to f slots within none = map_redirected (λ s. f (row_in rows s)) (λ s. f (row_in fewer s)) last slot (length rows)
          (λ ne. ap f (in_its_slot (omega (arith, slot_le, ne))))
          (λ s lt off ne. ap f (elsewhere s ne (omega (arith, lt, last_is, off))))
          slots within none

      fewer_shown : AreShown without_it fewer
      fewer_shown = record {
        shown = λ s lt.
            let low : s < last = omega (arith, lt, fewer_length) in
            let o = from_origin s low in
            let other : (row_in rows (origin s)).id ≢ id = λ e. o.2 (x.shown.apart (origin s) slot o.1 removed_lt (e ∙ sym removed_id)) in
            ap (λ (r : Row). look without_it r.id) o.0 ∙ (look-remove t id).others (row_in rows (origin s)).id other ∙ x.shown.shown (origin s) o.1 ∙ ap (λ r. Some r) (sym o.0);
        apart = λ a b la lb same.
            let low_a : a < last = omega (arith, la, fewer_length) in
            let low_b : b < last = omega (arith, lb, fewer_length) in
            let oa = from_origin a low_a in
            let ob = from_origin b low_b in
            origin_apart a b low_a low_b (x.shown.apart (origin a) (origin b) oa.1 ob.1 (sym (ap (λ (r : Row). r.id) oa.0) ∙ same ∙ ap (λ (r : Row). r.id) ob.0));
      }

      pub removed : Tables fewer (redirected last slot ids_left) (redirected last slot spots_left) without_it
      removed = tables_by _ _ _ _
          (subst (λ l. AreRows l without_it) (sym (moved_to (λ r. r) ids_left ids_left_within no_id ∙ sorted_left)) removed_rows)
          (remove_kept t id x.kept.formed fits)
          (subst (IsIndex without_it) (sym (moved_to (λ r. r.id) spots_left spots_left_within no_spot ∙ left_by_spot)) (index_remove t x.kept.formed (ids_in rows by_spot) x.index id was found fits.not_root fits))
          fewer_shown
          (subst (λ n. AreWithin n (redirected last slot ids_left)) (sym fewer_length) (within_redirected last slot slot_le ids_left (subst (λ n. AreWithin n ids_left) (sym last_is) ids_left_within) no_id))
          (subst (λ n. AreWithin n (redirected last slot spots_left)) (sym fewer_length) (within_redirected last slot slot_le spots_left (subst (λ n. AreWithin n spots_left) (sym last_is) spots_left_within) no_spot))
          (omega (arith, fewer_length, last_is, x.few))
