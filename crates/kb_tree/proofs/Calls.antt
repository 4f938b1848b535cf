-- What the calls of a table that change it leave, by what they read and wrote.
use Rattle.std.proofs.Common.{◌≡◌, ◌≢◌, ℕ, ◌+◌, ◌-◌, ◌^◌, ◌≤◌, ◌<◌, true, false, cond, ◌&&◌, List, [], ◌∷◌, ◌++◌, length, Some, set, slice_get, get_or, refl, sym, ap, subst, ◌∙◌, arith}
use Rattle.std.specs.Prelude.{IsSomeAnd}
use Rattle.std.specs.List.{insert, remove}
use Rattle.std.specs.Option.{option_map_or}
use Rattle.std.specs.Str.{bytes_eq}
use Rattle.std.proofs.lemmas.Slice.Eq.{bytes_eq-Decides}
use Rattle.std.proofs.lemmas.Option.{get_or_from_slice_get}
use Rattle.std.specs.FinMap as map
use Rattle.std.specs.FinMap.Entries as entries
use Rattle.kb_name.specs.declared.ids.NodeId.{NodeId}
use Rattle.kb_ops.specs.declared.rows.Row.{Row}
use Rattle.kb_ops.specs.Lists.{tree_of, place_of, rises}
use Rattle.kb_ops.specs.Rows.{FitsNew, FitsReplace, FitsRemove}
use Rattle.kb_ops.specs.Sorted.{place_in_order}
use Rattle.kb_ops.specs.Spots.{spot_cmp}
use Rattle.kb_ops.specs.Trees.{Tree, look, edit, IsWellFormed}
use Rattle.kb_name.specs.Nodes.{same_node}
use Rattle.kb_ops.proofs.Nodes.{node_self}
use Rattle.kb_ops.proofs.Kept.{some_and, and_some}
use Rattle.kb_ops.proofs.TreeKept.{there}
use Rattle.kb_tree.specs.Slots.{row_in, rows_in, spots_in, spot_place, stays, followed, redirected, room_of, changed, IsTable}
use Rattle.kb_tree.proofs.Entries.{some_is}
use Rattle.kb_tree.proofs.Fitting.{Changes}
use Rattle.kb_tree.proofs.Kept.{slot_row}
use Rattle.kb_tree.proofs.Found.{id_within, slot_read}
use Rattle.kb_tree.proofs.Edits.{Tables, inserted, replaced, is_listed, left_rises, in_slot, removed, removed_lt, removed_is, is_spotted, ids_left_rise, spots_left_rise}

by_items : (rows rows' : List Row) (by_id by_id' by_spot by_spot' : List ℕ) (t : Tree) → rows' ≡ rows → by_id' ≡ by_id → by_spot' ≡ by_spot → Tables rows by_id by_spot t → Tables rows' by_id' by_spot' t
by_items rows rows' by_id by_id' by_spot by_spot' t r i s h =
    subst (λ l. Tables l by_id' by_spot' t) (sym r) (subst (λ l. Tables rows l by_spot' t) (sym i) (subst (λ l. Tables rows by_id l t) (sym s) h))

-- where there is room, there is a slot left
pub few_rows : (a b c n : ℕ) → 1 ≤ room_of a b c (4294967296 - n) → n < 2 ^ 32
few_rows a b c n h = omega arith

module _ (rows : List Row) (by_id by_spot : List ℕ) (x : IsTable rows by_id by_spot) (t : Tree) (tree : tree_of (rows_in rows by_id) ≡ t) where
  abbrev sorted : List Row
  sorted = rows_in rows by_id

  pub formed : IsWellFormed t
  formed = subst IsWellFormed tree x.kept.formed

  pub after_insert : (row : Row) → FitsNew (look t) row → length rows < 2 ^ 32 → (at spot slot : ℕ) → at ≡ place_of row.id sorted → spot ≡ place_in_order spot_cmp (row.parent, row.name) (spots_in rows by_spot) → slot ≡ length rows
      → (rows' : List Row) (by_id' by_spot' : List ℕ) → rows' ≡ rows ++ row ∷ [] → by_id' ≡ insert by_id at slot → by_spot' ≡ insert by_spot spot slot
      → Tables rows' by_id' by_spot' (map.insert t row.id row)
  after_insert row fits few at spot slot place where_spot end rows' by_id' by_spot' r i s =
      by_items (rows ++ row ∷ []) rows' (insert by_id (place_of row.id sorted) (length rows)) by_id' (insert by_spot (place_in_order spot_cmp (row.parent, row.name) (spots_in rows by_spot)) (length rows)) by_spot' (map.insert t row.id row)
      r (i ∙ (λ j. insert by_id (place j) (end j))) (s ∙ (λ j. insert by_spot (where_spot j) (end j)))
      (subst (λ u. Tables (rows ++ row ∷ []) (insert by_id (place_of row.id sorted) (length rows)) (insert by_spot (place_in_order spot_cmp (row.parent, row.name) (spots_in rows by_spot)) (length rows)) (map.insert u row.id row)) tree
      (inserted rows by_id by_spot x row (subst (λ u. FitsNew (look u) row) (sym tree) fits) few))

  -- a row is to be replaced
  module _ (row : Row) (fits : IsSomeAnd (look t row.id) (λ was. FitsReplace (map.len t) (look t) was row)) (at : ℕ) (place : at ≡ place_of row.id sorted) where
    was : (w : Row) × (look t row.id ≡ Some w) × FitsReplace (map.len t) (look t) w row
    was = some_and (λ w. FitsReplace (map.len t) (look t) w row) (look t row.id) fits

    fits_here : FitsReplace (map.len (tree_of sorted)) (look (tree_of sorted)) was.0 row
    fits_here = subst (λ u. FitsReplace (map.len u) (look u) was.0 row) (sym tree) was.2

    pub replaced_within : at < length by_id
    replaced_within = id_within rows by_id by_spot x row.id was.0 fits_here.there at place

    module _ (slot : ℕ) (read : slot ≡ get_or by_id at slot) where
      got : slice_get by_id (place_of row.id sorted) ≡ Some slot
      got = slot_read rows by_id by_spot x row.id was.0 fits_here.there at slot place read

      pub replaced_slot : slot < length rows
      replaced_slot = Rattle.kb_tree.proofs.Kept.within_got (length rows) by_id (place_of row.id sorted) slot x.ids_within got

      pub replaced_listed : stays rows slot row ≡ false → slice_get by_spot (spot_place rows by_spot slot) ≡ Some slot
      replaced_listed = is_listed rows by_id by_spot x was.0 row fits_here slot got

      pub replaced_left : stays rows slot row ≡ false → entries.is_sorted spot_cmp (spots_in rows (remove by_spot (spot_place rows by_spot slot))) ≡ true
      replaced_left = left_rises rows by_id by_spot x was.0 row fits_here slot got

      pub replaced_was : (r : Row) → r ≡ get_or rows slot r → look t row.id ≡ Some r
      replaced_was r h =
          let is : r ≡ row_in rows slot = h ∙ get_or_from_slice_get rows slot (row_in rows slot) r (slot_row rows slot replaced_slot) in
          was.1 ∙ ap (λ z. Some z) (sym (is ∙ in_slot rows by_id by_spot x was.0 row fits_here slot got))

      pub after_replace : (rows' : List Row) (by_spot' : List ℕ) → rows' ≡ set rows slot row → by_spot' ≡ followed rows by_spot slot row → Tables rows' by_id by_spot' (map.insert t row.id row)
      after_replace rows' by_spot' r s =
          by_items (set rows slot row) rows' by_id by_id (followed rows by_spot slot row) by_spot' (map.insert t row.id row) r (λ _. by_id) s
          (subst (λ u. Tables (set rows slot row) by_id (followed rows by_spot slot row) (map.insert u row.id row)) tree (replaced rows by_id by_spot x was.0 row fits_here slot got))

  -- a row is to be changed where it stands
  module _ (node : NodeId) (f : Row → Row) (change : Changes t node f) (at : ℕ) (place : at ≡ place_of node sorted) where
    abbrev old : Row
    old = change.was

    same_id : (f old).id ≡ node
    same_id = sym (formed.keyed (f old).id old change.fits.there) ∙ formed.keyed node old change.found

    fits_some : IsSomeAnd (look t (f old).id) (λ w. FitsReplace (map.len t) (look t) w (f old))
    fits_some = and_some (λ w. FitsReplace (map.len t) (look t) w (f old)) (look t (f old).id) old change.fits.there change.fits

    place_here : at ≡ place_of (f old).id sorted
    place_here = place ∙ ap (λ q. place_of q sorted) (sym same_id)

    edited : map.insert t (f old).id (f old) ≡ edit t node f
    edited = ap (λ k. map.insert t k (f old)) same_id ∙ sym (ap (λ o. option_map_or (λ r. map.insert t node (f r)) o t) change.found)

    pub changed_within : at < length by_id
    changed_within = replaced_within (f old) fits_some at place_here

    module _ (slot : ℕ) (read : slot ≡ get_or by_id at slot) where
      pub changed_slot : slot < length rows
      changed_slot = replaced_slot (f old) fits_some at place_here slot read

      pub in_it : row_in rows slot ≡ old
      in_it =
          let here : look t (f old).id ≡ Some (row_in rows slot) = replaced_was (f old) fits_some at place_here slot read (row_in rows slot) (sym (get_or_from_slice_get rows slot (row_in rows slot) (row_in rows slot) (slot_row rows slot changed_slot))) in
          some_is (row_in rows slot) old (sym here ∙ change.fits.there)

      pub changed_listed : stays rows slot (f (row_in rows slot)) ≡ false → slice_get by_spot (spot_place rows by_spot slot) ≡ Some slot
      changed_listed moves = replaced_listed (f old) fits_some at place_here slot read (ap (λ w. stays rows slot (f w)) (sym in_it) ∙ moves)

      pub changed_left : stays rows slot (f (row_in rows slot)) ≡ false → entries.is_sorted spot_cmp (spots_in rows (remove by_spot (spot_place rows by_spot slot))) ≡ true
      changed_left moves = replaced_left (f old) fits_some at place_here slot read (ap (λ w. stays rows slot (f w)) (sym in_it) ∙ moves)

      pub after_change : (rows' : List Row) (by_spot' : List ℕ) → rows' ≡ changed rows slot f → by_spot' ≡ followed rows by_spot slot (f (row_in rows slot)) → Tables rows' by_id by_spot' (edit t node f)
      after_change rows' by_spot' r s =
          subst (Tables rows' by_id by_spot') edited
          (after_replace (f old) fits_some at place_here slot read rows' by_spot' (r ∙ ap (λ w. set rows slot (f w)) in_it) (s ∙ ap (λ w. followed rows by_spot slot (f w)) in_it))

      -- where it stays
      pub after_edit : (f old).parent ≡ old.parent → (f old).name ≡ old.name → (rows' : List Row) → rows' ≡ changed rows slot f → Tables rows' by_id by_spot (edit t node f)
      after_edit parent name rows' r =
          let stayed : stays rows slot (f (row_in rows slot)) ≡ true =
          (λ i. same_node ((in_it i).parent) ((f (in_it i)).parent) && bytes_eq ((in_it i).name) ((f (in_it i)).name))
          ∙ (λ i. same_node old.parent (parent i) && bytes_eq old.name (name i))
          ∙ ap (λ b. b && bytes_eq old.name old.name) (node_self old.parent)
          ∙ (bytes_eq-Decides old.name old.name).1 refl in
          after_change rows' by_spot r (sym (ap (λ b. cond b by_spot (insert (remove by_spot (spot_place rows by_spot slot)) (place_in_order spot_cmp ((f (row_in rows slot)).parent, (f (row_in rows slot)).name) (spots_in rows (remove by_spot (spot_place rows by_spot slot)))) slot)) stayed))

  -- a row is to be taken out
  module _ (id : NodeId) (fits : FitsRemove (look t) id) (at : ℕ) (place : at ≡ place_of id sorted) where
    gone : (r : Row) × (look t id ≡ Some r)
    gone = there t id fits.there

    found : look (tree_of sorted) id ≡ Some gone.0
    found = ap (λ u. look u id) tree ∙ gone.1

    fits_gone : FitsRemove (look (tree_of sorted)) id
    fits_gone = subst (λ u. FitsRemove (look u) id) (sym tree) fits

    pub removed_within : at < length by_id
    removed_within = id_within rows by_id by_spot x id gone.0 found at place

    module _ (slot : ℕ) (read : slot ≡ get_or by_id at slot) where
      got_gone : slice_get by_id (place_of id sorted) ≡ Some slot
      got_gone = slot_read rows by_id by_spot x id gone.0 found at slot place read

      pub removed_slot : slot < length rows
      removed_slot = removed_lt rows by_id by_spot x id gone.0 found fits_gone slot got_gone

      pub removed_listed : slice_get by_spot (spot_place rows by_spot slot) ≡ Some slot
      removed_listed = is_spotted rows by_id by_spot x id gone.0 found fits_gone slot got_gone

      pub removed_was : (r : Row) → r ≡ get_or rows slot r → look t id ≡ Some r
      removed_was r h =
          let is : r ≡ row_in rows slot = h ∙ get_or_from_slice_get rows slot (row_in rows slot) r (slot_row rows slot removed_slot) in
          gone.1 ∙ ap (λ z. Some z) (sym (is ∙ removed_is rows by_id by_spot x id gone.0 found fits_gone slot got_gone))

      pub ids_left : rises (rows_in rows (remove by_id at)) ≡ true
      ids_left = ap (λ i. rises (rows_in rows (remove by_id i))) place ∙ ids_left_rise rows by_id by_spot x id gone.0 found fits_gone slot got_gone

      pub spots_left : entries.is_sorted spot_cmp (spots_in rows (remove by_spot (spot_place rows by_spot slot))) ≡ true
      spots_left = spots_left_rise rows by_id by_spot x id gone.0 found fits_gone slot got_gone

      pub after_remove : (last : ℕ) → last + 1 ≡ length rows
          → (rows' : List Row) (by_id' by_spot' : List ℕ) → length rows' ≡ last → (slot < last → row_in rows' slot ≡ row_in rows last) → ((k : ℕ) → k ≢ slot → k < last → row_in rows' k ≡ row_in rows k)
          → by_id' ≡ redirected last slot (remove by_id at) → by_spot' ≡ redirected last slot (remove by_spot (spot_place rows by_spot slot))
          → Tables rows' by_id' by_spot' (map.remove t id)
      after_remove last end rows' by_id' by_spot' size here elsewhere i s =
          by_items rows' rows' (redirected last slot (remove by_id (place_of id sorted))) by_id' (redirected last slot (remove by_spot (spot_place rows by_spot slot))) by_spot' (map.remove t id)
          (λ _. rows') (i ∙ ap (λ j. redirected last slot (remove by_id j)) place) s
          (subst (λ u. Tables rows' (redirected last slot (remove by_id (place_of id sorted))) (redirected last slot (remove by_spot (spot_place rows by_spot slot))) (map.remove u id)) tree
          (removed rows by_id by_spot x id gone.0 found fits_gone slot got_gone rows' last end size here elsewhere))
