-- How a table keeps its rows: in slots, in no order, with two lists of the slots, by id and by place.
use Rattle.std.specs.Prelude.{◌≡◌, ℕ, ◌<◌, ◌≤◌, ◌^◌, ◌&&◌, Bool, false, min, List, [], ◌∷◌, map, length, slice_index_or, slice_set, if◌then◌else◌, nat_eq, Some}
use Rattle.kb_name.specs.declared.ids.NodeId.{NodeId}
use Rattle.kb_ops.specs.declared.rows.Row.{Row}
use Rattle.kb_ops.specs.Trees.{Tree, look, root_row, patched}
use Rattle.kb_ops.specs.Lists.{tree_of}
use Rattle.std.specs.List.{insert, remove}
use Rattle.std.specs.Str.{bytes_eq}
use Rattle.kb_name.specs.Nodes.{same_node}
use Rattle.kb_ops.specs.Sorted.{place_in_order}
use Rattle.kb_ops.specs.Spots.{Spot, spot_cmp, IsIndex}
use Rattle.kb_tree.specs.Held.{AreKept}

-- the row in a slot
abbrev pub row_in : List Row → ℕ → Row
row_in rows slot = slice_index_or rows slot root_row

-- the rows of slots, in the order of the slots' list
abbrev pub rows_in : List Row → List ℕ → List Row
rows_in rows slots = map (row_in rows) slots

abbrev pub ids_in : List Row → List ℕ → List NodeId
ids_in rows slots = map (λ slot. (row_in rows slot).id) slots

-- the id of a slot's row, with its place
abbrev pub spot_in : List Row → ℕ → Spot × NodeId
spot_in rows slot = (((row_in rows slot).parent, (row_in rows slot).name), (row_in rows slot).id)

abbrev pub spots_in : List Row → List ℕ → List (Spot × NodeId)
spots_in rows slots = map (spot_in rows) slots

-- each slot is one of so many
abbrev pub AreWithin : ℕ → List ℕ → Type 0
AreWithin n [] = Unit {0}
AreWithin n (slot ∷ slots) = (slot < n) × AreWithin n slots

-- each slot's row is the tree's, and no two slots have one id
pub record AreShown (t : Tree) (rows : List Row) : Type 0 where
  pub shown : (slot : ℕ) → slot < length rows → look t (row_in rows slot).id ≡ Some (row_in rows slot)
  pub apart : (a b : ℕ) → a < length rows → b < length rows → (row_in rows a).id ≡ (row_in rows b).id → a ≡ b

-- rows in slots, with the slots in the order of ids, and those of all rows but the root's in the order of places
pub record IsTable (rows : List Row) (by_id by_spot : List ℕ) : Type 0 where
  pub kept : AreKept (rows_in rows by_id)
  pub index : IsIndex (tree_of (rows_in rows by_id)) (ids_in rows by_spot)
  pub shown : AreShown (tree_of (rows_in rows by_id)) rows
  pub ids_within : AreWithin (length rows) by_id
  pub spots_within : AreWithin (length rows) by_spot
  pub few : length rows ≤ 2 ^ 32

-- one slot in place of another
abbrev pub redirected : ℕ → ℕ → List ℕ → List ℕ
redirected old new slots = map (λ slot. if nat_eq slot old then new else slot) slots

-- for how many more rows there is room: in each of three lists, and among the slots that there can be
abbrev pub room_of : ℕ → ℕ → ℕ → ℕ → ℕ
room_of rows ids spots slots = min (min rows ids) (min spots slots)

-- where the slot of a row's place is in the list, or would go
abbrev pub spot_place : List Row → List ℕ → ℕ → ℕ
spot_place rows slots slot = place_in_order spot_cmp (spot_in rows slot).0 (spots_in rows slots)

-- whether a row would keep its parent and its name
abbrev pub stays : List Row → ℕ → Row → Bool
stays rows slot row = same_node (row_in rows slot).parent row.parent && bytes_eq (row_in rows slot).name row.name

abbrev pub IsMoved : List Row → ℕ → Row → Type 0
IsMoved rows slot row = stays rows slot row ≡ false

-- the list with a slot at the place of the row that it is to have
abbrev pub followed : List Row → List ℕ → ℕ → Row → List ℕ
followed rows slots slot row =
    if stays rows slot row then slots
    else let left = remove slots (spot_place rows slots slot) in insert left (place_in_order spot_cmp (row.parent, row.name) (spots_in rows left)) slot

-- ---- a row that is changed where it stands

-- at another place
abbrev pub moved : NodeId → List ℕ → Row → Row
moved parent name r = record r { parent = parent; name = name }

-- with another mark
abbrev pub with_exec : Bool → Row → Row
with_exec on r = record r { exec = on }

-- at another time
abbrev pub with_mtime : ℕ → Row → Row
with_mtime mtime r = record r { mtime = mtime }

-- after a write
abbrev pub written : ℕ → List ℕ → ℕ → ℕ → Row → Row
written offset bytes size mtime r = record r { bytes = patched r.bytes offset bytes size; mtime = mtime }

-- the rows with one of them changed
abbrev pub changed : List Row → ℕ → (Row → Row) → List Row
changed rows slot f = slice_set rows slot (f (row_in rows slot))
