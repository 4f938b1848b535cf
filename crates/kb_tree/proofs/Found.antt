-- What is found in a table's slots.
use Rattle.std.proofs.Common.{◌≡◌, ◌≢◌, ℕ, zero, suc, ◌+◌, ◌≤◌, ◌<◌, Bool, true, false, not, List, [], ◌∷◌, length, map, Option, Some, None, IfSome, ◌⊎◌, inl, inr, slice_get, get_or, refl, sym, ap, subst, ◌∙◌, lit≤, arith}
use mathlib.Core.Bool.{true≢false}
use Rattle.std.proofs.lemmas.Bool.{eqb-true}
use Rattle.std.specs.Prelude.{filter, nat_eq}
use Rattle.std.specs.List.{list_any}
use Rattle.std.specs.Borrow.{Bor}
use Rattle.std.specs.Option.{option_copied, option_map, option_map_or}
use Rattle.std.specs.Ordering.{nat_cmp}
use Rattle.std.specs.Cmp.Lexicographic.{slice_cmp}
use Rattle.std.proofs.lemmas.Option.{slice_get-map, slice_get_within, get_or_from_slice_get}
use Rattle.std.specs.FinMap as map
use Rattle.std.specs.FinMap.Entries as entries
use Rattle.kb_name.specs.declared.ids.NodeId.{NodeId}
use Rattle.kb_name.specs.Nodes.{root, same_node}
use Rattle.kb_ops.specs.declared.rows.Row.{Row}
use Rattle.kb_ops.specs.Trees.{Tree, look, IsWellFormed, root_row, start}
use Rattle.kb_ops.specs.Lists.{tree_of, place_of}
use Rattle.kb_ops.specs.Find.{child, stands_at}
use Rattle.kb_ops.specs.Plan.{has_child}
use Rattle.kb_ops.specs.Spots.{spot_cmp}
use Rattle.kb_ops.proofs.Nodes.{node_is, node_other, apart, and_first, and_second}
use Rattle.kb_ops.specs.Rows.{is_dir, meets}
use Rattle.kb_ops.proofs.Walks.{meets_next}
use Rattle.kb_ops.proofs.Kept.{some_and}
use Rattle.kb_ops.proofs.Lists.{look_of, row_of, len_of, values_of}
use Rattle.kb_ops.proofs.Children.{child_stands}
use Rattle.kb_ops.proofs.PlanFits.{childless}
use Rattle.kb_ops.proofs.Spots.{spots_total, exact_spots}
use Rattle.kb_ops.proofs.TreeKept.{start_formed}
use Rattle.kb_tree.specs.Children.{named, IsChildren}
use Rattle.kb_tree.specs.Slots.{row_in, rows_in, ids_in, spot_in, spots_in, spot_place, AreWithin, IsTable}
use Rattle.kb_tree.proofs.Entries.{find_got}
use Rattle.kb_tree.proofs.Kept.{within_got}
use Rattle.kb_tree.proofs.Parents.{of_it, name_in, found_by_name, names_rise, filter_has, filter_from, any_from}
use Rattle.kb_tree.proofs.Edits.{spots_are, spots_rise, slot_there, spot_there}

length-rows_in : (rows : List Row) (slots : List ℕ) → length (rows_in rows slots) ≡ length slots
length-rows_in rows [] = refl
length-rows_in rows (s ∷ slots) = ap suc (length-rows_in rows slots)

not_true : (b : Bool) → not b ≡ true → b ≡ false
not_true true h = absurd (true≢false (sym h))
not_true false h = refl

module _ (rows : List Row) (by_id by_spot : List ℕ) (x : IsTable rows by_id by_spot) where
  abbrev t : Tree
  t = tree_of (rows_in rows by_id)

  pub len_is : map.len t ≡ length by_id
  len_is = len_of (rows_in rows by_id) x.kept.rise ∙ length-rows_in rows by_id

  pub row_is : (id : NodeId) → row_of (rows_in rows by_id) id ≡ look t id
  row_is id = sym (look_of (rows_in rows by_id) x.kept.rise id)

  pub rows_are : rows_in rows by_id ≡ map.values t
  rows_are = sym (values_of (rows_in rows by_id) x.kept.rise)

  pub small : (id : NodeId) (r : Option (Bor Row)) → option_copied r ≡ look t id → IfSome r (λ row. length row.now.bytes ≤ 16777216)
  small id (Some row) e = (x.kept.formed.plain id row.now (sym e)).small
  small id None e = tt

  pub child_is : (parent : NodeId) (name : List ℕ) → entries.find spot_cmp (parent, name) (spots_in rows by_spot) ≡ child t parent name
  child_is parent name = ap (entries.find spot_cmp (parent, name)) (sym (spots_are rows by_id by_spot x)) ∙ x.index.gives (parent, name)

  -- the row of an id that is there is read by its slot
  pub id_within : (id : NodeId) (o : Row) → look t id ≡ Some o → (at : ℕ) → at ≡ place_of id (rows_in rows by_id) → at < length by_id
  id_within id o found at place = let s = slot_there rows by_id by_spot x id o found in subst (λ i. i < length by_id) (sym place) (slice_get_within by_id _ s.0 s.1)

  pub slot_read : (id : NodeId) (o : Row) → look t id ≡ Some o → (at slot : ℕ) → at ≡ place_of id (rows_in rows by_id) → slot ≡ get_or by_id at slot → slice_get by_id (place_of id (rows_in rows by_id)) ≡ Some slot
  slot_read id o found at slot place read =
      let s = slot_there rows by_id by_spot x id o found in
      let is : slot ≡ s.0 = read ∙ get_or_from_slice_get by_id at s.0 slot (ap (slice_get by_id) place ∙ s.1) in
      s.1 ∙ ap (λ z. Some z) (sym is)

  module _ (k : NodeId) where
    abbrev below : List ℕ
    below = filter (of_it rows k) by_spot

    named_are : (slots : List ℕ) → AreWithin (length rows) slots → map (named t) (ids_in rows slots) ≡ map (name_in rows k) slots
    named_are [] w = refl
    named_are (s ∷ slots) w = λ i. (option_map_or (λ (r : Row). r.name) (x.shown.shown s w.0 i) [], (row_in rows s).id) ∷ named_are slots w.1 i

    kept_within : (slots : List ℕ) → AreWithin (length rows) slots → AreWithin (length rows) (filter (of_it rows k) slots)
    kept_within [] w = tt
    kept_within (s ∷ slots) w = elim (of_it rows k s) as (λ b. AreWithin (length rows) (Rattle.std.proofs.Common.cond b (s ∷ filter (of_it rows k) slots) (filter (of_it rows k) slots))) [ true ↦ (w.0, kept_within slots w.1) | false ↦ kept_within slots w.1 ]

    names_are : map (named t) (ids_in rows below) ≡ map (name_in rows k) below
    names_are = named_are below (kept_within by_spot x.spots_within)

    pub are_children : IsChildren t k (ids_in rows below)
    are_children = record {
      rise = ap (entries.is_sorted (slice_cmp nat_cmp)) names_are ∙ names_rise rows k by_spot (spots_rise rows by_id by_spot x);
      gives = λ name. ap (entries.find (slice_cmp nat_cmp) name) names_are ∙ found_by_name rows k name by_spot ∙ child_is k name;
    }

    abbrev is_child : Row → Bool
    is_child r = Rattle.std.proofs.Common.◌&&◌ (not (same_node r.id root)) (same_node r.parent k)

    has_one : has_child t k ≡ true → 1 ≤ length below
    has_one h =
        let any = any_from (row_in rows) is_child by_id (ap (list_any is_child) rows_are ∙ h) in
        let lt : any.1 < length rows = within_got (length rows) by_id any.0 any.1 x.ids_within any.2 in
        let off : (row_in rows any.1).id ≢ root = apart _ _ (not_true _ (and_first _ _ any.3)) in
        filter_has (of_it rows k) by_spot (spot_place rows by_spot any.1) any.1 (spot_there rows by_id by_spot x any.1 lt off) (and_second _ _ any.3)

    has_none : has_child t k ≡ false → 1 ≤ length below → ⊥
    has_none h some =
        let one = filter_from (of_it rows k) by_spot some in
        let r = row_in rows one.1 in
        let got : slice_get (spots_in rows by_spot) one.0 ≡ Some (spot_in rows one.1) = slice_get-map (spot_in rows) by_spot one.0 ∙ ap (option_map (spot_in rows)) one.2 in
        let is : child t r.parent r.name ≡ Some r.id = sym (child_is r.parent r.name) ∙ find_got spot_cmp spots_total exact_spots (spots_in rows by_spot) (spots_rise rows by_id by_spot x) one.0 (spot_in rows one.1) got in
        let s = child_stands t x.kept.formed r.parent r.name r.id is in
        childless t k x.kept.formed h r.id s.row s.found s.not_root (s.parent_is ∙ node_is r.parent k one.3)

    pub has_child_is : not (nat_eq (length below) 0) ≡ has_child t k
    has_child_is = either (has_child t k) refl (nat_eq (length below) 0) refl
      where
        either : (a : Bool) → has_child t k ≡ a → (b : Bool) → nat_eq (length below) 0 ≡ b → not b ≡ a
        either true h true e = let none : length below ≡ 0 = eqb-true (length below) 0 e in absurd (omega (arith, none, has_one h))
        either true h false e = refl
        either false h true e = refl
        either false h false e = absurd (has_none h (some_left (length below) e))
          where
            some_left : (n : ℕ) → nat_eq n 0 ≡ false → 1 ≤ n
            some_left zero q = absurd (true≢false q)
            some_left (suc n) q = omega arith

-- the root alone, in the first slot
pub starts : IsTable (root_row ∷ []) (0 ∷ []) []
starts = record {
  kept = record { rise = refl; formed = start_formed };
  index = record {
    there = tt;
    rise = refl;
    gives = λ k. sym (ap (λ vs. option_map (λ (r : Row). r.id) (Rattle.std.specs.Prelude.find (stands_at k.0 k.1) vs)) (values_of (root_row ∷ []) refl));
  };
  shown = record {
    shown = shown_first;
    apart = λ a b la lb same. (let e : a ≡ b = omega (arith, la, lb) in e);
  };
  ids_within = (omega arith, tt);
  spots_within = tt;
  few = lit≤ tt;
}
  where
    shown_first : (slot : ℕ) → slot < 1 → look start (row_in (root_row ∷ []) slot).id ≡ Some (row_in (root_row ∷ []) slot)
    shown_first zero lt = look_of (root_row ∷ []) refl root
    shown_first (suc slot) lt = absurd (omega (arith, lt))

-- the root is its own parent, so from there nothing else is met
pub root_meets : (t : Tree) → IsWellFormed t → (goal : NodeId) → root ≢ goal → (n : ℕ) → meets (look t) goal n root ≡ false
root_meets t w goal off zero = node_other root goal off
root_meets t w goal off (suc n) =
    let r = some_and _ (look t root) w.rooted in
    meets_next (look t) goal root n r.0 off r.1 ∙ ap (meets (look t) goal n) r.2.1 ∙ root_meets t w goal off n

abbrev pub ParentIsDir : Tree → NodeId → Option NodeId → Type 0
ParentIsDir t parent found = IfSome found (λ _. is_dir (look t) parent ≡ true)

-- only a Dir has a child
pub child_dir : (t : Tree) → IsWellFormed t → (parent : NodeId) (name : List ℕ) → ParentIsDir t parent (child t parent name)
child_dir t w parent name =
    elim (child t parent name) as (λ found. child t parent name ≡ found → ParentIsDir t parent found) [
      | Some q ↦ λ e. let s = child_stands t w parent name q e in subst (λ p. is_dir (look t) p ≡ true) s.parent_is (w.parents q s.row s.found s.not_root)
      | None ↦ λ e. tt
    ] refl
