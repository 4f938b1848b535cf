-- What the code keeps. Each word of a stage stands for itself where it isn't opened.
use Rattle.std.specs.Prelude.{◌≡◌, ℕ, zero, suc, ◌+◌, get_or, set, ◌≤◌, Bool, true, ◌&&◌, List, [], ◌∷◌, find, map, length, if◌then◌else◌, Option, Some, None}
use Rattle.std.specs.Option.{option_map, option_and_then, unwrap_or}
use Rattle.std.specs.List.{cons_option, range_with_len}
use Rattle.std.specs.Ordering.{is_lt}
use Rattle.kb_name.specs.declared.ids.NodeId.{NodeId}
use Rattle.kb_name.specs.Nodes.{root, same_node, node_cmp}
use Rattle.kb_ops.specs.declared.rows.Row.{Row}
use Rattle.kb_ops.specs.Lists.{rises}
use Rattle.kb_ops.specs.Rows.{Look, meets}
use Rattle.kb_rules.specs.declared.stamp.Stamp.{Stamp}
use Rattle.kb_rules.specs.declared.sides.Sides.{Sides}
use Rattle.kb_rules.specs.declared.seats.Seats.{Seats}
use Rattle.kb_rules.specs.Three.{Three, stays}
use Rattle.kb_rules.specs.Places.{is_moved, guess, is_lost, on_ours, seat, is_kept}
use Rattle.kb_rules.specs.Joins.{may_join, joined, into, is_left}
use Rattle.kb_rules.specs.Merge.{copy_id, with_copies}
use Rattle.kb_rules.specs.Ready.{CanMerge}

-- ---- lists

abbrev pub row_in : List Row → Look
row_in rows q = find (λ (r : Row). same_node r.id q) rows

abbrev pub ids_of : List Row → List NodeId
ids_of rows = map (λ (r : Row). r.id) rows

-- the ids ascend
abbrev pub above : NodeId → List NodeId → Bool
above k [] = true
above k (q ∷ ids) = is_lt (node_cmp k q) && above k ids

abbrev pub ascend : List NodeId → Bool
ascend [] = true
ascend (q ∷ ids) = above q ids && ascend ids

-- how many ids at the front are smaller
abbrev pub before : NodeId → List NodeId → ℕ
before k [] = 0
before k (q ∷ ids) = if is_lt (node_cmp q k) then suc (before k ids) else 0

-- where an id stands
abbrev pub place_in : List NodeId → NodeId → Option ℕ
place_in [] q = None
place_in (s ∷ ids) q = if same_node s q then Some 0 else option_map (λ i. i + 1) (place_in ids q)

-- the place of a row's parent; past the end, where there is none
abbrev pub up_of : List NodeId → Look → NodeId → ℕ
up_of ids look q = unwrap_or (option_and_then (λ (r : Row). place_in ids r.parent) (look q)) (length ids)

-- so many steps up from a place
abbrev pub climb : List ℕ → ℕ → ℕ → ℕ
climb ups zero i = i
climb ups (suc n) i = climb ups n (get_or ups i (length ups))

-- jumps of twice as many steps
abbrev pub twice : List ℕ → List ℕ
twice jumps = map (λ i. get_or jumps i (length jumps)) jumps

-- from each place, at least as many steps up as there are places
abbrev pub IsFar : List ℕ → List ℕ → Type 0
IsFar ups ends = (n : ℕ) × (length ups ≤ n) × (ends ≡ map (climb ups n) (range_with_len 0 (length ups)))

-- the places of a walk of so many steps are marked, up to the first that is
abbrev pub mark : List ℕ → ℕ → ℕ → List Bool → List Bool
mark ups zero at kept = kept
mark ups (suc n) at kept = if get_or kept at true then kept else mark ups n (get_or ups at (length ups)) (set kept at true)

-- the copies of the split files, from the j-th on, as rows
abbrev pub copies_of : Stamp → ℕ → List NodeId → Look → List Row
copies_of stamp j [] u = []
copies_of stamp j (s ∷ splits) u = cons_option (option_map (λ (r : Row). record r { id = copy_id stamp j }) (u s)) (copies_of stamp (j + 1) splits u)

-- ---- the three trees of the lists

-- no stage before that of names looks at the conflicted names
abbrev pub three_in : Sides → Three
three_in s = record { base = row_in s.base.now; merged = row_in s.merged.now; ours = with_copies s.stamp.now s.splits.now (row_in s.ours.now); ids = s.ids.now; conflicted = λ name k. name; may = may_join }

pub record AreSides (s : Sides) : Type 0 where
  pub n : ℕ
  pub m : ℕ
  pub can : CanMerge n m (three_in s)
  pub base : rises s.base.now ≡ true
  pub merged : rises s.merged.now ≡ true
  pub ours : rises s.ours.now ≡ true
  pub splits : ascend s.splits.now ≡ true
  pub copies : s.copies.now ≡ copies_of s.stamp.now 1 s.splits.now (row_in s.ours.now)
  pub all : length s.copies.now ≡ length s.splits.now
  pub ids : ascend s.ids.now ≡ true

-- ---- the stages

unfoldable pub base_in : Sides → Look
base_in s = row_in s.base.now

unfoldable pub merged_in : Sides → Look
merged_in s = row_in s.merged.now

unfoldable pub ours_in : Sides → Look
ours_in s = with_copies s.stamp.now s.splits.now (row_in s.ours.now)

unfoldable pub moved_in : Sides → NodeId → Bool
moved_in s = is_moved (three_in s)

unfoldable pub stays_in : Sides → NodeId → Bool
stays_in s = stays (three_in s)

unfoldable pub guess_in : Sides → Look
guess_in s = guess (three_in s)

-- whether the walk under the first guess reaches the root
unfoldable pub reaches_in : Sides → NodeId → Bool
reaches_in s q = meets (guess (three_in s)) root (length s.ids.now) q

unfoldable pub lost_in : Sides → NodeId → Bool
lost_in s = is_lost (three_in s)

unfoldable pub side_in : Sides → NodeId → Bool
side_in s = on_ours (three_in s)

unfoldable pub seat_in : Sides → Look
seat_in s = seat (three_in s)

unfoldable pub kept_in : Sides → NodeId → Bool
kept_in s = is_kept (three_in s)

unfoldable pub joined_in : Sides → NodeId → Option NodeId
joined_in s = joined (three_in s)

unfoldable pub into_in : Sides → NodeId → NodeId
into_in s = into (three_in s)

-- the row with its place, where it is left
unfoldable pub left_in : Sides → Look
left_in s q = if is_left (three_in s) q then seat (three_in s) q else None

-- ---- the tables of the stages, parallel to the ids

pub record AreSeats (s : Seats) : Type 0 where
  pub sides : AreSides s.sides.now
  pub ours : s.ours.items ≡ map (side_in s.sides.now) s.sides.now.ids.now
  pub kept : s.kept.items ≡ map (kept_in s.sides.now) s.sides.now.ids.now
  pub joined : s.joined.items ≡ map (joined_in s.sides.now) s.sides.now.ids.now
