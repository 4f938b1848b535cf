-- What the code of names keeps. Each word stands for itself where it isn't opened.
use Rattle.std.specs.Prelude.{ℕ, zero, suc, ◌+◌, Bool, false, not, ◌&&◌, List, find, if◌then◌else◌, Option, Some, None}
use Rattle.std.specs.BTreeMap.{BTreeMap, get}
use Rattle.std.specs.Option.{option_map, option_map_or, option_and_then, unwrap_or}
use Rattle.std.specs.Str.{bytes_eq}
use Rattle.kb_name.specs.declared.ids.NodeId.{NodeId}
use Rattle.kb_name.specs.Nodes.{same_node, node_cmp}
use Rattle.kb_ops.specs.declared.rows.Row.{Row}
use Rattle.kb_ops.specs.Rows.{Look}
use Rattle.kb_rules.specs.declared.sides.Sides.{Sides}
use Rattle.kb_rules.specs.Joins.{may_join}
use Rattle.kb_rules.specs.Three.{Three, fields_by}
use Rattle.kb_rules.specs.Merge.{with_copies, conflicted}
use Rattle.kb_rules.specs.declared.names.Given.{Given}
use Rattle.kb_rules.specs.Names as names
use Rattle.kb_rules.specs.Code.{row_in, base_in, merged_in, ours_in, side_in, into_in, left_in}

-- the three trees of the lists, with the conflicted names
abbrev pub named_three : Sides → Three
named_three s = record { base = row_in s.base.now; merged = row_in s.merged.now; ours = with_copies s.stamp.now s.splits.now (row_in s.ours.now); ids = s.ids.now; conflicted = conflicted s.stamp.now; may = may_join }

-- the row of the id stands in the directory under the name
unfoldable pub stands_in : Sides → NodeId → List ℕ → NodeId → Bool
stands_in s parent name q = option_map_or (λ (r : Row). same_node parent (into_in s r.parent) && bytes_eq name r.name) (left_in s q) false

-- the same, on merged's side
unfoldable pub merged_stands_in : Sides → NodeId → List ℕ → NodeId → Bool
merged_stands_in s parent name q = not (side_in s q) && stands_in s parent name q

-- the first of the names from k on that the test doesn't pass, where one of the next n doesn't
abbrev pub free_by : (List ℕ → Bool) → (ℕ → List ℕ) → ℕ → ℕ → List ℕ
free_by is_taken f zero k = f k
free_by is_taken f (suc n) k = if is_taken (f k) then free_by is_taken f n (k + 1) else f k

-- the directory and the new name of a row of ours that stands where one of merged's side does, where the places of these tests are taken, and so many names were given
unfoldable pub clash_by : (NodeId → List ℕ → Bool) → (NodeId → List ℕ → Bool) → Sides → ℕ → Row → Option (NodeId × List ℕ)
clash_by merged taken s all r = if merged (into_in s r.parent) r.name then Some (into_in s r.parent, free_by (taken (into_in s r.parent)) (conflicted s.stamp.now r.name) all 1) else None

-- the same of the row of an id, if it needs one
unfoldable pub name_by : (NodeId → List ℕ → Bool) → (NodeId → List ℕ → Bool) → Sides → ℕ → NodeId → Option (NodeId × List ℕ)
name_by merged taken s all q = if side_in s q then option_and_then (clash_by merged taken s all) (left_in s q) else None

-- the name under an id
unfoldable pub name_of : BTreeMap NodeId (List ℕ) → NodeId → Option (List ℕ)
name_of names q = get node_cmp names q

-- the name that the row of an id was given
abbrev pub given_to : List names.Given → NodeId → Option (List ℕ)
given_to gs q = option_map (λ (g : names.Given). g.name) (find (λ (g : names.Given). same_node g.id q) gs)

-- the place is the one that was given
abbrev pub is_given : Option (NodeId × List ℕ) → NodeId → List ℕ → Bool
is_given None p n = false
is_given (Some g) p n = same_node p g.0 && bytes_eq n g.1

-- the name under an id once the row of q was given this or nothing
abbrev pub name_after : Option (NodeId × List ℕ) → NodeId → Option (List ℕ) → NodeId → Option (List ℕ)
name_after None q old k = old
name_after (Some g) q old k = if same_node q k then Some g.1 else old

abbrev pub count_of : Option (NodeId × List ℕ) → ℕ
count_of None = 0
count_of (Some g) = 1

-- what was given, as the place and the name
abbrev pub as_pair : Given → NodeId × List ℕ
as_pair g = (g.parent, g.name)

-- the row of the id in the merge, where the row was given this name or none
unfoldable pub row_by : Sides → Option (List ℕ) → Look
row_by s name q =
    option_and_then (λ (r : Row). option_map (λ (f : Row). record f { parent = into_in s r.parent; name = unwrap_or name r.name }) (fields_by (merged_in s q) (ours_in s q) (base_in s q))) (left_in s q)
