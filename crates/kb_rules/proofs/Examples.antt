-- Merges of small trees, computed: each is what the words above it say.
use Rattle.std.proofs.Common.{true, ◌≡◌, ℕ, false, List, [], ◌∷◌, length, map, Option, refl}
use Rattle.std.specs.Prelude.{find, codes}
use Rattle.std.specs.List.{filter_map}
use Rattle.std.specs.Fmt.{digits}
use Rattle.kb_name.specs.declared.ids.NodeId.{NodeId}
use Rattle.kb_name.specs.Nodes.{root, same_node}
use Rattle.kb_ops.specs.declared.values.Kind.TheVariants.{Dir, File}
use Rattle.kb_ops.specs.declared.rows.Row.{Row}
use Rattle.kb_ops.specs.Trees.{root_row}
use Rattle.kb_rules.specs.declared.stamp.Stamp.{Stamp}
use Rattle.kb_rules.specs.Names.{given, result}
use Rattle.kb_rules.specs.Merge.{three_of, split_among, conflicted, joins}

-- ---- rows, and what is told of a merge

abbrev pub node : ℕ → ℕ → NodeId
node device seq = record { device = device; seq = seq; part = 0 }

-- a copy that phone, the second device, makes with its last seq
abbrev pub copy : ℕ → ℕ → NodeId
copy seq j = record { device = 2; seq = seq; part = j }

abbrev pub dir : NodeId → NodeId → List ℕ → Row
dir id parent name = record { id = id; parent = parent; name = name; kind = Dir; bytes = []; exec = false; mtime = 0 }

abbrev pub file : NodeId → NodeId → List ℕ → List ℕ → Row
file id parent name bytes = record { id = id; parent = parent; name = name; kind = File; bytes = bytes; exec = false; mtime = 0 }

abbrev pub phone : ℕ → Stamp
phone last = record { device = 2; name = codes "phone"; last = last; moment = 1714521600; rule = 1 }

abbrev pub among : List Row → NodeId → Option Row
among rows q = find (λ (r : Row). same_node r.id q) rows

abbrev pub ids : List Row → List NodeId
ids rows = map (λ (r : Row). r.id) rows

pub record Told : Type 0 where
  pub rows : List Row
  pub copies : ℕ
  pub renamed : ℕ
  pub joined : ℕ

-- the rows of a merge, in the order of their ids, and how many copies, names given and joins there are
abbrev pub told_by : Stamp → List Row → List Row → List Row → Told
told_by stamp b m u =
    let t = three_of stamp (among b) (among m) (among u) (ids m) (ids u) in
    record { rows = filter_map (result t) t.ids; copies = length (split_among (among b) (among m) (among u) (ids m)); renamed = length (given t); joined = joins t }

-- of a merge by phone with this last seq, by the first rule
abbrev pub told : ℕ → List Row → List Row → List Row → Told
told last b m u = told_by (phone last) b m u

-- ---- both wrote one file: the merged bytes keep the name, ours stand beside it

abbrev wrote_base : List Row
wrote_base = root_row ∷ file (node 1 1) root (codes "f.txt") [] ∷ []

abbrev wrote_merged : List Row
wrote_merged = root_row ∷ file (node 1 1) root (codes "f.txt") (codes "left") ∷ []

abbrev wrote_ours : List Row
wrote_ours = root_row ∷ file (node 1 1) root (codes "f.txt") (codes "right") ∷ []

abbrev wrote_result : List Row
wrote_result = root_row ∷ file (node 1 1) root (codes "f.txt") (codes "left") ∷ file (copy 1 1) root (codes "f.conflicted (phone copy 2024-05-01).txt") (codes "right") ∷ []

wrote : told 1 wrote_base wrote_merged wrote_ours ≡ record { rows = wrote_result; copies = 1; renamed = 1; joined = 0 }
unfolding conflicted
wrote = refl

-- ---- both wrote it again on the same day: the name is taken, and the next one is given

abbrev again_base : List Row
again_base = root_row ∷ file (node 1 1) root (codes "f.txt") (codes "left") ∷ file (copy 1 1) root (codes "f.conflicted (phone copy 2024-05-01).txt") (codes "right") ∷ []

abbrev again_merged : List Row
again_merged = root_row ∷ file (node 1 1) root (codes "f.txt") (codes "LEFT") ∷ file (copy 1 1) root (codes "f.conflicted (phone copy 2024-05-01).txt") (codes "right") ∷ []

abbrev again_ours : List Row
again_ours = root_row ∷ file (node 1 1) root (codes "f.txt") (codes "RIGHT") ∷ file (copy 1 1) root (codes "f.conflicted (phone copy 2024-05-01).txt") (codes "right") ∷ []

abbrev again_result : List Row
again_result = root_row ∷ file (node 1 1) root (codes "f.txt") (codes "LEFT") ∷ file (copy 1 1) root (codes "f.conflicted (phone copy 2024-05-01).txt") (codes "right") ∷ file (copy 2 1) root (codes "f.conflicted (phone copy 2024-05-01 2).txt") (codes "RIGHT") ∷ []

again : told 2 again_base again_merged again_ours ≡ record { rows = again_result; copies = 1; renamed = 1; joined = 0 }
unfolding conflicted digits
again = refl

-- ---- a directory that merged removed, with a file that ours wrote: both stay, and what ours left alone goes

abbrev removed_base : List Row
removed_base = root_row ∷ dir (node 1 1) root (codes "d") ∷ file (node 1 2) (node 1 1) (codes "f") [] ∷ file (node 1 3) (node 1 1) (codes "g") [] ∷ []

abbrev removed_merged : List Row
removed_merged = root_row ∷ []

abbrev removed_ours : List Row
removed_ours = root_row ∷ dir (node 1 1) root (codes "d") ∷ file (node 1 2) (node 1 1) (codes "f") (codes "keep") ∷ file (node 1 3) (node 1 1) (codes "g") [] ∷ []

abbrev removed_result : List Row
removed_result = root_row ∷ dir (node 1 1) root (codes "d") ∷ file (node 1 2) (node 1 1) (codes "f") (codes "keep") ∷ []

removed : told 1 removed_base removed_merged removed_ours ≡ record { rows = removed_result; copies = 0; renamed = 0; joined = 0 }
unfolding conflicted
removed = refl

-- ---- both made a directory of one name: one directory with both contents

abbrev made_base : List Row
made_base = root_row ∷ []

abbrev made_merged : List Row
made_merged = root_row ∷ dir (node 1 1) root (codes "n") ∷ file (node 1 2) (node 1 1) (codes "x") (codes "m") ∷ []

abbrev made_ours : List Row
made_ours = root_row ∷ dir (node 2 1) root (codes "n") ∷ file (node 2 2) (node 2 1) (codes "x") (codes "u") ∷ file (node 2 4) (node 2 1) (codes "y") [] ∷ []

abbrev made_result : List Row
made_result = root_row ∷ dir (node 1 1) root (codes "n") ∷ file (node 1 2) (node 1 1) (codes "x") (codes "m") ∷ file (node 2 2) (node 1 1) (codes "x.conflicted (phone copy 2024-05-01)") (codes "u") ∷ file (node 2 4) (node 1 1) (codes "y") [] ∷ []

made : told 4 made_base made_merged made_ours ≡ record { rows = made_result; copies = 0; renamed = 1; joined = 1 }
unfolding conflicted
made = refl

-- ---- ours turned two directories inside out, and merged did something else

abbrev turned_base : List Row
turned_base = root_row ∷ dir (node 1 1) root (codes "a") ∷ dir (node 1 2) (node 1 1) (codes "b") ∷ []

abbrev turned_merged : List Row
turned_merged = root_row ∷ dir (node 1 1) root (codes "a") ∷ dir (node 1 2) (node 1 1) (codes "b") ∷ file (node 1 3) root (codes "z") [] ∷ []

abbrev turned_ours : List Row
turned_ours = root_row ∷ dir (node 1 1) (node 1 2) (codes "a") ∷ dir (node 1 2) root (codes "b") ∷ []

abbrev turned_result : List Row
turned_result = root_row ∷ dir (node 1 1) (node 1 2) (codes "a") ∷ dir (node 1 2) root (codes "b") ∷ file (node 1 3) root (codes "z") [] ∷ []

turned : told 2 turned_base turned_merged turned_ours ≡ record { rows = turned_result; copies = 0; renamed = 0; joined = 0 }
unfolding conflicted
turned = refl

-- ---- merged moved b into a, ours a into b: the merged move holds

abbrev crossed_base : List Row
crossed_base = root_row ∷ dir (node 1 1) root (codes "a") ∷ dir (node 1 2) root (codes "b") ∷ []

abbrev crossed_merged : List Row
crossed_merged = root_row ∷ dir (node 1 1) root (codes "a") ∷ dir (node 1 2) (node 1 1) (codes "b") ∷ []

abbrev crossed_ours : List Row
crossed_ours = root_row ∷ dir (node 1 1) (node 1 2) (codes "a") ∷ dir (node 1 2) root (codes "b") ∷ []

abbrev crossed_result : List Row
crossed_result = root_row ∷ dir (node 1 1) root (codes "a") ∷ dir (node 1 2) (node 1 1) (codes "b") ∷ []

crossed : told 1 crossed_base crossed_merged crossed_ours ≡ record { rows = crossed_result; copies = 0; renamed = 0; joined = 0 }
unfolding conflicted
crossed = refl

-- ---- a file that was moved two ways: two files, each at its place

abbrev two_ways_base : List Row
two_ways_base = root_row ∷ file (node 1 1) root (codes "f") [] ∷ dir (node 1 2) root (codes "p") ∷ dir (node 1 3) root (codes "q") ∷ []

abbrev two_ways_merged : List Row
two_ways_merged = root_row ∷ file (node 1 1) (node 1 2) (codes "f") [] ∷ dir (node 1 2) root (codes "p") ∷ dir (node 1 3) root (codes "q") ∷ []

abbrev two_ways_ours : List Row
two_ways_ours = root_row ∷ file (node 1 1) (node 1 3) (codes "f") [] ∷ dir (node 1 2) root (codes "p") ∷ dir (node 1 3) root (codes "q") ∷ []

abbrev two_ways_result : List Row
two_ways_result = root_row ∷ file (node 1 1) (node 1 2) (codes "f") [] ∷ dir (node 1 2) root (codes "p") ∷ dir (node 1 3) root (codes "q") ∷ file (copy 1 1) (node 1 3) (codes "f") [] ∷ []

two_ways : told 1 two_ways_base two_ways_merged two_ways_ours ≡ record { rows = two_ways_result; copies = 1; renamed = 0; joined = 0 }
unfolding conflicted
two_ways = refl

-- ---- a directory that ours moved below one that goes back to its merged place goes back too

abbrev dir_below_base : List Row
dir_below_base = root_row ∷ dir (node 1 1) root (codes "a") ∷ dir (node 1 2) root (codes "b") ∷ dir (node 1 3) root (codes "c") ∷ []

abbrev dir_below_merged : List Row
dir_below_merged = root_row ∷ dir (node 1 1) root (codes "a") ∷ dir (node 1 2) (node 1 1) (codes "b") ∷ dir (node 1 3) root (codes "c") ∷ []

abbrev dir_below_ours : List Row
dir_below_ours = root_row ∷ dir (node 1 1) (node 1 2) (codes "a") ∷ dir (node 1 2) root (codes "b") ∷ dir (node 1 3) (node 1 1) (codes "c") ∷ []

abbrev dir_below_result : List Row
dir_below_result = root_row ∷ dir (node 1 1) root (codes "a") ∷ dir (node 1 2) (node 1 1) (codes "b") ∷ dir (node 1 3) root (codes "c") ∷ []

dir_below : told 2 dir_below_base dir_below_merged dir_below_ours ≡ record { rows = dir_below_result; copies = 0; renamed = 0; joined = 0 }
unfolding conflicted
dir_below = refl

-- ---- a file that ours moved there stays there

abbrev file_below_base : List Row
file_below_base = root_row ∷ dir (node 1 1) root (codes "a") ∷ dir (node 1 2) root (codes "b") ∷ file (node 1 3) root (codes "c") [] ∷ []

abbrev file_below_merged : List Row
file_below_merged = root_row ∷ dir (node 1 1) root (codes "a") ∷ dir (node 1 2) (node 1 1) (codes "b") ∷ file (node 1 3) root (codes "c") [] ∷ []

abbrev file_below_ours : List Row
file_below_ours = root_row ∷ dir (node 1 1) (node 1 2) (codes "a") ∷ dir (node 1 2) root (codes "b") ∷ file (node 1 3) (node 1 1) (codes "c") [] ∷ []

abbrev file_below_result : List Row
file_below_result = root_row ∷ dir (node 1 1) root (codes "a") ∷ dir (node 1 2) (node 1 1) (codes "b") ∷ file (node 1 3) (node 1 1) (codes "c") [] ∷ []

file_below : told 2 file_below_base file_below_merged file_below_ours ≡ record { rows = file_below_result; copies = 0; renamed = 0; joined = 0 }
unfolding conflicted
file_below = refl

-- ---- a directory goes back to a place that ours has used since: the new file is renamed

abbrev used_base : List Row
used_base = root_row ∷ dir (node 1 1) root (codes "a") ∷ dir (node 1 2) root (codes "b") ∷ []

abbrev used_merged : List Row
used_merged = root_row ∷ dir (node 1 1) root (codes "a") ∷ dir (node 1 2) (node 1 1) (codes "b") ∷ []

abbrev used_ours : List Row
used_ours = root_row ∷ dir (node 1 1) (node 1 2) (codes "a") ∷ dir (node 1 2) root (codes "b") ∷ file (node 2 2) root (codes "a") [] ∷ []

abbrev used_result : List Row
used_result = root_row ∷ dir (node 1 1) root (codes "a") ∷ dir (node 1 2) (node 1 1) (codes "b") ∷ file (node 2 2) root (codes "a.conflicted (phone copy 2024-05-01)") [] ∷ []

used : told 2 used_base used_merged used_ours ≡ record { rows = used_result; copies = 0; renamed = 1; joined = 0 }
unfolding conflicted
used = refl

-- ---- merged moved a file and ours wrote it: the merged place, the new bytes

abbrev moved_base : List Row
moved_base = root_row ∷ file (node 1 1) root (codes "f") [] ∷ dir (node 1 2) root (codes "p") ∷ []

abbrev moved_merged : List Row
moved_merged = root_row ∷ file (node 1 1) (node 1 2) (codes "f") [] ∷ dir (node 1 2) root (codes "p") ∷ []

abbrev moved_ours : List Row
moved_ours = root_row ∷ file (node 1 1) root (codes "f") (codes "new") ∷ dir (node 1 2) root (codes "p") ∷ []

abbrev moved_result : List Row
moved_result = root_row ∷ file (node 1 1) (node 1 2) (codes "f") (codes "new") ∷ dir (node 1 2) root (codes "p") ∷ []

moved : told 1 moved_base moved_merged moved_ours ≡ record { rows = moved_result; copies = 0; renamed = 0; joined = 0 }
unfolding conflicted
moved = refl

-- ---- both made one file with one content: by the second rule it is one

abbrev equal_merged : List Row
equal_merged = root_row ∷ file (node 1 1) root (codes "x") (codes "s") ∷ []

abbrev equal_ours : List Row
equal_ours = root_row ∷ file (node 2 1) root (codes "x") (codes "s") ∷ file (node 2 3) root (codes "y") [] ∷ []

abbrev second : ℕ → Stamp
second last = record (phone last) { rule = 2 }

equal_one : told_by (second 3) (root_row ∷ []) equal_merged equal_ours ≡ record { rows = root_row ∷ file (node 1 1) root (codes "x") (codes "s") ∷ file (node 2 3) root (codes "y") [] ∷ []; copies = 0; renamed = 0; joined = 1 }
unfolding conflicted
equal_one = refl

-- by the first rule it is two
abbrev equal_two_rows : List Row
equal_two_rows = root_row ∷ file (node 1 1) root (codes "x") (codes "s") ∷ file (node 2 1) root (codes "x.conflicted (phone copy 2024-05-01)") (codes "s") ∷ file (node 2 3) root (codes "y") [] ∷ []

equal_two : told 3 (root_row ∷ []) equal_merged equal_ours ≡ record { rows = equal_two_rows; copies = 0; renamed = 1; joined = 0 }
unfolding conflicted
equal_two = refl

-- and so it is where one alone may be run
abbrev run_ours : List Row
run_ours = root_row ∷ record (file (node 2 1) root (codes "x") (codes "s")) { exec = true } ∷ []

abbrev run_rows : List Row
run_rows = root_row ∷ file (node 1 1) root (codes "x") (codes "s") ∷ record (file (node 2 1) root (codes "x.conflicted (phone copy 2024-05-01)") (codes "s")) { exec = true } ∷ []

run_two : told_by (second 2) (root_row ∷ []) equal_merged run_ours ≡ record { rows = run_rows; copies = 0; renamed = 1; joined = 0 }
unfolding conflicted
run_two = refl
