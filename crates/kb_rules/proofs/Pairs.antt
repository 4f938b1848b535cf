-- Common pairs of changes, each merged by computing: what docs/CONFLICTS.md tells of them.
use Rattle.std.proofs.Common.{◌≡◌, ℕ, true, false, Bool, List, [], ◌∷◌, refl}
use Rattle.std.specs.Prelude.{codes}
use Rattle.kb_name.specs.Nodes.{root}
use Rattle.kb_ops.specs.declared.rows.Row.{Row}
use Rattle.kb_ops.specs.Trees.{root_row}
use Rattle.kb_rules.specs.Merge.{conflicted}
use Rattle.kb_rules.proofs.Examples.{Told, node, copy, dir, file, told}

-- the first file of the first device, in the root
abbrev one : List ℕ → List ℕ → Row
one name bytes = file (node 1 1) root name bytes

-- the same with a time and whether it is executable
abbrev marked : List ℕ → List ℕ → ℕ → Bool → Row
marked name bytes time exec = record (one name bytes) { mtime = time; exec = exec }

-- the rows and the counts of a merge
abbrev gives : List Row → ℕ → ℕ → ℕ → Told
gives rows copies renamed joined = record { rows = root_row ∷ rows; copies = copies; renamed = renamed; joined = joined }

abbrev merges : List Row → List Row → List Row → Told
merges base merged ours = told 1 (root_row ∷ base) (root_row ∷ merged) (root_row ∷ ours)

abbrev conflicted_p : List ℕ
conflicted_p = codes "p.conflicted (phone copy 2024-05-01)"

-- both wrote the same bytes: one file
wrote_alike : merges (one (codes "f") [] ∷ []) (one (codes "f") (codes "x") ∷ []) (one (codes "f") (codes "x") ∷ []) ≡ gives (one (codes "f") (codes "x") ∷ []) 0 0 0
unfolding conflicted
wrote_alike = refl

-- merged wrote, ours removed: merged's bytes
wrote_removed : merges (one (codes "f") [] ∷ []) (one (codes "f") (codes "x") ∷ []) [] ≡ gives (one (codes "f") (codes "x") ∷ []) 0 0 0
unfolding conflicted
wrote_removed = refl

-- merged removed, ours wrote: ours' bytes
removed_wrote : merges (one (codes "f") [] ∷ []) [] (one (codes "f") (codes "x") ∷ []) ≡ gives (one (codes "f") (codes "x") ∷ []) 0 0 0
unfolding conflicted
removed_wrote = refl

-- both removed
removed_both : merges (one (codes "f") [] ∷ []) [] [] ≡ gives [] 0 0 0
unfolding conflicted
removed_both = refl

-- merged moved, ours wrote: the new place and the new bytes
moved_wrote : merges (one (codes "f") [] ∷ []) (one (codes "g") [] ∷ []) (one (codes "f") (codes "x") ∷ []) ≡ gives (one (codes "g") (codes "x") ∷ []) 0 0 0
unfolding conflicted
moved_wrote = refl

-- merged wrote, ours moved: the same
wrote_moved : merges (one (codes "f") [] ∷ []) (one (codes "f") (codes "x") ∷ []) (one (codes "g") [] ∷ []) ≡ gives (one (codes "g") (codes "x") ∷ []) 0 0 0
unfolding conflicted
wrote_moved = refl

-- merged moved, ours removed: it stays
moved_removed : merges (one (codes "f") [] ∷ []) (one (codes "g") [] ∷ []) [] ≡ gives (one (codes "g") [] ∷ []) 0 0 0
unfolding conflicted
moved_removed = refl

-- merged wrote, ours moved and wrote: a copy under the name that ours gave
wrote_moved_wrote : merges (one (codes "f") [] ∷ []) (one (codes "f") (codes "x") ∷ []) (one (codes "g") (codes "y") ∷ []) ≡ gives (one (codes "f") (codes "x") ∷ file (copy 1 1) root (codes "g") (codes "y") ∷ []) 1 0 0
unfolding conflicted
wrote_moved_wrote = refl

-- a file moved to two places is two files
moved_apart : merges (one (codes "f") [] ∷ []) (one (codes "p") [] ∷ []) (one (codes "q") [] ∷ []) ≡ gives (one (codes "p") [] ∷ file (copy 1 1) root (codes "q") [] ∷ []) 1 0 0
unfolding conflicted
moved_apart = refl

-- a file moved to one place is one
moved_alike : merges (one (codes "f") [] ∷ []) (one (codes "p") [] ∷ []) (one (codes "p") [] ∷ []) ≡ gives (one (codes "p") [] ∷ []) 0 0 0
unfolding conflicted
moved_alike = refl

-- a directory moved to two places is where merged has it
directory_moved_apart : merges (dir (node 1 1) root (codes "a") ∷ []) (dir (node 1 1) root (codes "p") ∷ []) (dir (node 1 1) root (codes "q") ∷ []) ≡ gives (dir (node 1 1) root (codes "p") ∷ []) 0 0 0
unfolding conflicted
directory_moved_apart = refl

-- directories moved into each other: merged's move holds
into_each_other : merges (dir (node 1 1) root (codes "a") ∷ dir (node 1 2) root (codes "b") ∷ []) (dir (node 1 1) (node 1 2) (codes "a") ∷ dir (node 1 2) root (codes "b") ∷ []) (dir (node 1 1) root (codes "a") ∷ dir (node 1 2) (node 1 1) (codes "b") ∷ []) ≡ gives (dir (node 1 1) (node 1 2) (codes "a") ∷ dir (node 1 2) root (codes "b") ∷ []) 0 0 0
unfolding conflicted
into_each_other = refl

-- both created a file: ours has a conflicted name, also with the same bytes
created_both : merges [] (file (node 1 1) root (codes "p") (codes "m") ∷ []) (file (node 2 1) root (codes "p") (codes "m") ∷ []) ≡ gives (file (node 1 1) root (codes "p") (codes "m") ∷ file (node 2 1) root conflicted_p (codes "m") ∷ []) 0 1 0
unfolding conflicted
created_both = refl

-- merged created a file, ours a directory
created_directory : merges [] (file (node 1 1) root (codes "p") (codes "m") ∷ []) (dir (node 2 1) root (codes "p") ∷ []) ≡ gives (file (node 1 1) root (codes "p") (codes "m") ∷ dir (node 2 1) root conflicted_p ∷ []) 0 1 0
unfolding conflicted
created_directory = refl

-- merged moved a file to where ours created one
moved_onto : merges (one (codes "f") [] ∷ []) (one (codes "p") [] ∷ []) (one (codes "f") [] ∷ file (node 2 1) root (codes "p") (codes "u") ∷ []) ≡ gives (one (codes "p") [] ∷ file (node 2 1) root conflicted_p (codes "u") ∷ []) 0 1 0
unfolding conflicted
moved_onto = refl

-- merged removed a directory in which ours created a file
removed_created : merges (dir (node 1 1) root (codes "d") ∷ file (node 1 2) (node 1 1) (codes "g") [] ∷ []) [] (dir (node 1 1) root (codes "d") ∷ file (node 1 2) (node 1 1) (codes "g") [] ∷ file (node 2 1) (node 1 1) (codes "x") [] ∷ []) ≡ gives (dir (node 1 1) root (codes "d") ∷ file (node 2 1) (node 1 1) (codes "x") [] ∷ []) 0 0 0
unfolding conflicted
removed_created = refl

-- merged removed a directory that ours moved: what was in it is gone
removed_moved : merges (dir (node 1 1) root (codes "d") ∷ file (node 1 2) (node 1 1) (codes "g") [] ∷ []) [] (dir (node 1 1) root (codes "e") ∷ file (node 1 2) (node 1 1) (codes "g") [] ∷ []) ≡ gives (dir (node 1 1) root (codes "e") ∷ []) 0 0 0
unfolding conflicted
removed_moved = refl

-- both touched: the later time
touched_later : merges (marked (codes "f") [] 1 false ∷ []) (marked (codes "f") [] 5 false ∷ []) (marked (codes "f") [] 7 false ∷ []) ≡ gives (marked (codes "f") [] 7 false ∷ []) 0 0 0
unfolding conflicted
touched_later = refl

-- and the other way round
touched_earlier : merges (marked (codes "f") [] 1 false ∷ []) (marked (codes "f") [] 7 false ∷ []) (marked (codes "f") [] 5 false ∷ []) ≡ gives (marked (codes "f") [] 7 false ∷ []) 0 0 0
unfolding conflicted
touched_earlier = refl

-- merged marked it executable, ours wrote: both
marked_wrote : merges (marked (codes "f") [] 1 false ∷ []) (marked (codes "f") [] 1 true ∷ []) (marked (codes "f") (codes "x") 2 false ∷ []) ≡ gives (marked (codes "f") (codes "x") 2 true ∷ []) 0 0 0
unfolding conflicted
marked_wrote = refl

-- a touch keeps a file that merged removed
removed_touched : merges (marked (codes "f") [] 1 false ∷ []) [] (marked (codes "f") [] 5 false ∷ []) ≡ gives (marked (codes "f") [] 5 false ∷ []) 0 0 0
unfolding conflicted
removed_touched = refl

-- ours moved a file onto one that merged wrote
moved_onto_old : merges (one (codes "f") [] ∷ file (node 1 2) root (codes "g") (codes "o") ∷ []) (one (codes "f") (codes "x") ∷ file (node 1 2) root (codes "g") (codes "o") ∷ []) (file (node 1 2) root (codes "f") (codes "o") ∷ []) ≡ gives (one (codes "f") (codes "x") ∷ file (node 1 2) root (codes "f.conflicted (phone copy 2024-05-01)") (codes "o") ∷ []) 0 1 0
unfolding conflicted
moved_onto_old = refl

-- a copy is all of ours
copied_whole : merges (marked (codes "f") [] 1 false ∷ []) (marked (codes "f") (codes "x") 2 false ∷ []) (marked (codes "g") (codes "y") 9 true ∷ []) ≡ gives (marked (codes "f") (codes "x") 2 false ∷ record (file (copy 1 1) root (codes "g") (codes "y")) { mtime = 9; exec = true } ∷ []) 1 0 0
unfolding conflicted
copied_whole = refl

-- a directory that ours moved below one that goes back goes back too, and a file stays
back_with : merges (dir (node 1 1) root (codes "a") ∷ dir (node 1 2) root (codes "b") ∷ dir (node 1 3) root (codes "c") ∷ file (node 1 4) root (codes "f") [] ∷ []) (dir (node 1 1) root (codes "a") ∷ dir (node 1 2) (node 1 1) (codes "b") ∷ dir (node 1 3) root (codes "c") ∷ file (node 1 4) root (codes "f") [] ∷ []) (dir (node 1 1) (node 1 2) (codes "a") ∷ dir (node 1 2) root (codes "b") ∷ dir (node 1 3) (node 1 1) (codes "c") ∷ file (node 1 4) (node 1 1) (codes "f") [] ∷ []) ≡ gives (dir (node 1 1) root (codes "a") ∷ dir (node 1 2) (node 1 1) (codes "b") ∷ dir (node 1 3) root (codes "c") ∷ file (node 1 4) (node 1 1) (codes "f") [] ∷ []) 0 0 0
unfolding conflicted
back_with = refl

-- trees of directories that both made become one
made_trees : merges [] (dir (node 1 1) root (codes "n") ∷ dir (node 1 2) (node 1 1) (codes "k") ∷ file (node 1 3) (node 1 2) (codes "x") (codes "m") ∷ []) (dir (node 2 1) root (codes "n") ∷ dir (node 2 2) (node 2 1) (codes "k") ∷ file (node 2 3) (node 2 2) (codes "y") (codes "u") ∷ []) ≡ gives (dir (node 1 1) root (codes "n") ∷ dir (node 1 2) (node 1 1) (codes "k") ∷ file (node 1 3) (node 1 2) (codes "x") (codes "m") ∷ file (node 2 3) (node 1 2) (codes "y") (codes "u") ∷ []) 0 0 2
unfolding conflicted
made_trees = refl
