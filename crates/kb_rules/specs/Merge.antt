-- The merge of three trees.
use Rattle.std.specs.Prelude.{ℕ, ◌+◌, ◌-◌, not, Bool, ◌&&◌, ◌||◌, List, [], ◌∷◌, length, filter, nat_eq, slice_get, if◌then◌else◌, Option, None}
use mathlib.Core.Bool.{beq}
use Rattle.std.specs.Str.{bytes_eq}
use Rattle.kb_ops.specs.Plan.{is_file_kind}
use Rattle.std.specs.List.{list_any, count_by}
use Rattle.std.specs.Option.{is_some, option_map, option_map_or}
use Rattle.std.specs.FinMap.{empty, insert, keys}
use Rattle.std.specs.FinMap.Entries.{by_order}
use Rattle.kb_name.specs.declared.ids.NodeId.{NodeId}
use Rattle.kb_name.specs.Nodes.{same_node, node_cmp}
use Rattle.kb_ops.specs.declared.rows.Row.{Row}
use Rattle.kb_ops.specs.Rows.{Look}
use Rattle.kb_ops.specs.Trees.{Tree, look}
use Rattle.kb_rules.specs.declared.stamp.Stamp.{Stamp}
use Rattle.kb_rules.specs.declared.report.Report.{Report}
use Rattle.kb_name.specs.Conflicted.{conflicted_text}
use Rattle.kb_rules.specs.Three.{Three, is_split}
use Rattle.kb_rules.specs.Joins.{may_join, joined}
use Rattle.kb_rules.specs.Names.{given, result}

-- ---- copies

-- the id of the j-th copy, from 1
abbrev pub copy_id : Stamp → ℕ → NodeId
copy_id stamp j = record { device = stamp.device; seq = stamp.last; part = j }

-- the split file whose copy has the id: the j-th of them has the copy j
abbrev pub copied : Stamp → List NodeId → NodeId → Option NodeId
copied stamp splits q = if same_node q (copy_id stamp q.part) && not (nat_eq q.part 0) then slice_get splits (q.part - 1) else None

-- ours, with each split file under the id of its copy. So a split file is one of merged alone, a copy one of ours alone, and no rule after this speaks of them
abbrev pub with_copies : Stamp → List NodeId → Look → Look
with_copies stamp splits u q = option_map_or (λ s. option_map (λ (r : Row). record r { id = q }) (u s)) (copied stamp splits q) (if list_any (same_node q) splits then None else u q)

-- the ids of so many copies as there are split files, from the j-th on
abbrev pub copy_ids : Stamp → ℕ → List NodeId → List NodeId
copy_ids stamp j [] = []
copy_ids stamp j (s ∷ splits) = copy_id stamp j ∷ copy_ids stamp (j + 1) splits

-- ---- three trees

-- ids with one more in its place
abbrev pub put_id : NodeId → List NodeId → List NodeId
put_id k [] = k ∷ []
put_id k (q ∷ ids) = by_order (node_cmp k q) (k ∷ q ∷ ids) (q ∷ ids) (q ∷ put_id k ids)

abbrev pub put_ids : List NodeId → List NodeId → List NodeId
put_ids [] ids = ids
put_ids (k ∷ ks) ids = put_ids ks (put_id k ids)

unfoldable pub conflicted : Stamp → List ℕ → ℕ → List ℕ
conflicted stamp name k = conflicted_text name stamp.name stamp.moment k

-- the split files of those with these ids
abbrev pub split_among : Look → Look → Look → List NodeId → List NodeId
split_among b m u ids = filter (is_split b m u) ids

-- two new files with one content, of which b is no copy
abbrev pub are_alike : Look → (NodeId → Bool) → Row → Row → Bool
are_alike base is_copy b a =
    is_file_kind b.kind && (is_file_kind a.kind && (not (is_some (base b.id)) && (not (is_some (base a.id)) && (not (is_copy b.id) && (bytes_eq b.bytes a.bytes && beq b.exec a.exec)))))

-- which rows may become one: directories, and by the second rule such files
abbrev pub may_by : ℕ → Look → (NodeId → Bool) → Row → Row → Bool
may_by rule base is_copy b a = may_join b a || (nat_eq rule 2 && are_alike base is_copy b a)

abbrev pub three_of : Stamp → Look → Look → Look → List NodeId → List NodeId → Three
three_of stamp b m u merged_ids our_ids =
    let splits = split_among b m u merged_ids in
    record { base = b; merged = m; ours = with_copies stamp splits u; ids = put_ids (copy_ids stamp 1 splits) (put_ids our_ids merged_ids); conflicted = conflicted stamp; may = may_by stamp.rule b (λ q. is_some (copied stamp splits q)) }

-- the split files, in the order of their ids
abbrev pub splits : Tree → Tree → Tree → List NodeId
splits b m u = split_among (look b) (look m) (look u) (keys m)

abbrev pub three : Tree → Tree → Tree → Stamp → Three
three b m u stamp = three_of stamp (look b) (look m) (look u) (keys m) (keys u)

-- ---- the merge

-- the tree of the rows that a look has at the ids
abbrev pub tree_at : List NodeId → Look → Tree
tree_at [] f = empty
tree_at (q ∷ ids) f = option_map_or (λ r. insert (tree_at ids f) q r) (f q) (tree_at ids f)

abbrev pub merge : Tree → Tree → Tree → Stamp → Tree
merge b m u stamp = let t = three b m u stamp in tree_at t.ids (result t)

-- how many rows of the ids are joined to another
abbrev pub joins : Three → ℕ
joins t = count_by (λ q. is_some (joined t q)) t.ids

-- how many copies, names given and joined directories there are
abbrev pub report : Tree → Tree → Tree → Stamp → Report
report b m u stamp = let t = three b m u stamp in record { copies = length (splits b m u); renamed = length (given t); joined = joins t }
