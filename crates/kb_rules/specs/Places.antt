-- Where each row stands, and which rows are kept.
use Rattle.std.specs.Prelude.{Bool, true, false, not, ◌&&◌, length, if◌then◌else◌, Option, Some, None}
use Rattle.std.specs.List.{list_any}
use Rattle.kb_name.specs.declared.ids.NodeId.{NodeId}
use Rattle.kb_name.specs.Nodes.{root}
use Rattle.kb_ops.specs.declared.rows.Row.{Row}
use Rattle.kb_ops.specs.Rows.{Look, is_dir, meets}
use Rattle.kb_rules.specs.Three.{Three, same_place, stays}

-- of merged, ours and base: the first guess is the place in ours for a node that merged lacks, and for one that ours moved and merged did not
abbrev pub is_moved_by : Option Row → Option Row → Option Row → Bool
is_moved_by None u b = true
is_moved_by (Some r) None b = false
is_moved_by (Some r) (Some s) None = false
is_moved_by (Some r) (Some s) (Some o) = same_place r o && not (same_place s o)

abbrev pub is_moved : Three → NodeId → Bool
is_moved t q = is_moved_by (t.merged q) (t.ours q) (t.base q)

-- the rows with the places of the first guess
abbrev pub guess : Three → Look
guess t q = if is_moved t q then t.ours q else t.merged q

-- a directory of both whose walk of parents under the first guess does not reach the root
abbrev pub is_lost : Three → NodeId → Bool
is_lost t q = is_dir t.merged q && (is_dir t.ours q && not (meets (guess t) root (length t.ids) q))

-- whether a row is on our side, with the place that it has in ours, and not on merged's
abbrev pub on_ours : Three → NodeId → Bool
on_ours t q = is_moved t q && not (is_lost t q)

-- the rows with their places
abbrev pub seat : Three → Look
seat t q = if on_ours t q then t.ours q else t.merged q

-- what stays, and each row that the walk of parents from what stays comes to
abbrev pub is_kept : Three → NodeId → Bool
is_kept t q = list_any (λ s. stays t s && meets (seat t) q (length t.ids) s) t.ids
