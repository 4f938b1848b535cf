-- Three trees that are merged, and the fate of one node: whether it stays, whether it is split, and its fields.
use Rattle.std.specs.Prelude.{ℕ, Bool, true, false, not, ◌&&◌, ◌||◌, List, nat_eq, max, if◌then◌else◌, Option, Some, None}
use mathlib.Core.Bool.{beq}
use Rattle.std.specs.Str.{bytes_eq}
use Rattle.kb_name.specs.declared.ids.NodeId.{NodeId}
use Rattle.kb_name.specs.Nodes.{same_node}
use Rattle.kb_ops.specs.declared.values.Kind.{Kind}
use Rattle.kb_ops.specs.declared.rows.Row.{Row}
use Rattle.kb_ops.specs.Codes.{kind_number}
use Rattle.kb_ops.specs.Rows.{Look}
use Rattle.kb_ops.specs.Plan.{is_file_kind}

-- the tree of the common revision, the merged one and ours, the ids of the rows of the last two in ascending order, the conflicted names of a name, from 1 on, and which rows may become one
pub record Three : Type 0 where
  pub base : Look
  pub merged : Look
  pub ours : Look
  pub ids : List NodeId
  pub conflicted : List ℕ → ℕ → List ℕ
  pub may : Row → Row → Bool

-- ---- when two rows are alike

abbrev pub same_kind : Kind → Kind → Bool
same_kind a b = nat_eq (kind_number a) (kind_number b)

abbrev pub same_place : Row → Row → Bool
same_place r s = same_node r.parent s.parent && bytes_eq r.name s.name

abbrev pub same_content : Row → Row → Bool
same_content r s = same_kind r.kind s.kind && (bytes_eq r.bytes s.bytes && (beq r.exec s.exec && nat_eq r.mtime s.mtime))

abbrev pub same_row : Row → Row → Bool
same_row r s = same_node r.id s.id && (same_place r s && same_content r s)

-- whether the row is the one that base has
abbrev pub is_base : Row → Option Row → Bool
is_base r None = false
is_base r (Some o) = same_row r o

-- ---- what stays

-- of merged, ours and base: a node of both stays, and a node of one that is new or changed there
abbrev pub stays_by : Option Row → Option Row → Option Row → Bool
stays_by None None o = false
stays_by None (Some s) o = not (is_base s o)
stays_by (Some r) None o = not (is_base r o)
stays_by (Some r) (Some s) o = true

abbrev pub stays : Three → NodeId → Bool
stays t q = stays_by (t.merged q) (t.ours q) (t.base q)

-- ---- what is split

-- changed on both sides, to values that differ
abbrev pub is_parted : Bool → Bool → Bool → Bool
is_parted merged_is_base ours_is_base same = not merged_is_base && (not ours_is_base && not same)

-- of merged, ours and base: a file of all three whose bytes or place changed on both sides to different ones
abbrev pub is_split_by : Option Row → Option Row → Option Row → Bool
is_split_by None u b = false
is_split_by (Some r) None b = false
is_split_by (Some r) (Some s) None = false
is_split_by (Some r) (Some s) (Some o) = is_file_kind r.kind && (is_parted (bytes_eq r.bytes o.bytes) (bytes_eq s.bytes o.bytes) (bytes_eq r.bytes s.bytes) || is_parted (same_place r o) (same_place s o) (same_place r s))

abbrev pub is_split : Look → Look → Look → NodeId → Bool
is_split b m u q = is_split_by (m q) (u q) (b q)

-- ---- the fields of what is not split

-- base's where neither changed, the changed one where one did, and the greater where both did
abbrev pub mixed_mtime : ℕ → ℕ → ℕ → ℕ
mixed_mtime m u b = if nat_eq m b then u else (if nat_eq u b then m else max m u)

-- bytes and exec are each ours where merged has base's, and else merged's
abbrev pub mixed : Row → Row → Row → Row
mixed m u b = record m {
  bytes = if bytes_eq m.bytes b.bytes then u.bytes else m.bytes;
  exec = if beq m.exec b.exec then u.exec else m.exec;
  mtime = mixed_mtime m.mtime u.mtime b.mtime;
}

-- of merged, ours and base: the fields of a node of one tree are those that it has there
abbrev pub fields_by : Option Row → Option Row → Option Row → Option Row
fields_by None u b = u
fields_by (Some r) None b = Some r
fields_by (Some r) (Some s) None = Some r
fields_by (Some r) (Some s) (Some o) = Some (mixed r s o)

abbrev pub fields : Three → Look
fields t q = fields_by (t.merged q) (t.ours q) (t.base q)
