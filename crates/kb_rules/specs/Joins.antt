-- Rows that merged lacks which become one with rows that ours lacks, from the root downwards.
use Rattle.std.specs.Prelude.{ℕ, zero, suc, Bool, false, not, ◌&&◌, length, find, if◌then◌else◌, Option, None}
use Rattle.std.specs.Option.{is_some, option_and_then, option_map, option_map_or, unwrap_or}
use Rattle.std.specs.Str.{bytes_eq}
use Rattle.kb_name.specs.declared.ids.NodeId.{NodeId}
use Rattle.kb_ops.specs.declared.rows.Row.{Row}
use Rattle.kb_name.specs.Nodes.{same_node}
use Rattle.kb_ops.specs.Rows.{Look, is_dir_row}
use Rattle.kb_rules.specs.Three.{Three}
use Rattle.kb_rules.specs.Places.{seat, is_kept}

-- two directories may become one
abbrev pub may_join : Row → Row → Bool
may_join b a = is_dir_row b && is_dir_row a

-- whether the row b, whose parent is or is joined to this one, may be joined to the row of a: it is kept, ours lacks it, and it has b's name in that directory
abbrev pub takes : Three → Row → NodeId → NodeId → Bool
takes t b parent a = is_kept t a && (not (is_some (t.ours a)) && option_map_or (λ (r : Row). t.may b r && (same_node r.parent parent && bytes_eq r.name b.name)) (t.merged a) false)

-- what a kept row that merged lacks is joined to, where at most so many rows are above it
abbrev pub joined_within : Three → ℕ → NodeId → Option NodeId
joined_within t zero q = None
joined_within t (suc n) q = if is_kept t q && not (is_some (t.merged q)) then option_and_then (λ (b : Row). find (takes t b (unwrap_or (joined_within t n b.parent) b.parent)) t.ids) (t.ours q) else None

abbrev pub joined : Three → NodeId → Option NodeId
joined t q = joined_within t (length t.ids) q

-- the row that a row is, or is joined to
abbrev pub into : Three → NodeId → NodeId
into t q = unwrap_or (joined t q) q

-- a row that is kept and not joined
abbrev pub is_left : Three → NodeId → Bool
is_left t q = is_kept t q && not (is_some (joined t q))

-- these rows, each in the directory that its parent is or is joined to
abbrev pub standing : Three → Look
standing t q = if is_left t q then option_map (λ (r : Row). record r { parent = into t r.parent }) (seat t q) else None
