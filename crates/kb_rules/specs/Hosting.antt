-- Directories by their places, and what a row is joined to, as the code finds it.
use Rattle.std.specs.Prelude.{◌≡◌, ℕ, zero, suc, Bool, false, not, ◌&&◌, List, [], ◌∷◌, find, length, get_or, set, slice_get, if◌then◌else◌, Option, Some, None}
use Rattle.std.specs.Option.{is_some, option_map_or, option_and_then}
use Rattle.std.specs.Map.{lookup}
use Rattle.std.specs.Str.{bytes_eq}
use Rattle.kb_name.specs.declared.ids.NodeId.{NodeId}
use Rattle.kb_name.specs.Nodes.{root, same_node}
use Rattle.kb_ops.specs.declared.rows.Row.{Row}
use Rattle.kb_ops.specs.Rows.{is_dir_row}
use Rattle.kb_rules.specs.declared.places.Place.{Place}
use Rattle.kb_rules.specs.declared.hosts.Hosts.{Hosts}
use Rattle.kb_rules.specs.declared.sides.Sides.{Sides}
use Rattle.kb_rules.specs.Joins.{takes}
use Rattle.kb_rules.specs.PlaceSets.{is_place}
use Rattle.kb_rules.specs.Code.{three_in, merged_in, ours_in, kept_in}

-- the id at a place
unfoldable pub host_at : Hosts → NodeId → List ℕ → Option NodeId
host_at h parent name = lookup (λ (k : Place). is_place k parent name) h.map.entries

-- a Dir with this place
abbrev pub is_at : NodeId → List ℕ → Row → Bool
is_at parent name r = is_dir_row r && (same_node parent r.parent && bytes_eq name r.name)

-- a kept Dir of merged at this place, which ours lacks
abbrev pub host_in : Sides → NodeId → List ℕ → NodeId → Bool
host_in s parent name q = kept_in s q && (not (is_some (ours_in s q)) && option_map_or (is_at parent name) (merged_in s q) false)

-- the hosts with the row of an id, where it may be one
abbrev pub IsAdded : Sides → NodeId → Hosts → Hosts → Type 0
IsAdded s q old new = (p : NodeId) (n : List ℕ) → host_at new p n ≡ (if host_in s p n q then Some q else host_at old p n)

abbrev pub AreHosts : Sides → Hosts → Type 0
AreHosts s h = (p : NodeId) (n : List ℕ) → host_at h p n ≡ find (host_in s p n) s.ids.now

-- ---- joins, where those of some rows are known

unfoldable pub takes_in : Sides → Row → NodeId → NodeId → Bool
takes_in s = takes (three_in s)

-- what a parent is or is joined to, where that is known
abbrev pub into_known : Option (Option NodeId) → NodeId → NodeId
into_known None p = p
into_known (Some None) p = p
into_known (Some (Some a)) p = a

-- what a row is joined to, by what is known of its parent
abbrev pub join_in : Sides → Option (Option NodeId) → NodeId → Option NodeId
join_in s above q = if kept_in s q && not (is_some (merged_in s q)) then option_and_then (λ (b : Row). find (takes_in s b (into_known above b.parent)) s.ids.now) (ours_in s q) else None

abbrev pub Joins : Type 0
Joins = List (Option (Option NodeId))

-- of the row in a place
abbrev pub join_at : Sides → List ℕ → Joins → ℕ → Option NodeId
join_at s ups known i = option_and_then (join_in s (get_or known (get_or ups i (length ups)) None)) (slice_get s.ids.now i)

-- the places of a walk up to the first that is known
abbrev pub path_of : List ℕ → Joins → ℕ → ℕ → List ℕ
path_of ups known zero at = []
path_of ups known (suc n) at = if is_some (get_or known at (Some None)) then [] else at ∷ path_of ups known n (get_or ups at (length ups))

-- the joins of a path's places, the last first
abbrev pub settle : Sides → List ℕ → List ℕ → Joins → Joins
settle s ups [] known = known
settle s ups (i ∷ path) known = let rest = settle s ups path known in set rest i (Some (join_at s ups rest i))

-- those of the walk from a place, where its row is kept
abbrev pub settle_from : Sides → List ℕ → Bool → ℕ → Joins → Joins
settle_from s ups kept from known = if kept then settle s ups (path_of ups known (length ups) from) known else known

-- at first it is known that the root isn't joined
abbrev pub at_first : NodeId → Option (Option NodeId)
at_first q = if same_node q root then Some None else None

abbrev pub is_joined : Option (Option NodeId) → Option NodeId
is_joined None = None
is_joined (Some joined) = joined
