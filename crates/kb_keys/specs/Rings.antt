-- Keys by their generations.
use Rattle.std.specs.Prelude.{◌≡◌, ℕ, nat_eq, List, Option, Some, if◌then◌else◌}
use Rattle.std.specs.Ordering.{nat_cmp}
use Rattle.std.specs.BTreeMap.{is_at, insert_entry}
use Rattle.std.specs.Map.{lookup}

-- generations with their keys, in the order of the generations
abbrev pub Keys : Type 0
Keys = List (ℕ × List ℕ)

-- the key of a generation
abbrev pub key_at : Keys → ℕ → Option (List ℕ)
key_at keys g = lookup (is_at (nat_cmp g)) keys

-- The key stands at its generation, and all others stay.
pub record AddsKey (old new : Keys) (g : ℕ) (key : List ℕ) : Type 0 where
  pub keys : (q : ℕ) → key_at new q ≡ (if nat_eq q g then Some key else key_at old q)
  pub list : new ≡ insert_entry nat_cmp old g key
