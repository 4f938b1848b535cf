-- The halves that are kept.
use Rattle.std.specs.Prelude.{◌≡◌, ℕ, Bool, nat_eq, ◌&&◌, List, Option, Some, None, if◌then◌else◌}
use Rattle.std.specs.List.{find}
use Rattle.std.specs.Option.{option_map}
use Rattle.kb_keys.specs.declared.halves.Half.{Half}

abbrev pub is_half : ℕ → ℕ → Half → Bool
is_half d g h = nat_eq h.device d && nat_eq h.generation g

-- the half of a device and a generation
abbrev pub half_at : List Half → ℕ → ℕ → Option (List ℕ)
half_at hs d g = option_map (λ h. h.half) (find (is_half d g) hs)

-- the half stands at its device and generation, and all others stay
abbrev pub HasOnly : Half → List Half → List Half → Type 0
HasOnly h old new = (d g : ℕ) → half_at new d g ≡ (if is_half d g h then Some h.half else half_at old d g)

-- the device has none, and all others stay
abbrev pub HasNone : ℕ → List Half → List Half → Type 0
HasNone gone old new = (d g : ℕ) → half_at new d g ≡ (if nat_eq d gone then None else half_at old d g)
