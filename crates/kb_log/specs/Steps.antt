-- What a few calls of a disk do together.
use Rattle.std.specs.Prelude.{◌≡◌, ◌<◌, ℕ, Bool, false, Option, Some, IsSomeAnd}

-- a power cut changes nothing
abbrev pub IsClean : (ℕ → Bool) → Type 0
IsClean dirty = (place : ℕ) → dirty place ≡ false

-- a number of steps below k was left, and now none is
abbrev pub RanOut : ℕ → Option ℕ → Option ℕ → Type 0
RanOut k before after = IsSomeAnd before (λ n. n < k) × (after ≡ Some 0)
