-- What the calls of the outside leave, and when they may fail.
use Rattle.std.specs.Prelude.{ℕ, ◌+◌, ◌-◌, ◌^◌, ◌≤◌, min, List, take, Option, Result, OnErr, MatchResult}
use Rattle.std.specs.Io.KnownBytes.{Appends}

-- a count with one more, which stays at its last value
abbrev pub raised : ℕ → ℕ
raised count = min (count + 1) (2 ^ 64 - 1)

-- the count rose, or stands at its last value
abbrev pub Rose : ℕ → ℕ → Type 0
Rose before now = raised before ≤ now

-- an error comes only where the count rose, and the count never falls
pub record HasCause {T E : Type 0} (before now : ℕ) (result : Result T E) : Type 0 where
  pub later : before ≤ now
  pub failed : OnErr result (Rose before now)

-- all of the piece is put, or where the put failed a prefix of it
abbrev pub Puts : {T E : Type 0} → Option (List ℕ) → Option (List ℕ) → Result T E → List ℕ → Type 0
Puts old new result piece = MatchResult result (λ _. Appends old new piece) (λ _. (n : ℕ) × Appends old new (take n piece))
