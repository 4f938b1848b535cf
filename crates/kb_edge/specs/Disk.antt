-- What the calls of a disk do to its content, and what a power cut may leave.
use Rattle.std.specs.Prelude.{◌≡◌, ℕ, ◌+◌, ◌≤◌, Bool, false, ◌&&◌, nat_le, nat_lt, List, ◌++◌, length, take, drop, slice_index, Option, None, Some, IsSomeAnd}

-- whether a place is one of the n from `at` on
abbrev pub within : ℕ → ℕ → ℕ → Bool
within at n place = nat_le at place && nat_lt place (at + n)

-- the old bytes with these in place of those from `at` on
abbrev pub overlay : List ℕ → ℕ → List ℕ → List ℕ
overlay old at bytes = take at old ++ bytes ++ drop (at + length bytes) old

-- a power cut may leave this image: any bytes in the dirty places, and what is there in all others
pub record MayLeave (now : List ℕ) (dirty : ℕ → Bool) (image : List ℕ) : Type 0 where
  pub size : length image ≡ length now
  pub kept : (place : ℕ) → dirty place ≡ false → slice_index image place ≡ slice_index now place

-- none stays none, and a number falls by at most k
abbrev pub FallsBy : ℕ → Option ℕ → Option ℕ → Type 0
FallsBy k None new = new ≡ None
FallsBy k (Some n) new = IsSomeAnd new (λ m. (m ≤ n) × (n ≤ m + k))
