-- A poor hash, for tests.
use Rattle.std.specs.Prelude.{◌≡◌, ℕ, List, ◌∷◌, length, replicate, slice_index, refl}

-- the first byte of a block, and zeros
abbrev pub first_byte : List ℕ → List ℕ
first_byte bytes = slice_index bytes 0 ∷ replicate 31 0

pub length-first_byte : (bytes : List ℕ) → length (first_byte bytes) ≡ 32
length-first_byte bytes = refl
