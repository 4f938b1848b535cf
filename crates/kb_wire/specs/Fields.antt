-- How fields are spelled: numbers are big-endian.
use Rattle.std.specs.Prelude.{ℕ, List, [], ◌∷◌}
use Rattle.std.specs.Int.{w16, w32, w64, to_be_bytes}

-- one byte
abbrev pub u8_text : ℕ → List ℕ
u8_text n = n ∷ []

-- two bytes
abbrev pub u16_text : ℕ → List ℕ
u16_text n = to_be_bytes w16 n

-- four bytes
abbrev pub u32_text : ℕ → List ℕ
u32_text n = to_be_bytes w32 n

-- eight bytes
abbrev pub u64_text : ℕ → List ℕ
u64_text n = to_be_bytes w64 n
