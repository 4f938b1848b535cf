-- Sealing and signing by HMAC. The first byte of a message says what it is for.
use Rattle.std.specs.Prelude.{ℕ, List, [], ◌∷◌, ◌++◌, ◌+◌, ◌/◌, ◌%◌, ◌^◌, slice_index, bit_xor}
use Rattle.std.specs.Int.{w32, to_be_bytes}
use Rattle.kb_seal.specs.Hmac.{hmac}

abbrev pub tag_of : List ℕ → List ℕ → List ℕ
tag_of key plain = hmac key (1 ∷ plain)

-- a block of the pad, of 32 bytes
abbrev pub pad_block : List ℕ → List ℕ → ℕ → List ℕ
pad_block key tag i = hmac key (2 ∷ (tag ++ to_be_bytes w32 (i % 2 ^ 32)))

-- a byte of the pad
abbrev pub pad_at : List ℕ → List ℕ → ℕ → ℕ
pad_at key tag j = slice_index (pad_block key tag (j / 32)) (j % 32)

-- a text under a pad, from a place of the pad on
abbrev pub masked : (ℕ → ℕ) → ℕ → List ℕ → List ℕ
masked pad at [] = []
masked pad at (b ∷ bs) = bit_xor b (pad at) ∷ masked pad (at + 1) bs

-- the tag, and then the text under the pad
unfoldable pub seal_by_hmac : List ℕ → List ℕ → List ℕ
seal_by_hmac key plain = tag_of key plain ++ masked (pad_at key (tag_of key plain)) 0 plain

unfoldable pub sign_by_hmac : List ℕ → List ℕ → List ℕ
sign_by_hmac key bytes = hmac key (3 ∷ bytes)
