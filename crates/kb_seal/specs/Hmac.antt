-- HMAC over SHA-256.
use Rattle.std.specs.Prelude.{ℕ, List, ◌++◌, ◌-◌, length, map, replicate, bit_xor, nat_le, if◌then◌else◌}
use Rattle.sha2.specs.Sha256.{sha256}
use Rattle.sha2.specs.Hashers.{Holds256}
use Rattle.kb_seal.specs.declared.states.KeyStates.{KeyStates}

-- a key is filled with zeros to 64 bytes, and hashed before where it is longer
abbrev pub filled : List ℕ → List ℕ
filled key = key ++ replicate (64 - length key) 0

abbrev pub key_block : List ℕ → List ℕ
key_block key = filled (if nat_le (length key) 64 then key else sha256 key)

abbrev pub keyed : ℕ → List ℕ → List ℕ
keyed mask key = map (λ b. bit_xor b mask) (key_block key)

unfoldable pub hmac : List ℕ → List ℕ → List ℕ
hmac key message = sha256 (keyed 0x5c key ++ sha256 (keyed 0x36 key ++ message))

-- the hashers have taken the key's two blocks in
pub record AreStatesOf (key : List ℕ) (states : KeyStates) : Type 0 where
  pub inner : Holds256 states.inner (keyed 0x36 key)
  pub outer : Holds256 states.outer (keyed 0x5c key)
