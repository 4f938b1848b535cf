-- Entries of a bundle, and the keys that they give.
use Rattle.std.specs.Prelude.{◌≡◌, ◌≢◌, ℕ, ◌+◌, ◌≤◌, max, Bool, nat_eq, ◌&&◌, List, [], ◌∷◌, ◌++◌, map, Option, Some, None, Result, Ok, Err}
use Rattle.std.specs.List.{find}
use Rattle.std.specs.Option.{option_map}
use Rattle.kb_keys.specs.Secrets.{device_secret, folder_key, server_half, xored}
use Rattle.kb_keys.specs.declared.entries.Entry.{Entry}
use Rattle.kb_keys.specs.declared.bundle.KeyFault.{KeyFault}
use Rattle.kb_keys.specs.declared.bundle.KeyFault.TheVariants as key
use Rattle.kb_keys.specs.declared.bundle.KeyFault.TheVariants.{NoEntry, NotSealed}
use Rattle.kb_keys.specs.declared.bundle.RotateFault.{RotateFault}
use Rattle.kb_keys.specs.declared.bundle.RotateFault.TheVariants as rotate
use Rattle.kb_keys.specs.declared.bundle.RotateFault.TheVariants.{GenEnd}

abbrev pub is_entry : ℕ → ℕ → Entry → Bool
is_entry d g e = nat_eq e.device d && nat_eq e.generation g

-- the sealed text of a device's entry of a generation, the first where there are more
abbrev pub sealed_at : ℕ → ℕ → List Entry → Option (List ℕ)
sealed_at d g es = option_map (λ e. e.sealed) (find (is_entry d g) es)

-- the greatest generation of the entries, or 0 where there is none
abbrev pub last_generation : List Entry → ℕ
last_generation [] = 0
last_generation (e ∷ es) = max e.generation (last_generation es)

module _ (sealed : List ℕ → List ℕ → List ℕ) where
  -- the key under the server's half, sealed under the device's secret
  abbrev pub made_entry : List ℕ → ℕ → ℕ → List ℕ → Entry
  made_entry seed d g k = record { device = d; generation = g; sealed = sealed (device_secret seed d) (xored k (server_half seed d g)) }

  -- What a sealed text, if there is one, gives with a secret and a half. It is refused exactly where there is none or where it doesn't open, or for want of memory.
  abbrev pub Gives : List ℕ → List ℕ → Option (List ℕ) → Result (List ℕ) KeyFault → Type 0
  Gives secret half (Some text) (Ok k) = text ≡ sealed secret (xored k half)
  Gives secret half None (Ok k) = ⊥
  Gives secret half (Some text) (Err NoEntry) = ⊥
  Gives secret half None (Err NoEntry) = Unit {0}
  Gives secret half (Some text) (Err NotSealed) = (plain : List ℕ) → text ≢ sealed secret plain
  Gives secret half None (Err NotSealed) = ⊥
  Gives secret half o (Err key.Memory) = Unit {0}

  -- Each member has an entry of the next generation's key then. It is refused exactly where the last generation is reached, or for want of memory.
  abbrev pub Rotates : List ℕ → List ℕ → List Entry → List Entry → Result ℕ RotateFault → Type 0
  Rotates seed members old new (Ok g) = (last_generation old + 1 ≤ 64) × (g ≡ last_generation old + 1) × (new ≡ old ++ map (λ d. made_entry seed d g (folder_key seed g)) members)
  Rotates seed members old new (Err GenEnd) = (64 ≤ last_generation old) × (new ≡ old)
  Rotates seed members old new (Err rotate.Memory) = new ≡ old

-- this key is given, or memory is wanting
abbrev pub GivesOnly : List ℕ → Result (List ℕ) KeyFault → Type 0
GivesOnly k (Ok given) = given ≡ k
GivesOnly k (Err NoEntry) = ⊥
GivesOnly k (Err NotSealed) = ⊥
GivesOnly k (Err key.Memory) = Unit {0}
