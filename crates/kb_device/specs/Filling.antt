-- How a device fills its ring from what the folder keeps for it.
use Rattle.std.specs.Prelude.{◌≡◌, ℕ, ◌≤◌, Bool, true, ◌&&◌, nat_eq, nat_le, if◌then◌else◌, List, Option, Some, Result, Ok, Err}
use Rattle.kb_keys.specs.declared.entries.Entry.{Entry}
use Rattle.kb_keys.specs.Rings.{Keys, key_at}
use Rattle.kb_keys.specs.Secrets.{device_secret, folder_key, server_half}
use Rattle.kb_keys.specs.Halves.{half_at}
use Rattle.kb_folder.specs.Chains.{Place}
use Rattle.kb_folder.specs.Reading.{is_among}
use Rattle.kb_folder.specs.Puts.{Held}
use Rattle.kb_folder.specs.Held.{is_member}
use Rattle.kb_device.specs.declared.reading.ReadFault.{ReadFault}
use Rattle.kb_device.specs.declared.reading.ReadFault.TheVariants.{BadFolder, Memory}

-- an entry for the device, of a generation up to this one
abbrev pub is_wanted : ℕ → ℕ → Entry → Bool
is_wanted d most e = nat_eq e.device d && (nat_le 1 e.generation && nat_le e.generation most)

-- the folder serves the device: it is a member with the seed's secret, and has halves of all generations up to this one
pub record IsServed (seed : List ℕ) (f : Held) (d : ℕ) (secret : List ℕ) (most : ℕ) : Type 0 where
  pub secret_is : secret ≡ device_secret seed d
  pub member : is_member f d ≡ true
  pub halves : (g : ℕ) → 1 ≤ g → g ≤ most → half_at f.halves d g ≡ Some (server_half seed d g)

-- this holds of what was read, which is refused only for want of memory
abbrev pub IfRead : {X : Type 0} → Result X ReadFault → (X → Type 0) → Type 0
IfRead (Ok x) P = P x
IfRead (Err Memory) P = Unit {0}
IfRead (Err BadFolder) P = ⊥

-- the folder key of a generation up to this one, where there is an entry for it
abbrev pub key_with : List ℕ → ℕ → Bool → ℕ → Option (List ℕ) → Option (List ℕ)
key_with seed most among g old = if among && (nat_le 1 g && nat_le g most) then Some (folder_key seed g) else old

-- the keys of these places for the device, up to this generation, are in the ring, and all others are as they were
abbrev pub HasKeysOf : List ℕ → ℕ → ℕ → List Place → Keys → Keys → Type 0
HasKeysOf seed d most ps old new = (g : ℕ) → key_at new g ≡ key_with seed most (is_among d g ps) g (key_at old g)
