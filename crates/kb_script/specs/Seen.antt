-- What the lines before say to a line.
use Rattle.std.specs.Prelude.{◌≡◌, ℕ, ◌+◌, Bool, true, false, not, nat_le, List, length, map, Option, Some, None, if◌then◌else◌, Result, Ok, Err}
use Rattle.std.specs.List.{list_any, position_or_len}
use Rattle.std.specs.Str.{bytes_eq}
use Rattle.kb_script.specs.declared.faults.Why.{Why}
use Rattle.kb_script.specs.declared.faults.Why.TheVariants as why
use Rattle.kb_script.specs.declared.state.Seen.{Seen}
use Rattle.kb_script.specs.declared.statements.Statement.{Statement}
use Rattle.kb_script.specs.declared.statements.Statement.TheVariants as statement
use Rattle.kb_script.specs.declared.verbs.Verb.{Verb}
use Rattle.kb_script.specs.Table.{most_devices, place, Place, Anywhere, First, WithRoom, Once, Behind}

-- the declared names in their order, and whether `found` and whether any statement came
pub record Known : Type 0 where
  pub devices : List (List ℕ)
  pub found : Bool
  pub begun : Bool

abbrev pub known : Seen → Known
known s = record { devices = map (λ name. name.items) s.devices.keys; found = s.found; begun = s.begun }

-- how many devices are declared
abbrev pub count_in : Seen → ℕ
count_in s = length s.devices.keys

-- where a name stands among those declared
abbrev pub place_of : List (List ℕ) → List ℕ → ℕ
place_of devices w = position_or_len (bytes_eq w) devices

abbrev pub is_declared : Known → List ℕ → Bool
is_declared k w = list_any (bytes_eq w) k.devices

-- devices are numbered from 1 in the order in which they are declared
abbrev pub number_of : Known → List ℕ → ℕ
number_of k w = place_of k.devices w + 1

abbrev pub named : Known → List ℕ → Option ℕ
named k w = if is_declared k w then Some (number_of k w) else None

abbrev pub device_answer : Known → List ℕ → Result ℕ Why
device_answer k w = if is_declared k w then Ok (number_of k w) else Err why.Device

-- a device that a statement declares has a new name
abbrev pub IsNew : Known → Statement → Type 0
IsNew k (statement.Device name size) = is_declared k name ≡ false
IsNew k s = Unit {0}

abbrev pub stands : Known → Place → Bool
stands k Anywhere = true
stands k First = not k.begun
stands k WithRoom = nat_le (length k.devices + 1) most_devices
stands k Once = not k.found
stands k Behind = k.found

abbrev pub may_stand : Known → Verb → Bool
may_stand k v = stands k (place v)

abbrev pub order_answer : Known → Verb → Result (Unit {0}) Why
order_answer k v = if may_stand k v then Ok tt else Err why.Order
