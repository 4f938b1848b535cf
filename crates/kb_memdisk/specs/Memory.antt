-- What a disk in memory is.
use Rattle.std.specs.Prelude.{ℕ, ◌-◌, Bool, List, Option, None, Some}

-- the bytes now, those after the last sync, the places written since, the steps that still succeed, whether the next
-- write that fails enters, and how often it has failed
pub record DiskState : Type 0 where
  pub now : List ℕ
  pub stable : List ℕ
  pub dirty : List Bool
  pub left : Option ℕ
  pub enters : Bool
  pub faults : ℕ

-- one step fewer, where a number is set
abbrev pub stepped : Option ℕ → Option ℕ
stepped None = None
stepped (Some n) = Some (n - 1)
