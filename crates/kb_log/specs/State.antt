-- What a log in memory is, and what it knows of its disk.
use Rattle.std.specs.Prelude.{◌≡◌, ◌^◌, ◌≤◌, ◌<◌, ℕ, Bool, List, [], length, vec_capacity, take, drop, Some, unwrap_or}
use Rattle.kb_log.specs.Steps.{IsClean}
use Rattle.kb_log.specs.LogList.{log_list, list_of, used_of, area_size, area_start}
use Rattle.kb_log.specs.declared.area.Area.{Area}
use Rattle.kb_log.specs.declared.faults.AppendFault.{AppendFault}
use Rattle.kb_log.specs.declared.faults.AppendFault.TheVariants as faults

-- a log: its disk, its list, and whether no call has stopped
pub record LogState (D : Type 0) : Type 0 where
  pub disk : D
  pub payloads : List (List ℕ)
  pub is_open : Bool

-- the list that an area's text in memory has
abbrev pub payloads_of : List ℕ → List (List ℕ)
payloads_of text = unwrap_or (list_of text) []

-- an area has a list, and the text is its records and the closed gate behind them
pub record IsRead (area text : List ℕ) : Type 0 where
  pub list : list_of area ≡ Some (payloads_of text)
  pub used : length text ≡ used_of (payloads_of text)
  pub same : text ≡ take (length text) area

-- the disk has the list that the area's text in memory has, and a power cut changes nothing
pub record IsSettled (now : List ℕ) (dirty : ℕ → Bool) (area : Area) : Type 0 where
  pub low : 4096 ≤ length now
  pub high : length now ≤ 2 ^ 24
  pub clean : IsClean dirty
  pub list : log_list now ≡ Some (payloads_of area.text.items)
  pub start : area.start ≡ area_start now
  pub size : area.size ≡ area_size (length now)
  pub room : area.size ≤ vec_capacity area.text
  pub used : length area.text.items ≡ used_of (payloads_of area.text.items)
  pub same : area.text.items ≡ take (length area.text.items) (drop area.start now)

-- Full exactly where the need exceeds what is free, and then nothing has changed
abbrev pub SaysFull : ℕ → ℕ → Type 0 → AppendFault → Type 0
SaysFull need free Unchanged (faults.Full n f) = (n ≡ need) × (f ≡ free) × (free < need) × Unchanged
SaysFull need free Unchanged faults.Stopped = need ≤ free
