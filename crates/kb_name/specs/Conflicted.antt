-- The text of a conflicted name.
use Rattle.std.specs.Prelude.{◌≡◌, ℕ, zero, suc, ◌+◌, ◌-◌, ◌/◌, ◌%◌, Bool, true, false, not, ◌&&◌, ◌==◌, nat_le, nat_lt, List, [], ◌∷◌, ◌++◌, length, take, drop, slice_index_or, codes, decimal, pos, if◌then◌else◌}
use Rattle.jiff_core.specs.Calendar.{days_in_year, days_in_month}
use Rattle.jiff_core.specs.declared.civil.date.Date.{Date}

-- a day of the calendar
pub record Day : Type 0 where
  pub year : ℕ
  pub month : ℕ
  pub day : ℕ

-- the day that many days after the first of a month of the year, of the months so many at most
abbrev pub day_of_year : ℕ → ℕ → ℕ → ℕ → Day
day_of_year zero year month days = record { year = year; month = month; day = days + 1 }
day_of_year (suc months) year month days =
    elim (nat_lt days (days_in_month (pos year) month)) [
      | true ↦ record { year = year; month = month; day = days + 1 }
      | false ↦ day_of_year months year (month + 1) (days - days_in_month (pos year) month)
    ]

-- the day that many days after the first of January of the year, of the years so many at most
abbrev pub day_after : ℕ → ℕ → ℕ → Day
day_after zero year days = day_of_year 11 year 1 days
day_after (suc years) year days =
    elim (nat_lt days (days_in_year (pos year))) [
      | true ↦ day_of_year 11 year 1 days
      | false ↦ day_after years (year + 1) (days - days_in_year (pos year))
    ]

-- the day of a second since 1970, in UTC
abbrev pub day_of : ℕ → Day
day_of moment = day_after (moment / 86_400) 1970 (moment / 86_400)

abbrev pub two_digits : ℕ → List ℕ
two_digits n = (48 + n / 10) ∷ ((48 + n % 10) ∷ [])

-- `YYYY-MM-DD`
abbrev pub day_text : Day → List ℕ
day_text d = (two_digits (d.year / 100) ++ two_digits (d.year % 100)) ++ 45 ∷ [] ++ two_digits d.month ++ 45 ∷ [] ++ two_digits d.day

-- the bytes from the last dot on; nothing, where there is no dot
abbrev pub from_last_dot : List ℕ → List ℕ
from_last_dot [] = []
from_last_dot (b ∷ bs) =
    elim (from_last_dot bs) [
      | [] ↦ if b == 46 then b ∷ bs else []
      | (c ∷ cs) ↦ c ∷ cs
    ]

-- what runs from the last dot that isn't the first byte, where it has at most 32 bytes
abbrev pub extension : List ℕ → List ℕ
extension name = let found = from_last_dot (drop 1 name) in if nat_le (length found) 32 then found else []

-- the rest of the name
abbrev pub stem : List ℕ → List ℕ
stem name = take (length name - length (extension name)) name

-- a character ends before the byte at this place
abbrev pub ends_character : List ℕ → ℕ → Bool
ends_character bs n = let b = slice_index_or bs n 0 in not (nat_le 128 b && nat_lt b 192)

-- the longest part of the text with at most so many bytes that ends with a character
abbrev pub cut_to : ℕ → List ℕ → List ℕ
cut_to zero bs = []
cut_to (suc room) bs =
    elim (ends_character bs (suc room)) [
      | true ↦ take (suc room) bs
      | false ↦ cut_to room bs
    ]

-- nothing for the first copy, and ` K` for each other
abbrev pub copy_number : ℕ → List ℕ
copy_number k = if nat_le k 1 then [] else 32 ∷ decimal k

-- ` copy YYYY-MM-DD K)`
abbrev pub dated : Day → ℕ → List ℕ
dated d k = codes " copy " ++ day_text d ++ copy_number k ++ codes ")"

-- `.conflicted (DEVICE copy YYYY-MM-DD K)`
abbrev pub added : List ℕ → ℕ → ℕ → List ℕ
added device moment k = codes ".conflicted (" ++ device ++ dated (day_of moment) k

-- the stem, cut so that the whole has at most 255 bytes, what is added and the extension
abbrev pub conflicted_text : List ℕ → List ℕ → ℕ → ℕ → List ℕ
conflicted_text name device moment k =
    cut_to (255 - length (added device moment k) - length (extension name)) (stem name) ++ added device moment k ++ extension name

-- the date is this day
abbrev pub IsDay : Day → Date → Type 0
IsDay d date = (date.year ≡ pos d.year) × (date.month ≡ d.month) × (date.day ≡ d.day)
