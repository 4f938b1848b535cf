-- The day that the walk over years and months finds is the calendar's.
use Rattle.std.proofs.Common.{◌≡◌, ℕ, zero, suc, ◌+◌, ◌-◌, ◌/◌, ◌<◌, ◌≤◌, true, false, nat_lt, refl, sym, ap, ◌∙◌, arith, inl, inr, ℤ, pos}
use Rattle.std.proofs.lemmas.Bool.{cases_lt}
use Rattle.std.proofs.lemmas.Bool.Decides.{nat_tests}
use Rattle.jiff_core.specs.Calendar.{days_in_year, days_in_month, day_count, days_from_civil}
use Rattle.jiff_core.specs.Date.{epoch_day}
use Rattle.jiff_core.specs.declared.civil.date.Date.{Date}
use Rattle.jiff_core.proofs.SignedLemmas.{signed_arith}
use Rattle.jiff_core.proofs.CalendarLemmas.{day_count-epoch, days_from_civil-day_count, days_in_month_bounds, days_in_year_bounds, day_count-day, day_count-next_month, day_count-next_year, day_count-last_of_year, day_count-end}
use Rattle.jiff_core.proofs.DateLemmas.{epoch_day_injective}
use Rattle.jiff.proofs.SpanFacts.{date_add-days, can_add-days}
use Rattle.jiff.specs.Types.{Day as DayUnit}
use Rattle.jiff.specs.Words.{date_add, CanAddToDate, IsOnly}
use Rattle.jiff_core.specs.declared.span.Span.{Span}
use Rattle.kb_name.specs.Conflicted.{Day, day_of_year, day_after, day_of, IsDay}
use Rattle.kb_name.specs.Moments.{last_second}
use borrow.Author.Differences.{up, down}

-- a day of the calendar, which is the n-th of its count
pub record IsNth (n : ℕ) (d : Day) : Type 0 where
  pub year_to : d.year ≤ 9999
  pub month_from : 1 ≤ d.month
  pub month_to : d.month ≤ 12
  pub day_from : 1 ≤ d.day
  pub day_to : d.day ≤ days_in_month (pos d.year) d.month
  pub day_short : d.day ≤ 31
  pub count : day_count (pos d.year) d.month d.day ≡ n

in_month : (n y m days : ℕ) → y ≤ 9999 → 1 ≤ m → m ≤ 12 → days < days_in_month (pos y) m → n ≡ day_count (pos y) m 1 + days → IsNth n (record { year = y; month = m; day = days + 1 })
in_month n y m days year low high h e = record {
  year_to = year;
  month_from = low;
  month_to = high;
  day_from = omega arith;
  day_to = omega arith;
  day_short = omega (arith, days_in_month_bounds (pos y) m);
  count = omega (arith, day_count-day (pos y) m 1 (days + 1) (omega arith) (omega arith));
}

in_december : (y m days : ℕ) → m ≡ 12 → day_count (pos y) m 1 + days < day_count (pos y) 1 1 + days_in_year (pos y) → days < days_in_month (pos y) m
in_december y m days e h =
    let last : days_in_month (pos y) m ≡ 31 = rw e refl in
    let begins : day_count (pos y) m 1 ≡ day_count (pos y) 12 1 = rw e refl in
    omega (arith, last, begins, day_count-last_of_year (pos y), day_count-day (pos y) 12 1 31 (omega arith) (omega arith))

pub in_year : (months n y m days : ℕ) → y ≤ 9999 → 1 ≤ m → m + months ≡ 12 → n ≡ day_count (pos y) m 1 + days → n < day_count (pos y) 1 1 + days_in_year (pos y) → IsNth n (day_of_year months y m days)
in_year zero n y m days year low sum e h =
    in_month n y m days year low (omega arith) (in_december y m days (omega arith) (omega arith)) e
in_year (suc months) n y m days year low sum e h =
    elim (nat_lt days (days_in_month (pos y) m)) as (λ b. nat_lt days (days_in_month (pos y) m) ≡ b → IsNth n (day_of_year (suc months) y m days)) [
      | true ↦ λ t. rw (t, day_of_year) (in_month n y m days year low (omega arith) (grind (arith, nat_tests)) e)
      | false ↦ λ t. let more : days_in_month (pos y) m ≤ days = grind (arith, nat_tests) in
          rw (t, day_of_year) (in_year months n y (m + 1) (days - days_in_month (pos y) m) year (omega arith) (omega arith) (omega (arith, day_count-next_month (pos y) m low)) h)
    ] refl

not_last : (y n : ℕ) → y ≤ 9999 → day_count (pos (y + 1)) 1 1 ≤ n → n < 7_304_850 → y + 1 ≤ 9999
not_last y n year low high =
    elim (cases_lt y 9999) [
      | inl lt ↦ omega arith
      | inr ge ↦ let last : y + 1 ≡ 10000 = omega arith in absurd (omega (arith, rw last at low, day_count-end))
    ]

pub in_years : (years n y days : ℕ) → days ≤ years → y ≤ 9999 → n ≡ day_count (pos y) 1 1 + days → n < 7_304_850 → IsNth n (day_after years y days)
in_years zero n y days few year e h =
    in_year 11 n y 1 days year (omega arith) refl e (omega (arith, days_in_year_bounds (pos y)))
in_years (suc years) n y days few year e h =
    elim (nat_lt days (days_in_year (pos y))) as (λ b. nat_lt days (days_in_year (pos y)) ≡ b → IsNth n (day_after (suc years) y days)) [
      | true ↦ λ t. let within : days < days_in_year (pos y) = grind (arith, nat_tests) in
          rw (t, day_after) (in_year 11 n y 1 days year (omega arith) refl e (omega arith))
      | false ↦ λ t. let more : days_in_year (pos y) ≤ days = grind (arith, nat_tests) in
          let next : day_count (pos (y + 1)) 1 1 ≡ day_count (pos y) 1 1 + days_in_year (pos y) = day_count-next_year (pos y) (pos (y + 1)) (omega (arith, signed_arith)) (omega (arith, signed_arith)) in
          rw (t, day_after) (in_years years n (y + 1) (days - days_in_year (pos y)) (omega (arith, days_in_year_bounds (pos y))) (not_last y n year (omega arith) h) (omega arith) h)
    ] refl

pub nth_day : (moment : ℕ) → moment ≤ last_second → IsNth (4_371_953 + moment / 86_400) (day_of moment)
nth_day moment last = in_years (moment / 86_400) (4_371_953 + moment / 86_400) 1970 (moment / 86_400) (omega arith) (omega arith) (omega (arith, day_count-epoch)) (omega arith)

count_is : (z : ℤ) (n days : ℕ) → up z + 4_371_953 ≡ down z + n → n ≡ 4_371_953 + days → z ≡ pos days
count_is z n days e f = omega (arith, signed_arith)

-- what `day_of` finds is the date with that day number
pub is_day : (moment : ℕ) (date : Date) → moment / 86_400 ≤ 2_932_896 → epoch_day date ≡ pos (moment / 86_400) → IsDay (day_of moment) date
is_day moment date last e =
    let days = moment / 86_400 in
    let found = in_years days (4_371_953 + days) 1970 days (omega arith) (omega arith) (omega (arith, day_count-epoch)) (omega arith) in
    let d = day_of moment in
    let made : Date = record {
      year = pos d.year;
      month = d.month;
      day = d.day;
      year_in = (omega (arith, signed_arith), omega (arith, signed_arith, found.year_to));
      month_in = (found.month_from, found.month_to);
      day_in = (found.day_from, found.day_to);
    } in
    let same : epoch_day made ≡ pos days = count_is (epoch_day made) (4_371_953 + days) days (days_from_civil-day_count (pos d.year) d.month d.day ∙ ap (λ n. down (epoch_day made) + n) found.count) refl in
    epoch_day_injective date made (e ∙ sym same)

-- the first of January 1970 has the number 0
pub is_start : (date : Date) → date.year ≡ pos 1970 → pos date.month ≡ pos 1 → pos date.day ≡ pos 1 → epoch_day date ≡ pos 0
is_start date year month day =
    let m : date.month ≡ 1 = omega (arith, signed_arith) in
    let d : date.day ≡ 1 = omega (arith, signed_arith) in
    rw (year, m, d) (count_is (days_from_civil (pos 1970) 1 1) 4_371_953 0 (days_from_civil-day_count (pos 1970) 1 1 ∙ ap (λ n. down (days_from_civil (pos 1970) 1 1) + n) day_count-epoch) refl)

pub days_on : (date : Date) (s : Span) (z : ℤ) (n : ℕ) → epoch_day date ≡ pos 0 → z ≡ pos n → IsOnly DayUnit z s → date_add date s ≡ pos n
days_on date s z n start e only = let f = date_add-days date z s only in omega (arith, signed_arith)

pub can_go_on : (date : Date) (s : Span) (z : ℤ) (n : ℕ) → epoch_day date ≡ pos 0 → z ≡ pos n → n ≤ 2_932_896 → IsOnly DayUnit z s → CanAddToDate date s
can_go_on date s z n start e last only =
    (can_add-days date z s only).1 (omega (arith, signed_arith), omega (arith, signed_arith))
