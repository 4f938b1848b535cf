-- Digits of which the first isn't 0 spell their number, and no number from 1 to 1,000 is spelled otherwise.
use Rattle.std.proofs.Common.{◌≡◌, ℕ, ◌<◌, ◌≤◌, ◌^◌, Bool, true, false, ◌&&◌, not, eqb, List, length, get_or, Result, Ok, Err, refl, sym, ap, ◌∙◌, subst, arith, rules}
use Rattle.std.specs.Prelude.{decimal, slice_index}
use Rattle.std.specs.List.{list_all}
use Rattle.std.specs.Char.{is_ascii_digit}
use Rattle.std.specs.Result.{OkIff}
use Rattle.std.specs.Str.Parse.{ParsesUnsigned, digits_value}
use Rattle.std.proofs.lemmas.Fmt.{parse-decimal, decimal_nonempty, first_decimal, digits_decimal, decimal-digits_value}
use Rattle.std.proofs.lemmas.Str.Parse.{IsNumeralModel, numerals_by_value, parse_digits}
use Rattle.std.proofs.lemmas.Bool.Decides.{nat_tests}
use Rattle.kb_top.specs.Asking.{is_numeral}

own : IsNumeralModel (λ ds. list_all is_ascii_digit ds ≡ true) (digits_value 10)
own = numerals_by_value _ (search rules)

-- ---- the test

record Numeral (w : List ℕ) : Type 0 where
  digits : list_all is_ascii_digit w ≡ true
  some : 0 < length w
  first : slice_index w 0 ≡ 48 → ⊥

and_left : (a b : Bool) → (a && b) ≡ true → a ≡ true
and_left true b h = refl
and_left false b h = h

and_right : (a b : Bool) → (a && b) ≡ true → b ≡ true
and_right true b h = h
and_right false b h = cc

above : (n : ℕ) → not (eqb n 0) ≡ true → 0 < n
above n h = grind (arith, nat_tests)

differs : (n : ℕ) → not (eqb n 48) ≡ true → n ≡ 48 → ⊥
differs n h e = grind (arith, nat_tests)

told : (w : List ℕ) → is_numeral w ≡ true → Numeral w
told w h =
    let rest = and_right (list_all is_ascii_digit w) _ h in
    record {
      digits = and_left (list_all is_ascii_digit w) _ h;
      some = above (length w) (and_left (not (eqb (length w) 0)) _ rest);
      first = differs (slice_index w 0) (and_right (not (eqb (length w) 0)) _ rest);
    }

all_so : (a : Bool) (n first : ℕ) → a ≡ true → 0 < n → 48 < first → (a && (not (eqb n 0) && not (eqb first 48))) ≡ true
all_so a n first digits some more = grind (arith, nat_tests)

numeral : (n : ℕ) → 1 ≤ n → n ≤ 1000 → is_numeral (decimal n) ≡ true
numeral n from to = all_so _ _ _ (digits_decimal own n (omega arith)) (decimal_nonempty n (omega arith)) (first_decimal n (omega arith) (omega arith))

-- ---- what a word spells

ok_is : {E : Type 0} (r : Result ℕ E) (n v : ℕ) (P : Type 0) → OkIff r P v → r ≡ Ok n → P × (n ≡ v)
ok_is (Ok x) n v P h e = (h.0, let same : x ≡ n = cc in sym same ∙ h.1)
ok_is (Err x) n v P h e = cc

pub spelled : {E : Type 0} (w : List ℕ) (r : Result ℕ E) (n : ℕ) → ParsesUnsigned 32 10 w r → is_numeral w ≡ true → r ≡ Ok n → w ≡ decimal n
spelled w r n parses numeral e =
    let is = told w numeral in
    let read = ok_is r n (digits_value 10 w) _ (parse_digits own 32 w r parses is.digits) e in
    sym (ap decimal read.1 ∙ decimal-digits_value own w is.digits is.some (λ zero. absurd (is.first zero)) (omega (arith, read.0.1)))

pub not_numeral : (w : List ℕ) → is_numeral w ≡ false → (n : ℕ) → 1 ≤ n → n ≤ 1000 → w ≡ decimal n → ⊥
not_numeral w other n from to e = (let is : is_numeral w ≡ true = ap is_numeral e ∙ numeral n from to in cc)

pub parsed : {E : Type 0} (w : List ℕ) (r : Result ℕ E) (n : ℕ) → ParsesUnsigned 32 10 w r → 1 ≤ n → n ≤ 1000 → w ≡ decimal n → r ≡ Ok n
parsed w r n parses from to e = parse-decimal 32 n w r (omega arith) (omega arith) e parses
