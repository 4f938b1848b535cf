-- A conflicted name is a name.
use Rattle.std.proofs.Common.{◌≡◌, ℕ, zero, suc, ◌+◌, ◌-◌, ◌/◌, ◌%◌, ◌^◌, ◌<◌, ◌≤◌, nat_le, nat_lt, nat_eq, Bool, true, false, not, ◌&&◌, ◌||◌, cond, inl, inr, List, [], ◌∷◌, ◌++◌, length, take, drop, get_or, codes, decimal, refl, ◌∙◌, arith}
use Rattle.std.specs.List.{list_all}
use Rattle.std.specs.Str.{is_utf8, IsUtf8, IsAscii, IsCharBoundary}
use Rattle.std.proofs.lemmas.Bool.{ne_eqb, le-leb, cases_lt}
use Rattle.std.proofs.lemmas.List.{length-append, length-take, take_all}
use Rattle.std.proofs.lemmas.List.Folds.{list_all-append}
use Rattle.std.proofs.lemmas.Fmt.{length-decimal-le}
use Rattle.std.proofs.lemmas.Str.{IsUtf8-append, IsUtf8-take, IsUtf8-drop, IsUtf8-nil, IsUtf8-from_ascii, IsUtf8-from_is_utf8, is_utf8-from_IsUtf8}
use Rattle.kb_name.specs.Conflicted.{Day, day_of, day_text, extension, stem, ends_character, cut_to, copy_number, dated, added, conflicted_text}
use Rattle.kb_name.specs.Moments.{last_second}
use Rattle.kb_name.specs.Names.{is_plain_text, is_dots, is_name, is_kept_name, is_device_byte, is_device_text, is_device_name}
use Rattle.kb_name.proofs.Apart.{is_digit, digits_of_number, weaker}
use Rattle.kb_name.proofs.Days.{nth_day}
use Rattle.kb_name.proofs.Suffixes.{IsEndFrom, extension_from, extension_short, stem_to}

abbrev is_plain : ℕ → Bool
is_plain b = not (nat_eq b 47) && not (nat_eq b 0)

-- cutting
pub length-cut : (room : ℕ) (bs : List ℕ) → length (cut_to room bs) ≤ room
length-cut zero bs = omega arith
length-cut (suc room) bs =
    elim (ends_character bs (suc room)) as (λ b. ends_character bs (suc room) ≡ b → length (cut_to (suc room) bs) ≤ suc room) [
      | true ↦ λ t. rw (t, cut_to) (omega (arith, length-take (suc room) bs))
      | false ↦ λ t. rw (t, cut_to) (omega (arith, length-cut room bs))
    ] refl

plain-take : (n : ℕ) (bs : List ℕ) → list_all is_plain bs ≡ true → list_all is_plain (take n bs) ≡ true
plain-take zero bs e = refl
plain-take (suc n) [] e = refl
plain-take (suc n) (b ∷ bs) e =
    elim (is_plain b) as (λ t. is_plain b ≡ t → list_all is_plain (take (suc n) (b ∷ bs)) ≡ true) [
      | true ↦ λ t. rw t (plain-take n bs (rw t at e))
      | false ↦ λ t. let f : false ≡ true = rw t at e in cc
    ] refl

plain-drop : (n : ℕ) (bs : List ℕ) → list_all is_plain bs ≡ true → list_all is_plain (drop n bs) ≡ true
plain-drop zero bs e = e
plain-drop (suc n) [] e = refl
plain-drop (suc n) (b ∷ bs) e =
    elim (is_plain b) as (λ t. is_plain b ≡ t → list_all is_plain (drop n bs) ≡ true) [
      | true ↦ λ t. plain-drop n bs (rw t at e)
      | false ↦ λ t. let f : false ≡ true = rw t at e in cc
    ] refl

plain-cut : (room : ℕ) (bs : List ℕ) → list_all is_plain bs ≡ true → list_all is_plain (cut_to room bs) ≡ true
plain-cut zero bs e = refl
plain-cut (suc room) bs e =
    elim (ends_character bs (suc room)) as (λ b. ends_character bs (suc room) ≡ b → list_all is_plain (cut_to (suc room) bs) ≡ true) [
      | true ↦ λ t. rw (t, cut_to) (plain-take (suc room) bs e)
      | false ↦ λ t. rw (t, cut_to) (plain-cut room bs e)
    ] refl

boundary_at : (b : ℕ) → not (nat_le 128 b && nat_lt b 192) ≡ true → 128 ≤ b → 192 ≤ b
boundary_at b t h = grind arith

utf8-taken : (n : ℕ) (bs : List ℕ) → IsUtf8 bs → ends_character bs n ≡ true → IsUtf8 (take n bs)
utf8-taken n bs u t =
    elim (cases_lt (length bs) n) [
      | inl past ↦ rw (take_all n bs (omega arith)) u
      | inr within ↦ IsUtf8-take bs n u (within, λ _ h. boundary_at (get_or bs n 0) t h)
    ]

utf8-cut : (room : ℕ) (bs : List ℕ) → IsUtf8 bs → IsUtf8 (cut_to room bs)
utf8-cut zero bs u = IsUtf8-nil
utf8-cut (suc room) bs u =
    elim (ends_character bs (suc room)) as (λ b. ends_character bs (suc room) ≡ b → IsUtf8 (cut_to (suc room) bs)) [
      | true ↦ λ t. rw (t, cut_to) (utf8-taken (suc room) bs u t)
      | false ↦ λ t. rw (t, cut_to) (utf8-cut room bs u)
    ] refl

-- what is added
digit_plain : (b : ℕ) → is_digit b ≡ true → is_plain b ≡ true
digit_plain b h = grind arith

device_plain : (b : ℕ) → is_device_byte b ≡ true → is_plain b ≡ true
device_plain b h = grind arith

below : (b : ℕ) → nat_lt b 128 ≡ true → b < 128
below b h = grind arith

device_below : (b : ℕ) → is_device_byte b ≡ true → nat_lt b 128 ≡ true
device_below b h = grind arith

digit_below : (b : ℕ) → is_digit b ≡ true → nat_lt b 128 ≡ true
digit_below b h = grind arith

ascii_from : (bs : List ℕ) → list_all (λ b. nat_lt b 128) bs ≡ true → IsAscii bs
ascii_from [] e i = omega arith
ascii_from (b ∷ bs) e zero =
    elim (nat_lt b 128) as (λ t. nat_lt b 128 ≡ t → b < 128) [
      | true ↦ λ t. below b t
      | false ↦ λ t. let f : false ≡ true = rw t at e in cc
    ] refl
ascii_from (b ∷ bs) e (suc i) =
    elim (nat_lt b 128) as (λ t. nat_lt b 128 ≡ t → get_or bs i 0 < 128) [
      | true ↦ λ t. ascii_from bs (rw t at e) i
      | false ↦ λ t. let f : false ≡ true = rw t at e in cc
    ] refl

-- ASCII without a slash and a byte 0
abbrev is_simple : ℕ → Bool
is_simple b = is_plain b && nat_lt b 128

simple_plain : (b : ℕ) → is_simple b ≡ true → is_plain b ≡ true
simple_plain b h = grind arith

simple_below : (b : ℕ) → is_simple b ≡ true → nat_lt b 128 ≡ true
simple_below b h = grind arith

digit_simple : (b : ℕ) → is_digit b ≡ true → is_simple b ≡ true
digit_simple b h = grind arith

device_simple : (b : ℕ) → is_device_byte b ≡ true → is_simple b ≡ true
device_simple b h = grind arith

simple_digit : (n : ℕ) → n < 10 → is_simple (48 + n) ≡ true
simple_digit n h = grind arith

simple_day : (d : Day) → d.year ≤ 9999 → d.month ≤ 12 → d.day ≤ 31 → list_all is_simple (day_text d) ≡ true
simple_day d y m h =
    rw (simple_digit (d.year / 100 / 10) (omega arith), simple_digit ((d.year / 100) % 10) (omega arith), simple_digit ((d.year % 100) / 10) (omega arith), simple_digit ((d.year % 100) % 10) (omega arith), simple_digit (d.month / 10) (omega arith), simple_digit (d.month % 10) (omega arith), simple_digit (d.day / 10) (omega arith), simple_digit (d.day % 10) (omega arith)) refl

simple_number : (k : ℕ) → k < 2 ^ 64 → list_all is_simple (copy_number k) ≡ true
simple_number k h =
    elim (nat_le k 1) as (λ b. list_all is_simple (cond b [] (32 ∷ decimal k)) ≡ true) [
      | true ↦ refl
      | false ↦ weaker is_digit is_simple digit_simple (decimal k) (digits_of_number k h)
    ]

both : (p : ℕ → Bool) (xs ys : List ℕ) → list_all p xs ≡ true → list_all p ys ≡ true → list_all p (xs ++ ys) ≡ true
both p xs ys ex ey = list_all-append p xs ys ∙ rw (ex, ey) refl

simple_added : (device : List ℕ) (moment k : ℕ) → is_device_text device ≡ true → moment ≤ last_second → k < 2 ^ 64 → list_all is_simple (added device moment k) ≡ true
simple_added device moment k dev last h =
    let d = day_of moment in
    let n = nth_day moment last in
    let day = simple_day d n.year_to n.month_to (omega (arith, n.day_short)) in
    let copy = both is_simple (codes " copy ") (day_text d) refl day in
    let numbered = both is_simple (codes " copy " ++ day_text d) (copy_number k) copy (simple_number k h) in
    let end = both is_simple (codes " copy " ++ day_text d ++ copy_number k) (codes ")") numbered refl in
    let start = both is_simple (codes ".conflicted (") device refl (weaker is_device_byte is_simple device_simple device dev) in
    both is_simple (codes ".conflicted (" ++ device) (dated d k) start end

length_number : (k : ℕ) → k < 2 ^ 64 → length (copy_number k) ≤ 21
length_number k h =
    elim (nat_le k 1) as (λ b. length (cond b [] (32 ∷ decimal k)) ≤ 21) [
      | true ↦ omega arith
      | false ↦ omega (arith, length-decimal-le 20 k (omega arith) (omega arith) h)
    ]

length_dated : (d : Day) (k : ℕ) → k < 2 ^ 64 → length (dated d k) ≤ 38
length_dated d k h =
    omega (arith, length_number k h, length-append (codes " copy " ++ day_text d ++ copy_number k) (codes ")"), length-append (codes " copy " ++ day_text d) (copy_number k))

pub length_added : (device : List ℕ) (moment k : ℕ) → length device ≤ 24 → k < 2 ^ 64 → (length (added device moment k) ≤ 75) × (13 ≤ length (added device moment k))
length_added device moment k short h =
    let a = length-append (codes ".conflicted (" ++ device) (dated (day_of moment) k) in
    let b = length-append (codes ".conflicted (") device in
    let c = length_dated (day_of moment) k h in
    (omega arith, omega arith)

-- parts of a name
name_parts : (a b c d e : Bool) → (not a && (b && (c && (not d && e)))) ≡ true → (b ≡ true) × (c ≡ true) × (e ≡ true)
name_parts false true true false true h = (refl, refl, refl)
name_parts true b c d e h = cc
name_parts false false c d e h = cc
name_parts false true false d e h = cc
name_parts false true true true e h = cc
name_parts false true true false false h = cc

parts_of : (bs : List ℕ) → is_name bs ≡ true → (nat_le (length bs) 255 ≡ true) × (is_plain_text bs ≡ true) × (is_utf8 bs ≡ true)
parts_of bs h = name_parts (nat_eq (length bs) 0) (nat_le (length bs) 255) (is_plain_text bs) (is_dots bs) (is_utf8 bs) h

other : (a b : Bool) → a ≡ false → (a || b) ≡ true → b ≡ true
other true b e h = cc
other false b e h = h

kept_plain : (name : List ℕ) → is_kept_name name ≡ true → list_all is_plain name ≡ true
kept_plain [] h = refl
kept_plain (b ∷ bs) h = (parts_of (b ∷ bs) (other (nat_eq (length (b ∷ bs)) 0) (is_name (b ∷ bs)) (ne_eqb (length (b ∷ bs)) 0 (λ e. omega arith)) h)).1

kept_utf8 : (name : List ℕ) → is_kept_name name ≡ true → IsUtf8 name
kept_utf8 [] h = IsUtf8-nil
kept_utf8 (b ∷ bs) h = IsUtf8-from_is_utf8 (b ∷ bs) (parts_of (b ∷ bs) (other (nat_eq (length (b ∷ bs)) 0) (is_name (b ∷ bs)) (ne_eqb (length (b ∷ bs)) 0 (λ e. omega arith)) h)).2

dot_boundary : (name end : List ℕ) (at : ℕ) → IsEndFrom at name end → IsCharBoundary name at
dot_boundary name end at h = (h.within, λ within high. absurd (omega (arith, h.dot within)))

utf8_stem : (name : List ℕ) → IsUtf8 name → IsUtf8 (stem name)
utf8_stem name u = let found = extension_from name in rw (stem_to name found.0 found.1) (IsUtf8-take name found.0 u (dot_boundary name (extension name) found.0 found.1))

no_dots : (bs : List ℕ) → 3 ≤ length bs → is_dots bs ≡ false
no_dots [] h = absurd (omega arith)
no_dots (a ∷ []) h = absurd (omega arith)
no_dots (a ∷ b ∷ []) h = absurd (omega arith)
no_dots (a ∷ b ∷ c ∷ bs) h = grind arith

utf8_extension : (name : List ℕ) → IsUtf8 name → IsUtf8 (extension name)
utf8_extension name u = let found = extension_from name in rw found.1.is (IsUtf8-drop name found.0 u (dot_boundary name (extension name) found.0 found.1))

plain_stem : (name : List ℕ) → list_all is_plain name ≡ true → list_all is_plain (stem name) ≡ true
plain_stem name p = plain-take (length name - length (extension name)) name p

plain_extension : (name : List ℕ) → list_all is_plain name ≡ true → list_all is_plain (extension name) ≡ true
plain_extension name p = let found = extension_from name in rw found.1.is (plain-drop found.0 name p)

device_parts : (device : List ℕ) → is_device_name device ≡ true → (length device ≤ 24) × (is_device_text device ≡ true)
device_parts device h = grind arith

is_whole : (bs : List ℕ) → 3 ≤ length bs → length bs ≤ 255 → list_all is_plain bs ≡ true → IsUtf8 bs → is_name bs ≡ true
is_whole bs low high plain u =
    rw (ne_eqb (length bs) 0 (λ e. omega arith), le-leb (length bs) 255 high, plain, no_dots bs low, is_utf8-from_IsUtf8 bs u) refl

-- a conflicted name is a name, also that of the root's empty one
pub named : (name device : List ℕ) (moment k : ℕ) → is_kept_name name ≡ true → is_device_name device ≡ true → moment ≤ last_second → k < 2 ^ 64 → is_name (conflicted_text name device moment k) ≡ true
named name device moment k kept dev last h =
    let parts = device_parts device dev in
    let room = 255 - length (added device moment k) - length (extension name) in
    let cut = cut_to room (stem name) in
    let mid = added device moment k in
    let a = length_added device moment k parts.0 h in
    let b = extension_short name in
    let c = length-cut room (stem name) in
    let l1 = length-append (cut ++ mid) (extension name) in
    let l2 = length-append cut mid in
    let simple = simple_added device moment k parts.1 last h in
    let plain = kept_plain name kept in
    let u = kept_utf8 name kept in
    is_whole (conflicted_text name device moment k) (omega arith) (omega arith)
    (both is_plain (cut ++ mid) (extension name) (both is_plain cut mid (plain-cut room (stem name) (plain_stem name plain)) (weaker is_simple is_plain simple_plain mid simple)) (plain_extension name plain))
    (IsUtf8-append (cut ++ mid) (extension name) (IsUtf8-append cut mid (utf8-cut room (stem name) (utf8_stem name u)) (IsUtf8-from_ascii mid (ascii_from mid (weaker is_simple (λ b. nat_lt b 128) simple_below mid simple)))) (utf8_extension name u))
