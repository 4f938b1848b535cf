-- The bytes of a file after a write, part by part.
use Rattle.std.proofs.Common.{◌≡◌, ℕ, ◌+◌, ◌-◌, ◌<◌, ◌≤◌, ◌⊎◌, inl, inr, min, List, [], ◌++◌, length, take, drop, get_or, ap, sym, ◌∙◌, arith, length-append}
use Rattle.std.specs.Prelude.{replicate}
use Rattle.std.proofs.lemmas.Bool.{cases_lt}
use Rattle.std.proofs.lemmas.Bool.Decides.{nat_tests}
use Rattle.std.proofs.lemmas.List.{get_or-take, get_or-drop, get_or_append_left, get_or-append_right, get_or-replicate, length-take, length-drop, length-replicate, ext_get_or, get_or_past}
use Rattle.std.proofs.lemmas.List.FromFn.{get_or-map-range_with_len, length-map-range_with_len}
use Rattle.kb_edge.specs.Disk.{overlay}
use Rattle.kb_ops.specs.Trees.{patched_byte, patched}

byte_before : (old : List ℕ) (offset : ℕ) (bytes : List ℕ) (i : ℕ) → i < offset → patched_byte old offset bytes i ≡ get_or old i 0
byte_before old offset bytes i h = grind (arith, nat_tests)

byte_in : (old : List ℕ) (offset : ℕ) (bytes : List ℕ) (i j : ℕ) → i ≡ offset + j → j < length bytes → patched_byte old offset bytes i ≡ get_or bytes j 0
byte_in old offset bytes i j e h = grind (arith, nat_tests)

byte_after : (old : List ℕ) (offset : ℕ) (bytes : List ℕ) (i : ℕ) → offset + length bytes ≤ i → patched_byte old offset bytes i ≡ get_or old i 0
byte_after old offset bytes i h = grind (arith, nat_tests)

-- a byte is before the write, in it, or behind it
byte_cases : (offset count i : ℕ) → (P : Type 0) → (i < offset → P) → ((j : ℕ) → i ≡ offset + j → j < count → P) → (offset ≤ i → offset + count ≤ i → P) → P
byte_cases offset count i P before within after = elim (cases_lt i offset) as (λ _. P) [
  | inl low ↦ before low
  | inr high ↦ elim (cases_lt i (offset + count)) as (λ _. P) [
    | inl here ↦ within (i - offset) (omega arith) (omega arith)
    | inr past ↦ after high past
  ]
]

pub length-patched : (old : List ℕ) (offset : ℕ) (bytes : List ℕ) (size : ℕ) → length (patched old offset bytes size) ≡ size
length-patched old offset bytes size = length-map-range_with_len (patched_byte old offset bytes) 0 size

get_or-patched : (old : List ℕ) (offset : ℕ) (bytes : List ℕ) (size i : ℕ) → i < size → get_or (patched old offset bytes size) i 0 ≡ patched_byte old offset bytes i
get_or-patched old offset bytes size i h = get_or-map-range_with_len (patched_byte old offset bytes) 0 size i i 0 h (omega arith)

front_byte : (k : ℕ) (old : List ℕ) (offset : ℕ) (bytes : List ℕ) (i : ℕ) → i < k → patched_byte old offset bytes i ≡ patched_byte (take k old) offset (take (k - offset) bytes) i
front_byte k old offset bytes i h = byte_cases offset (length bytes) i (patched_byte old offset bytes i ≡ patched_byte (take k old) offset (take (k - offset) bytes) i)
    (λ low. byte_before old offset bytes i low ∙ sym (get_or-take k old i 0 h) ∙ sym (byte_before (take k old) offset (take (k - offset) bytes) i low))
    (λ j e within. let less : j < k - offset = omega arith in let long = length-take (k - offset) bytes in byte_in old offset bytes i j e within ∙ sym (get_or-take (k - offset) bytes j 0 less) ∙ sym (byte_in (take k old) offset (take (k - offset) bytes) i j e (omega arith)))
    (λ high past. let long = length-take (k - offset) bytes in byte_after old offset bytes i past ∙ sym (get_or-take k old i 0 h) ∙ sym (byte_after (take k old) offset (take (k - offset) bytes) i (omega arith)))

behind_byte : (k : ℕ) (old : List ℕ) (offset : ℕ) (bytes : List ℕ) (i : ℕ) → patched_byte old offset bytes (k + i) ≡ patched_byte (drop k old) (offset - k) (drop (k - offset) bytes) i
behind_byte k old offset bytes i = byte_cases offset (length bytes) (k + i) (patched_byte old offset bytes (k + i) ≡ patched_byte (drop k old) (offset - k) (drop (k - offset) bytes) i)
    (λ low. byte_before old offset bytes (k + i) low ∙ sym (get_or-drop k old i 0) ∙ sym (byte_before (drop k old) (offset - k) (drop (k - offset) bytes) i (omega arith)))
    (λ j e within.
    let long = length-drop (k - offset) bytes in
    let m = j - (k - offset) in
    let place : (k - offset) + m ≡ j = omega arith in
    byte_in old offset bytes (k + i) j e within ∙ ap (λ n. get_or bytes n 0) (sym place) ∙ sym (get_or-drop (k - offset) bytes m 0) ∙ sym (byte_in (drop k old) (offset - k) (drop (k - offset) bytes) i m (omega arith) (omega arith)))
    (λ high past. let long = length-drop (k - offset) bytes in byte_after old offset bytes (k + i) past ∙ sym (get_or-drop k old i 0) ∙ sym (byte_after (drop k old) (offset - k) (drop (k - offset) bytes) i (omega arith)))

-- the first bytes, and those behind them
pub patched_front : (k : ℕ) (old : List ℕ) (offset : ℕ) (bytes : List ℕ) (size : ℕ) → take k (patched old offset bytes size) ≡ patched (take k old) offset (take (k - offset) bytes) (min k size)
patched_front k old offset bytes size =
    let long = length-take k (patched old offset bytes size) ∙ ap (min k) (length-patched old offset bytes size) in
    ext_get_or 0 (take k (patched old offset bytes size)) (patched (take k old) offset (take (k - offset) bytes) (min k size)) (long ∙ sym (length-patched (take k old) offset (take (k - offset) bytes) (min k size)))
    (λ i h.
    let low : i < k = omega arith in
    let within : i < size = omega arith in
    get_or-take k (patched old offset bytes size) i 0 low ∙ get_or-patched old offset bytes size i within ∙ front_byte k old offset bytes i low ∙ sym (get_or-patched (take k old) offset (take (k - offset) bytes) (min k size) i (omega arith)))

pub patched_behind : (k : ℕ) (old : List ℕ) (offset : ℕ) (bytes : List ℕ) (size : ℕ) → drop k (patched old offset bytes size) ≡ patched (drop k old) (offset - k) (drop (k - offset) bytes) (size - k)
patched_behind k old offset bytes size =
    let long = length-drop k (patched old offset bytes size) ∙ ap (λ n. n - k) (length-patched old offset bytes size) in
    ext_get_or 0 (drop k (patched old offset bytes size)) (patched (drop k old) (offset - k) (drop (k - offset) bytes) (size - k)) (long ∙ sym (length-patched (drop k old) (offset - k) (drop (k - offset) bytes) (size - k)))
    (λ i h.
    let within : k + i < size = omega arith in
    let less : i < size - k = omega arith in
    get_or-drop k (patched old offset bytes size) i 0 ∙ get_or-patched old offset bytes size (k + i) within ∙ behind_byte k old offset bytes i ∙ sym (get_or-patched (drop k old) (offset - k) (drop (k - offset) bytes) (size - k) i less))

-- no byte is written: it doesn't matter where
none_byte : (old : List ℕ) (offset : ℕ) (bytes : List ℕ) (i : ℕ) → bytes ≡ [] → patched_byte old offset bytes i ≡ get_or old i 0
none_byte old offset bytes i none =
    let long = ap length none in
    elim (cases_lt i offset) as (λ _. patched_byte old offset bytes i ≡ get_or old i 0) [
      | inl low ↦ byte_before old offset bytes i low
      | inr high ↦ byte_after old offset bytes i (omega arith)
    ]

pub patched_same : (old : List ℕ) (offset : ℕ) (bytes : List ℕ) (size : ℕ) → bytes ≡ [] → length old ≡ size → patched old offset bytes size ≡ old
patched_same old offset bytes size none same =
    let long = length-patched old offset bytes size in
    ext_get_or 0 (patched old offset bytes size) old (long ∙ sym same) (λ i h. get_or-patched old offset bytes size i (omega arith) ∙ none_byte old offset bytes i none)

-- a write that begins behind a part has no byte in it
pub patched_from : (old : List ℕ) (offset at : ℕ) (bytes : List ℕ) (size : ℕ) → (offset ≡ at) ⊎ (bytes ≡ []) → patched old offset bytes size ≡ patched old at bytes size
patched_from old offset at bytes size (inl e) = ap (λ n. patched old n bytes size) e
patched_from old offset at bytes size (inr none) =
    let long = length-patched old offset bytes size in
    ext_get_or 0 (patched old offset bytes size) (patched old at bytes size) (long ∙ sym (length-patched old at bytes size))
    (λ i h. let low : i < size = omega arith in get_or-patched old offset bytes size i low ∙ none_byte old offset bytes i none ∙ sym (none_byte old at bytes i none) ∙ sym (get_or-patched old at bytes size i low))

-- where all old bytes that stay are written over, they don't matter
pub patched_over : (old leaf : List ℕ) (offset : ℕ) (bytes : List ℕ) (size : ℕ) → leaf ≡ [] → offset ≡ 0 → min (length old) size ≤ length bytes → patched leaf offset bytes size ≡ patched old offset bytes size
patched_over old leaf offset bytes size none start over =
    let empty = ap length none in
    let long = length-patched leaf offset bytes size in
    ext_get_or 0 (patched leaf offset bytes size) (patched old offset bytes size) (long ∙ sym (length-patched old offset bytes size))
    (λ i h.
    let low : i < size = omega arith in
    get_or-patched leaf offset bytes size i low
    ∙ byte_cases offset (length bytes) i (patched_byte leaf offset bytes i ≡ patched_byte old offset bytes i) (λ before. absurd (omega arith))
    (λ j e within. byte_in leaf offset bytes i j e within ∙ sym (byte_in old offset bytes i j e within))
    (λ high past. byte_after leaf offset bytes i past ∙ get_or_past leaf i 0 (omega arith) ∙ sym (byte_after old offset bytes i past ∙ get_or_past old i 0 (omega arith)))
    ∙ sym (get_or-patched old offset bytes size i low))

-- the old bytes as far as they stay, and zeros up to the new size
abbrev pub resized : List ℕ → ℕ → List ℕ
resized old size = take size old ++ replicate (size - length old) 0

pub length-resized : (old : List ℕ) (size : ℕ) → length (resized old size) ≡ size
length-resized old size =
    let a = length-append (take size old) (replicate (size - length old) 0) in
    let b = length-take size old in
    let d = length-replicate {A = ℕ} (size - length old) 0 in
    omega arith

resized_byte : (old : List ℕ) (size i : ℕ) → i < size → get_or (resized old size) i 0 ≡ get_or old i 0
resized_byte old size i within = elim (cases_lt i (length old)) as (λ _. get_or (resized old size) i 0 ≡ get_or old i 0) [
  | inl here ↦ let front : i < length (take size old) = omega (arith, length-take size old) in get_or_append_left (take size old) (replicate (size - length old) 0) 0 i front ∙ get_or-take size old i 0 within
  | inr past ↦
      let front : length (take size old) ≡ length old = length-take size old ∙ omega arith in
      let more : i - length old < size - length old = omega arith in
      get_or-append_right (take size old) (replicate (size - length old) 0) (length old) i 0 front past ∙ get_or-replicate (size - length old) (i - length old) 0 0 more ∙ sym (get_or_past old i 0 past)
]

-- bytes that are put over others are those of a write
overlay_byte : (all : List ℕ) (at : ℕ) (bytes : List ℕ) (i : ℕ) → at + length bytes ≤ length all → get_or (overlay all at bytes) i 0 ≡ patched_byte all at bytes i
overlay_byte all at bytes i fits =
    let front : length (take at all) ≡ at = length-take at all ∙ omega arith in
    let both : length (take at all ++ bytes) ≡ at + length bytes = length-append (take at all) bytes ∙ ap (λ n. n + length bytes) front in
    byte_cases at (length bytes) i (get_or (overlay all at bytes) i 0 ≡ patched_byte all at bytes i)
    (λ low.
    let a : i < length (take at all ++ bytes) = omega arith in
    let b : i < length (take at all) = omega arith in
    get_or_append_left (take at all ++ bytes) (drop (at + length bytes) all) 0 i a ∙ get_or_append_left (take at all) bytes 0 i b ∙ get_or-take at all i 0 low ∙ sym (byte_before all at bytes i low))
    (λ j e within.
    let a : i < length (take at all ++ bytes) = omega arith in
    let place : i - at ≡ j = omega arith in
    get_or_append_left (take at all ++ bytes) (drop (at + length bytes) all) 0 i a ∙ get_or-append_right (take at all) bytes at i 0 front (omega arith) ∙ ap (λ n. get_or bytes n 0) place ∙ sym (byte_in all at bytes i j e within))
    (λ high past.
    let place : (at + length bytes) + (i - (at + length bytes)) ≡ i = omega arith in
    get_or-append_right (take at all ++ bytes) (drop (at + length bytes) all) (at + length bytes) i 0 both past ∙ get_or-drop (at + length bytes) all (i - (at + length bytes)) 0 ∙ ap (λ n. get_or all n 0) place ∙ sym (byte_after all at bytes i past))

same_byte : (all old : List ℕ) (offset : ℕ) (bytes : List ℕ) (i : ℕ) → get_or all i 0 ≡ get_or old i 0 → patched_byte all offset bytes i ≡ patched_byte old offset bytes i
same_byte all old offset bytes i same = byte_cases offset (length bytes) i (patched_byte all offset bytes i ≡ patched_byte old offset bytes i)
    (λ low. byte_before all offset bytes i low ∙ same ∙ sym (byte_before old offset bytes i low))
    (λ j e within. byte_in all offset bytes i j e within ∙ sym (byte_in old offset bytes i j e within))
    (λ high past. byte_after all offset bytes i past ∙ same ∙ sym (byte_after old offset bytes i past))

pub overlay_patched : (old : List ℕ) (offset : ℕ) (bytes : List ℕ) (size : ℕ) → offset + length bytes ≤ size → overlay (resized old size) offset bytes ≡ patched old offset bytes size
overlay_patched old offset bytes size fits =
    let all = resized old size in
    let size_is = length-resized old size in
    let a = length-append (take offset all ++ bytes) (drop (offset + length bytes) all) in
    let b = length-append (take offset all) bytes in
    let d = length-take offset all in
    let e = length-drop (offset + length bytes) all in
    let long : length (overlay all offset bytes) ≡ size = omega arith in
    ext_get_or 0 (overlay all offset bytes) (patched old offset bytes size) (long ∙ sym (length-patched old offset bytes size))
    (λ i h.
    let low : i < size = omega arith in
    overlay_byte all offset bytes i (omega arith) ∙ same_byte all old offset bytes i (resized_byte old size i low) ∙ sym (get_or-patched old offset bytes size i low))

-- the buffer after each step
pub grown : (old bytes : List ℕ) (offset size : ℕ) (none front a b new : List ℕ) → offset + length bytes ≤ size → none ≡ [] → front ≡ take size old → a ≡ none ++ front → b ≡ a ++ replicate (size - length a) 0 → new ≡ overlay b offset bytes → new ≡ patched old offset bytes size
grown old bytes offset size none front a b new fits n f p q r =
    let a_is : a ≡ take size old = p ∙ ap (λ x. x ++ front) n ∙ f in
    let left : size - length (take size old) ≡ size - length old = omega (arith, length-take size old) in
    let b_is : b ≡ resized old size = q ∙ ap (λ x. x ++ replicate (size - length x) 0) a_is ∙ ap (λ k. take size old ++ replicate k 0) left in
    r ∙ ap (λ x. overlay x offset bytes) b_is ∙ overlay_patched old offset bytes size fits
