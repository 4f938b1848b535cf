-- The bytes of a file after a write: cut or filled up with zeros, and written over.
use Rattle.std.proofs.Common.{◌≡◌, ℕ, ◌+◌, ◌-◌, ◌<◌, ◌≤◌, inl, inr, ◌++◌, List, length, get_or, take, drop, refl, sym, ◌∙◌, ap, subst, arith, length-append, length-drop}
use Rattle.std.specs.Prelude.{replicate}
use Rattle.std.proofs.lemmas.List.{get_or-append-add, get_or_append_left, get_or-take, get_or-drop, get_or-replicate, get_or_past, length-replicate, length-take}
use Rattle.std.proofs.Math.Seq.{take-append_seam}
use Rattle.std.proofs.lemmas.List.FromFn.{fill_by_all}
use Rattle.std.proofs.lemmas.Bool.{cases_lt}
use Rattle.std.proofs.lemmas.Bool.Decides.{nat_tests}
use Rattle.kb_ops.specs.Trees.{patched_byte, patched}

patched_before : (old : List ℕ) (offset : ℕ) (bytes : List ℕ) (i : ℕ) → i < offset → patched_byte old offset bytes i ≡ get_or old i 0
patched_before old offset bytes i h = grind (arith, nat_tests)

patched_in : (old : List ℕ) (offset : ℕ) (bytes : List ℕ) (i j : ℕ) → i ≡ offset + j → j < length bytes → patched_byte old offset bytes i ≡ get_or bytes j 0
patched_in old offset bytes i j e h = grind (arith, nat_tests)

patched_after : (old : List ℕ) (offset : ℕ) (bytes : List ℕ) (i : ℕ) → offset + length bytes ≤ i → patched_byte old offset bytes i ≡ get_or old i 0
patched_after old offset bytes i h = grind (arith, nat_tests)

-- a byte behind the first so many, which have a length of their own
behind : (xs ys : List ℕ) (n k j : ℕ) → length xs ≡ n → k ≡ n + j → get_or (xs ++ ys) k 0 ≡ get_or ys j 0
behind xs ys n k j size e =
    let at : length xs + j ≡ k = omega (arith, size, e) in
    subst (λ m. get_or (xs ++ ys) m 0 ≡ get_or ys j 0) at (get_or-append-add xs ys j 0)

module _ (old : List ℕ) (size : ℕ) where
  -- cut, or filled up with zeros
  abbrev pub resized : List ℕ
  resized = take size old ++ replicate (size - length old) 0

  pub length-resized : length resized ≡ size
  length-resized =
      let a = length-append (take size old) (replicate (size - length old) 0) in
      let b = length-replicate {A = ℕ} (size - length old) 0 in
      let c = length-take size old in
      omega arith

  resized_at : (k : ℕ) → k < size → get_or resized k 0 ≡ get_or old k 0
  resized_at k low = elim (cases_lt k (length old)) [
    | inl inside ↦
        let l = length-take size old in
        let here : k < length (take size old) = omega (arith, l, inside, low) in
        get_or_append_left (take size old) (replicate (size - length old) 0) 0 k here ∙ get_or-take size old k 0 low
    | inr past ↦
        let l = length-take size old in
        let all : length (take size old) ≡ length old = omega (arith, l, past, low) in
        let at : k ≡ length old + (k - length old) = omega (arith, past) in
        let lt : k - length old < size - length old = omega (arith, past, low) in
        behind (take size old) (replicate (size - length old) 0) (length old) k (k - length old) all at
        ∙ get_or-replicate (size - length old) (k - length old) 0 0 lt
        ∙ sym (get_or_past old k 0 past)
  ]

  module _ (offset : ℕ) (bytes : List ℕ) (within : offset + length bytes ≤ size) where
    abbrev whole : List ℕ
    whole = take offset resized ++ (bytes ++ drop (offset + length bytes) resized)

    length-front : length (take offset resized) ≡ offset
    length-front = let a = length-take offset resized in omega (arith, a, length-resized, within)

    length-whole : length whole ≡ size
    length-whole =
        let a = length-append (take offset resized) (bytes ++ drop (offset + length bytes) resized) in
        let b = length-append bytes (drop (offset + length bytes) resized) in
        let c = length-drop (offset + length bytes) resized in
        omega (arith, a, b, c, length-front, length-resized, within)

    byte_at : (k : ℕ) → k < size → get_or whole k 0 ≡ patched_byte old offset bytes k
    byte_at k low = elim (cases_lt k offset) [
      | inl before ↦
          let here : k < length (take offset resized) = omega (arith, length-front, before) in
          get_or_append_left (take offset resized) (bytes ++ drop (offset + length bytes) resized) 0 k here
          ∙ get_or-take offset resized k 0 before
          ∙ resized_at k low
          ∙ sym (patched_before old offset bytes k before)
      | inr at ↦
          let j = k - offset in
          let e : k ≡ offset + j = omega (arith, at) in
          behind (take offset resized) (bytes ++ drop (offset + length bytes) resized) offset k j length-front e
          ∙ elim (cases_lt j (length bytes)) [
            | inl inside ↦ get_or_append_left bytes (drop (offset + length bytes) resized) 0 j inside ∙ sym (patched_in old offset bytes k j e inside)
            | inr past ↦
                let i = j - length bytes in
                let f : j ≡ length bytes + i = omega (arith, past) in
                let g : offset + length bytes + i ≡ k = omega (arith, e, f) in
                let end : offset + length bytes ≤ k = omega (arith, g) in
                behind bytes (drop (offset + length bytes) resized) (length bytes) j i refl f
                ∙ get_or-drop (offset + length bytes) resized i 0
                ∙ ap (λ m. get_or resized m 0) g
                ∙ resized_at k low
                ∙ sym (patched_after old offset bytes k end)
          ]
    ]

    pub whole_patched : whole ≡ patched old offset bytes size
    whole_patched = fill_by_all (patched_byte old offset bytes) whole size 0 length-whole (λ k low. let lt : k < size = omega (arith, low, length-whole) in byte_at k lt)

    -- in a buffer whose bytes are given back
    pub given_back : (kept slice new : List ℕ) (count : ℕ) → count ≡ length kept → kept ≡ resized → slice ≡ kept → new ≡ take offset slice ++ (bytes ++ drop (offset + length bytes) slice) → take count (new ++ drop (length new) kept) ≡ patched old offset bytes size
    given_back kept slice new count counted is same over =
        let new_is : new ≡ whole = over ∙ ap (λ l. take offset l ++ (bytes ++ drop (offset + length bytes) l)) (same ∙ is) in
        let full : count ≡ length new = counted ∙ ap length is ∙ length-resized ∙ sym length-whole ∙ sym (ap length new_is) in
        ap (λ n. take n (new ++ drop (length new) kept)) full
        ∙ take-append_seam new (drop (length new) kept)
        ∙ new_is
        ∙ whole_patched
