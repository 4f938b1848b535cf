-- Parts of a list, and lists with bytes written over a part, place by place.
use Rattle.std.proofs.Common.{◌≡◌, ◌≤◌, ◌<◌, ◌+◌, ◌-◌, ℕ, List, ◌++◌, length, take, drop, get_or, ap, ◌∙◌, arith}
use Rattle.std.specs.Prelude.{slice_range}
use Rattle.std.proofs.lemmas.List.{length-take, length-take-le, length-drop, length-append, get_or-take, get_or-drop, get_or_append_left, get_or-append_right}
use Rattle.kb_edge.specs.Disk.{overlay}

pub slice_size : (xs : List ℕ) (a b : ℕ) → b ≤ length xs → length (slice_range xs a b) ≡ b - a
slice_size xs a b end = omega (arith, end, length-take (b - a) (drop a xs), length-drop a xs)

pub slice_at : (xs : List ℕ) (a b i j : ℕ) → a + i < b → a + i ≡ j → get_or (slice_range xs a b) i 0 ≡ get_or xs j 0
slice_at xs a b i j lt is = get_or-take (b - a) (drop a xs) i 0 (omega (arith, lt)) ∙ (get_or-drop a xs i 0 ∙ ap (λ k. get_or xs k 0) is)

module _ (xs ys : List ℕ) (at : ℕ) (fits : at + length ys ≤ length xs) where
  front : length (take at xs) ≡ at
  front = length-take-le at xs (omega (arith, fits))

  both : length (take at xs ++ ys) ≡ at + length ys
  both = omega (arith, front, length-append (take at xs) ys)

  pub overlay_size : length (overlay xs at ys) ≡ length xs
  overlay_size = omega (arith, fits, both, length-append (take at xs ++ ys) (drop (at + length ys) xs), length-drop (at + length ys) xs)

  pub overlay_here : (i j : ℕ) → at + j ≡ i → j < length ys → get_or (overlay xs at ys) i 0 ≡ get_or ys j 0
  overlay_here i j is lt =
      get_or_append_left (take at xs ++ ys) (drop (at + length ys) xs) 0 i (omega (arith, both, is, lt))
      ∙ (get_or-append_right (take at xs) ys at i 0 front (omega (arith, is)) ∙ ap (λ k. get_or ys k 0) (omega (arith, is)))

  pub overlay_before : (i : ℕ) → i < at → get_or (overlay xs at ys) i 0 ≡ get_or xs i 0
  overlay_before i lt =
      get_or_append_left (take at xs ++ ys) (drop (at + length ys) xs) 0 i (omega (arith, both, lt))
      ∙ (get_or_append_left (take at xs) ys 0 i (omega (arith, front, lt)) ∙ get_or-take at xs i 0 lt)

  pub overlay_behind : (i : ℕ) → at + length ys ≤ i → get_or (overlay xs at ys) i 0 ≡ get_or xs i 0
  overlay_behind i le =
      get_or-append_right (take at xs ++ ys) (drop (at + length ys) xs) (at + length ys) i 0 both le
      ∙ (get_or-drop (at + length ys) xs (i - (at + length ys)) 0 ∙ ap (λ k. get_or xs k 0) (omega (arith, le)))
