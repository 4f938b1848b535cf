-- Lines and words. The lines of a script are std's `lines`.
use Rattle.std.specs.Prelude.{ℕ, Bool, true, not, ◌==◌, List, [], ◌∷◌, length, filter, slice_index, slice_index_or}
use Rattle.std.specs.List.{slice_split}

-- what spaces separate
abbrev pub words_of : List ℕ → List (List ℕ)
words_of line = filter (λ word. not (length word == 0)) (slice_split (λ b. b == 32) line)

-- the word at this place, from 0
abbrev pub word : List (List ℕ) → ℕ → List ℕ
word words i = slice_index_or words i []

-- no words, or the first begins with `#`
abbrev pub is_comment : List (List ℕ) → Bool
is_comment [] = true
is_comment (first ∷ others) = slice_index first 0 == 35
