-- Where the last dot of a text stands.
use Rattle.std.proofs.Common.{◌≡◌, ℕ, zero, suc, ◌+◌, ◌-◌, ◌<◌, ◌==◌, cond, List, [], ◌∷◌, length, drop, get_or, refl, sym, ◌∙◌, arith}
use Rattle.std.proofs.lemmas.Bool.{ne_eqb}
use Rattle.std.proofs.lemmas.List.{drop-drop, drop_more}
use Rattle.kb_name.specs.Conflicted.{from_last_dot}

-- a dot further back is the last one of the whole text
last_in_rest : (k : ℕ) (xs : List ℕ) (y : ℕ) (ys : List ℕ) → from_last_dot (drop k xs) ≡ y ∷ ys → from_last_dot xs ≡ y ∷ ys
last_in_rest zero xs y ys e = e
last_in_rest (suc k) [] y ys e = e
last_in_rest (suc k) (x ∷ xs) y ys e = rw (last_in_rest k xs y ys e, from_last_dot) refl

in_front : (b : ℕ) (rest : List ℕ) → from_last_dot rest ≡ [] → from_last_dot (b ∷ rest) ≡ cond (b == 46) (b ∷ rest) []
in_front b rest none = rw (none, from_last_dot) refl

-- a dot with none behind it is the last, of the whole text as of what follows the first byte
pub dot_is_last : (xs : List ℕ) (i : ℕ) → 0 < i → i < length xs → get_or xs i 0 ≡ 46 → from_last_dot (drop (i + 1) xs) ≡ [] → drop i xs ≡ from_last_dot (drop 1 xs)
dot_is_last xs i low h dot none =
    let one : 1 + (i - 1) ≡ i = omega arith in
    let here : from_last_dot (drop i xs) ≡ get_or xs i 0 ∷ drop (i + 1) xs = rw (drop_more xs i 0 h) (in_front (get_or xs i 0) (drop (i + 1) xs) none ∙ rw dot refl) in
    let there : from_last_dot (drop (i - 1) (drop 1 xs)) ≡ get_or xs i 0 ∷ drop (i + 1) xs = rw (drop-drop (i - 1) 1 xs, one) here in
    drop_more xs i 0 h ∙ sym (last_in_rest (i - 1) (drop 1 xs) (get_or xs i 0) (drop (i + 1) xs) there)

-- no dot, and none behind
pub no_dot_more : (xs : List ℕ) (i : ℕ) → i < length xs → (get_or xs i 0 ≡ 46 → ⊥) → from_last_dot (drop (i + 1) xs) ≡ [] → from_last_dot (drop i xs) ≡ []
no_dot_more xs i h dot none = rw (drop_more xs i 0 h) (in_front (get_or xs i 0) (drop (i + 1) xs) none ∙ rw (ne_eqb (get_or xs i 0) 46 dot) refl)
