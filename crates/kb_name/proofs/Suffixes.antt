-- Stem and extension of a name.
use Rattle.std.proofs.Common.{◌≡◌, ℕ, suc, ◌-◌, ◌<◌, ◌≤◌, ◌==◌, nat_le, true, false, List, [], ◌∷◌, length, take, drop, get_or, refl, sym, ap, arith}
use Rattle.std.proofs.lemmas.Bool.{eqb-true, leb-true}
use Rattle.std.proofs.lemmas.List.{length-drop, drop_all}
use Rattle.kb_name.specs.Conflicted.{from_last_dot, extension, stem}

-- the text from a place on, which is its end or that of a dot
pub record IsEndFrom (at : ℕ) (xs end : List ℕ) : Type 0 where
  pub within : at ≤ length xs
  pub is : end ≡ drop at xs
  pub dot : at < length xs → get_or xs at 0 ≡ 46

with_first : (x : ℕ) (xs found : List ℕ) (at : ℕ) → found ≡ from_last_dot xs → IsEndFrom at xs found → (n : ℕ) × IsEndFrom n (x ∷ xs) (from_last_dot (x ∷ xs))
with_first x xs [] at e h =
    elim (x == 46) as (λ b. (x == 46) ≡ b → (n : ℕ) × IsEndFrom n (x ∷ xs) (from_last_dot (x ∷ xs))) [
      | true ↦ λ t. (0, record { within = omega arith; is = rw (← e, from_last_dot, t) refl; dot = λ _. eqb-true x 46 t })
      | false ↦ λ t. (length (x ∷ xs), record { within = omega arith; is = rw (← e, from_last_dot, t) (sym (drop_all (length (x ∷ xs)) (x ∷ xs) (omega arith))); dot = λ p. absurd (omega arith) })
    ] refl
with_first x xs (y ∷ ys) at e h =
    (suc at, record { within = omega (arith, h.within); is = rw (← e, from_last_dot) h.is; dot = λ p. h.dot (omega arith) })

pub from_dot : (xs : List ℕ) → (at : ℕ) × IsEndFrom at xs (from_last_dot xs)
from_dot [] = (0, record { within = omega arith; is = refl; dot = λ h. absurd (omega arith) })
from_dot (x ∷ xs) = let (at, h) = from_dot xs in with_first x xs (from_last_dot xs) at refl h

-- an extension is the end of the name from a place on
pub extension_from : (name : List ℕ) → (at : ℕ) × IsEndFrom at name (extension name)
extension_from [] = (0, record { within = omega arith; is = refl; dot = λ h. absurd (omega arith) })
extension_from (x ∷ xs) =
    let found = from_dot xs in
    elim (nat_le (length (from_last_dot xs)) 32) as (λ b. nat_le (length (from_last_dot xs)) 32 ≡ b → (at : ℕ) × IsEndFrom at (x ∷ xs) (extension (x ∷ xs))) [
      | true ↦ λ t. (suc found.0, record { within = omega (arith, found.1.within); is = rw t found.1.is; dot = λ p. found.1.dot (omega arith) })
      | false ↦ λ t. (length (x ∷ xs), record { within = omega arith; is = rw t (sym (drop_all (length (x ∷ xs)) (x ∷ xs) (omega arith))); dot = λ p. absurd (omega arith) })
    ] refl

pub extension_short : (name : List ℕ) → length (extension name) ≤ 32
extension_short name =
    elim (nat_le (length (from_last_dot (drop 1 name))) 32) as (λ b. nat_le (length (from_last_dot (drop 1 name))) 32 ≡ b → length (extension name) ≤ 32) [
      | true ↦ λ t. rw t (leb-true _ _ t)
      | false ↦ λ t. rw t (omega arith)
    ] refl

-- the stem ends where the extension begins
pub stem_to : (name : List ℕ) (at : ℕ) → IsEndFrom at name (extension name) → stem name ≡ take at name
stem_to name at h =
    let n : length name - length (extension name) ≡ at = omega (arith, h.within, ap length h.is, length-drop at name) in
    ap (λ k. take k name) n
