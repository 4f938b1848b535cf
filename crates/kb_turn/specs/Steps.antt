-- What each step tells the pass that makes it: the view before, the word that was read, and the view after.
use Rattle.std.specs.Prelude.{◌≡◌, ℕ, ◌<◌, ◌≤◌, List, [], ◌∷◌, length, All, Option, Some, None}
use mathlib.Core.List.{IsPrefix}
use Rattle.atomic_table.specs.Table.{Me, Step}
use Rattle.kb_turn.specs.declared.view.View.{View}
use Rattle.kb_turn.specs.Views.{Among, of, numbers_of, taking, missing, seeing, leaving, loading}
use Rattle.kb_turn.specs.Rule.{Kept}

module _ {E : Type 0} (number_of : E → ℕ) where
  -- the list xs begins with what was seen, is as long as each count that was loaded, and has no more entries of the view's numbers
  pub record Follows (v : View E) (xs : List E) : Type 0 where
    pub begins : IsPrefix v.seen xs
    pub reaches : v.loaded ≤ length xs
    pub mine : (k : ℕ) → 0 < k → Among k (numbers_of v) → of number_of k xs ≡ of number_of k v.seen

  -- what is seen later begins with what was seen, and has no more entries of the numbers, which are kept
  pub record Leads (v w : View E) : Type 0 where
    pub begins : IsPrefix v.seen w.seen
    pub mine : (k : ℕ) → 0 < k → Among k (numbers_of v) → of number_of k w.seen ≡ of number_of k v.seen
    pub numbers : (k : ℕ) → Among k (numbers_of v) → Among k (numbers_of w)
    pub loaded : v.loaded ≤ w.loaded

  -- a load of word 0
  abbrev pub counted : {T : Type 0} → Step (Option T) → Me (Option T) (View E) → ℕ → Me (Option T) (View E) → Type 0
  counted st m r m' = (m' ≡ (loading m.0 r, m.1)) × (length m.0.seen ≤ r) × All (Kept number_of m.0) m.0.kept

module _ {T E : Type 0} (told : T → List E) where
  -- the list of the value that is out
  abbrev pub told_by : List (ℕ × Option T) → List E
  told_by [] = []
  told_by ((k, None) ∷ c) = []
  told_by ((k, Some x) ∷ c) = told x

  -- a count up of word 0
  abbrev pub counted_up : Step (Option T) → Me (Option T) (View E) → ℕ → Me (Option T) (View E) → Type 0
  counted_up st m r m' = (r ≡ length m.0.seen) × (m' ≡ (seeing m.0 (told_by m.1), m.1))

module _ {T E : Type 0} (told : T → List E) (number_of : E → ℕ) where
  -- the turn was at home with a value whose list follows what was seen, and the pass has them
  abbrev pub Won : Me (Option T) (View E) → Me (Option T) (View E) → Type 0
  Won m m' = (x : T) × (m' ≡ (taking m.0 (told x), (0, Some x) ∷ m.1)) × Follows number_of m.0 (told x)

  -- a compare and exchange of word 1, from 0 to 1
  abbrev pub claimed : Step (Option T) → Me (Option T) (View E) → ℕ → Me (Option T) (View E) → Type 0
  claimed st m r m' = (r ≡ 0 → Won m m') × (0 < r → m' ≡ (missing m.0, m.1))

-- a swap of word 1 from 1 to 0
abbrev pub released : {T E : Type 0} → Step (Option T) → Me (Option T) (View E) → ℕ → Me (Option T) (View E) → Type 0
released st m r m' = m' ≡ (leaving m.0, [])
