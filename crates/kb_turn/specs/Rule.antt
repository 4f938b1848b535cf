-- The rule of the turn: what holds of the words, the value at home and all views between any two steps.
-- Word 0 is the length of the list. Word 1 is 0 while the value is at home, and 1 while a pass has it.
use Rattle.std.specs.Prelude.{◌≡◌, ℕ, ◌<◌, ◌≤◌, true, false, List, [], ◌∷◌, length, All, Option, Some}
use mathlib.Core.Option.{some, none}
use mathlib.Core.Option as maybe
use mathlib.Core.List.{IsPrefix}
use lib.ListN.{get_elem?}
use Rattle.atomic_table.specs.Table.{State}
use Rattle.kb_turn.specs.declared.view.View.{View}
use Rattle.kb_turn.specs.Views.{Among, of, numbers_of, Weighed}

-- who has the turn: nobody, with the value at home, or the seat of this number
pub data Phase (T : Type 0) : Type 0 where
  home : T → Phase T
  out : ℕ → Phase T

abbrev pub word_of : {T : Type 0} → Phase T → ℕ
word_of (home x) = 0
word_of (out j) = 1

abbrev pub home_of : {T : Type 0} → Phase T → maybe.Option (Option T)
home_of (home x) = some (Some x)
home_of (out j) = none

module _ {E : Type 0} (number_of : E → ℕ) where
  -- a list that was kept begins what was seen, which has no more entries of its numbers
  abbrev pub Kept : View E → List ℕ × List E → Type 0
  Kept v p = IsPrefix p.1 v.seen × ((k : ℕ) → 0 < k → Among k p.0 → of number_of k v.seen ≡ of number_of k p.1)

  -- what a view knows is true of the list
  pub record Fits (list : List E) (v : View E) : Type 0 where
    pub begins : IsPrefix v.seen list
    pub below : v.loaded ≤ length list
    pub mine : (k : ℕ) → 0 < k → Among k (numbers_of v) → of number_of k list ≡ of number_of k v.seen
    pub lists : All (Kept v) v.kept
    pub later : 0 < v.next → (k : ℕ) → v.next ≤ k → of number_of k list ≡ []

  -- no entry carries a number above that of the callers. The entries that the turn began with carry the number 0
  abbrev pub AreNumbered : ℕ → List E → Type 0
  AreNumbered callers list = All (λ e. number_of e ≤ callers) list

module _ {T E : Type 0} (told : T → List E) (number_of : E → ℕ) where
  -- Nobody has the turn, and the value stands for the list; or one seat alone has it, and has seen the list
  abbrev pub Turned : List E → List (View E) → Phase T → Type 0
  Turned list views (home x) = (told x ≡ list) × ((j : ℕ) (v : View E) → get_elem? views j ≡ some v → v.holds ≡ false)
  Turned list views (out i) = ((v : View E) × (get_elem? views i ≡ some v) × (v.holds ≡ true) × (v.seen ≡ list)) × ((j : ℕ) (v : View E) → get_elem? views j ≡ some v → v.holds ≡ true → j ≡ i)

  -- There is a list, which the words and the turn go by and each view fits. A number is of one view at most,
  -- and is below the next one to be handed out
  pub record Rule (callers : ℕ) (s : State (Option T) (View E)) : Type 0 where
    pub list : List E
    pub phase : Phase T
    pub words : s.words ≡ length list ∷ word_of phase ∷ []
    pub homes : s.homes ≡ home_of phase ∷ []
    pub turn : Turned list s.views phase
    pub marked : AreNumbered number_of callers list
    pub fits : (j : ℕ) (v : View E) → get_elem? s.views j ≡ some v → Fits number_of list v
    pub low : (j : ℕ) (v : View E) → get_elem? s.views j ≡ some v → v.number ≤ callers
    pub apart : (i j : ℕ) (v w : View E) → get_elem? s.views i ≡ some v → get_elem? s.views j ≡ some w → (k : ℕ) → 0 < k → Among k (numbers_of v) → Among k (numbers_of w) → i ≡ j
    pub hands : (i j : ℕ) (v w : View E) → get_elem? s.views i ≡ some v → get_elem? s.views j ≡ some w → 0 < v.next → ((k : ℕ) → 0 < k → Among k (numbers_of w) → k < v.next) × (0 < w.next → i ≡ j)

  -- the rule, and: the shares of all views are as many as there were callers, and a view with no share has not the turn
  pub record Whole (callers : ℕ) (s : State (Option T) (View E)) : Type 0 where
    pub rule : Rule callers s
    pub shares : Weighed callers s.views
    pub alive : (j : ℕ) (v : View E) → get_elem? s.views j ≡ some v → v.holds ≡ true → 0 < v.parts
