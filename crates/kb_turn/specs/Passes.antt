-- What a clause says of a turn and its passes.
use Rattle.std.specs.Prelude.{◌≡◌, ℕ, ◌+◌, ◌*◌, ◌^◌, ◌<◌, ◌≤◌, true, false, List, [], ◌∷◌, length, All, Option, Some, None, slice_index_or}
use Rattle.atomic_table.specs.Seated.{TableId}
use Rattle.atomic_table.specs.declared.shared.Seat.{Seat}
use Rattle.kb_turn.specs.declared.told.Told.{Ghosts}
use Rattle.kb_turn.specs.declared.pass.Pass.{Pass}
use Rattle.kb_turn.specs.declared.turn.Turn.{Turn}
use Rattle.kb_turn.specs.declared.view.View.{View}
use Rattle.kb_turn.specs.Views.{weight, newcomer}

-- the third view has the shares of the first two
abbrev pub IsSum : {E : Type 0} → View E → View E → View E → Type 0
IsSum v w x = (e : ℕ) → v.halvings ≤ e → w.halvings ≤ e → (x.halvings ≤ e) × (weight e x ≡ weight e v + weight e w)

-- what a turn is told from others by
abbrev pub name_of : {T E : Type 0} → Turn T E → TableId
name_of t = t.table.shared.table_id

-- the name of no turn
abbrev pub no_turn : TableId
no_turn = record { words = 0; slots = 0; views_name = 0; atom = 0; block = 0; offset = 0; slot_names = [] }

-- how many numbers were given out as the turn was made
abbrev pub callers_of : {T E : Type 0} → Turn T E → ℕ
callers_of t = t.table.shared.key.0

-- the seat hands out the number n next, has p shares, and has seen these entries
abbrev pub IsNext : {T E : Type 0} → Turn T E → List E → ℕ → ℕ → Seat (Option T) (View E) → Type 0
IsNext t xs n p s = (s.table_id ≡ name_of t) × (s.me.0.next ≡ n) × (s.me.0.seen ≡ xs) × (s.me.0.parts ≡ p) × (s.me.0.halvings ≡ 0) × (s.me.0.holds ≡ false)

module _ {T E : Type 0} {g : Ghosts T E} where
  -- what the pass knows
  abbrev pub view : Pass T E g → View E
  view p = p.seat.me.0

  -- the list that the pass has seen
  abbrev pub seen : Pass T E g → List E
  seen p = (view p).seen

  -- the number that its entries carry, or 0
  abbrev pub number_of_pass : Pass T E g → ℕ
  number_of_pass p = (view p).number

  -- the greatest number that a count gave it
  abbrev pub most_counted : Pass T E g → ℕ
  most_counted p = (view p).loaded

  -- it is a pass of the turn of this name, and has not the turn
  abbrev pub IsIdleAt : TableId → Pass T E g → Type 0
  IsIdleAt z p = (p.seat.table_id ≡ z) × (p.seat.me.1 ≡ []) × ((view p).holds ≡ false) × ((view p).kept ≡ []) × (0 < (view p).parts)

  -- the same, where it need not have a share: without one it can't take the turn
  abbrev pub IsWatchAt : TableId → Pass T E g → Type 0
  IsWatchAt z p = (p.seat.table_id ≡ z) × (p.seat.me.1 ≡ []) × ((view p).holds ≡ false) × ((view p).kept ≡ [])

  abbrev pub IsWatchOf : Turn T E → Pass T E g → Type 0
  IsWatchOf t p = IsWatchAt (name_of t) p

  -- it is a pass of this turn, and has not the turn
  abbrev pub IsPassOf : Turn T E → Pass T E g → Type 0
  IsPassOf t p = IsIdleAt (name_of t) p

  -- it is a pass of this turn, which it has taken out
  abbrev pub HasTurn : Turn T E → Pass T E g → Type 0
  HasTurn t p = (p.seat.table_id ≡ name_of t) × (p.seat.me.1 ≡ (0, None) ∷ []) × ((view p).holds ≡ true) × ((view p).kept ≡ []) × (0 < (view p).parts)

  -- it is a pass of this turn, which has taken it out, and the value x lies in the turn again
  abbrev pub HasReturned : Turn T E → T → Pass T E g → Type 0
  HasReturned t x p = (p.seat.table_id ≡ name_of t) × (p.seat.me.1 ≡ (0, Some x) ∷ []) × ((view p).holds ≡ true) × ((view p).kept ≡ []) × (0 < (view p).parts)

  -- it is a pass of the same turn, with the same numbers and the same share
  abbrev pub IsSamePass : Pass T E g → Pass T E g → Type 0
  IsSamePass p q = (q.seat.table_id ≡ p.seat.table_id) × (q.seat.id ≡ p.seat.id) × (number_of_pass q ≡ number_of_pass p) × ((view q).gone ≡ (view p).gone) × ((view q).parts ≡ (view p).parts) × ((view q).halvings ≡ (view p).halvings)

  -- the turn was found out: nothing was learnt, and the pass counts one such try more
  abbrev pub FoundOut : Pass T E g → Pass T E g → Type 0
  FoundOut p q = IsSamePass p q × (q.seat.me.1 ≡ p.seat.me.1) × (seen q ≡ seen p) × ((view q).holds ≡ (view p).holds) × ((view q).kept ≡ (view p).kept) × (most_counted q ≡ most_counted p) × ((view q).missed ≡ (view p).missed + 1)

  -- the passes of a new turn that began with the entries xs, in the order of their numbers
  abbrev pub AreDealt : Turn T E → List E → List (Pass T E g) → Type 0
  AreDealt t xs ps = (j : ℕ) (d : Pass T E g) → j < length ps → IsPassOf t (slice_index_or ps j d) × (view (slice_index_or ps j d) ≡ newcomer xs (j + 1))

  abbrev pub total_of : ℕ → List (Pass T E g) → ℕ
  total_of e [] = 0
  total_of e (p ∷ ps) = weight e (view p) + total_of e ps

  -- these are all passes of the turn: their shares are as many as there were callers
  abbrev pub AreAll : Turn T E → List (Pass T E g) → Type 0
  AreAll t ps = (e : ℕ) × All (λ p. (view p).halvings ≤ e) ps × (total_of e ps ≡ callers_of t * 2 ^ e)
