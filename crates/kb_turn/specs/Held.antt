-- What a clause says of a turn that is held.
use Rattle.std.specs.Prelude.{◌≡◌}
use Rattle.std.specs.Borrow.{MutBor, GName}
use Rattle.kb_turn.specs.declared.told.Told.{Ghosts}
use Rattle.kb_turn.specs.declared.pass.Pass.{Pass}
use Rattle.kb_turn.specs.declared.turn.Turn.{Turn}
use Rattle.kb_turn.specs.declared.held.Held.{Held}
use Rattle.kb_turn.specs.Passes.{HasTurn, IsSamePass, most_counted}

module _ {T E : Type 0} {g : Ghosts T E} where
  abbrev pub value_of : Held T E g → T
  value_of h = h.value

  abbrev pub turn_of : Held T E g → Turn T E
  turn_of h = h.turn.now

  -- the pass that took the turn
  abbrev pub pass_of : Held T E g → Pass T E g
  pass_of h = h.pass.now

  -- which reference to the pass it has
  abbrev pub pass_name : Held T E g → GName
  pass_name h = h.pass.ghost_name

  abbrev pub with_value : Held T E g → T → Held T E g
  with_value h x = record h { value = x }

  -- the pass has the turn
  abbrev pub IsOut : Held T E g → Type 0
  IsOut h = HasTurn (turn_of h) (pass_of h)

  -- the turn t was taken with the pass p
  abbrev pub IsTaken : Turn T E → Pass T E g → Held T E g → Type 0
  IsTaken t p h = (turn_of h ≡ t) × HasTurn t (pass_of h) × IsSamePass p (pass_of h) × (most_counted (pass_of h) ≡ most_counted p)

-- the pass that is left as a held turn ends
abbrev pub pass_left : {T E A B : Type 0} {g : Ghosts T E} → A × (MutBor (Pass T E g) × B) → Pass T E g
pass_left h = h.1.0.now
