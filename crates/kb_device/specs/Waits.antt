-- What waits for a device between a pick and its note.
use Rattle.std.specs.Prelude.{◌≡◌, ◌⊎◌, ℕ, Bool, ◌+◌, ◌-◌, ◌≤◌, ◌<◌, [], ◌∷◌, ◌++◌, true, false, Result, List}
use Rattle.kb_snap.specs.Puts.{Ask}
use Rattle.kb_snap.specs.Answers.{PutFault}
use Rattle.kb_snap.specs.Chains.{Chain}
use Rattle.kb_device.specs.Meets.{AskMeets, PutMeets}
use Rattle.kb_device.specs.Parts.{Part}

-- what waits for a device between a pick and its note: a request whose put isn't made yet, or the put's answer
pub data Waiting : Type 0 where
  Nothing : Waiting
  Asked : Ask → Waiting
  Answered : Result ℕ PutFault → Waiting

-- what waits for a device, which is dropped where no session is open
abbrev pub waiting_if : Bool → Waiting → Waiting
waiting_if true waiting = waiting
waiting_if false waiting = Nothing

-- what waits is of the kept flight
abbrev pub WaitingMeets : ℕ → Chain → List ℕ → Part → Waiting → Type 0
WaitingMeets d c name p Nothing = Unit {0}
WaitingMeets d c name p (Asked ask) = AskMeets d c name p ask
WaitingMeets d c name p (Answered answer) = PutMeets d c p answer
