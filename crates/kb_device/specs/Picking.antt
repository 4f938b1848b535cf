-- What a pick does to a session.
use Rattle.std.specs.Prelude.{◌≡◌, ◌⊎◌, ℕ, ◌+◌, true, false, List, [], ◌∷◌, Option, Some, None, IsSome, Result, Ok, Err}
use Rattle.kb_ops.specs.declared.rows.Op.{Op}
use Rattle.kb_keys.specs.Rings.{key_at}
use Rattle.kb_snap.specs.Pointers.{Kept}
use Rattle.kb_device.specs.Caches.{Cache, Takes}
use Rattle.kb_device.specs.Left.{PointsAll}
use Rattle.kb_device.specs.Patching.{KeepsStep, StepMakes}
use Rattle.kb_device.specs.Parts.{Flight}
use Rattle.kb_device.specs.Stepping.{IsStepRequest}
use Rattle.kb_device.specs.Inside.{Aloft, Inside, HasDone}
use Rattle.kb_device.specs.declared.answers.PickFault.{PickFault}
use Rattle.kb_device.specs.declared.answers.PickFault.TheVariants.{Closed, InFlight, Branched, Idle, Memory}
use Rattle.kb_device.specs.declared.answers.Picked.{Picked}

-- the flight of a request
abbrev pub flight_in : Picked → Flight
flight_in picked = record { first = picked.seq; count = 1; number = picked.number }

-- the session but for its base table, its pointers, its blocks and its flight
abbrev pub with_flight : Inside → Inside → Option Aloft → Inside
with_flight old new aloft = record old { base = new.base; ahead = new.ahead; kept = new.kept; cache = new.cache; written = new.written; aloft = aloft }

-- the session but for its pointers and its blocks
abbrev pub with_left : Inside → Inside → Inside
with_left old new = record old { kept = new.kept; cache = new.cache }

-- The base table has the first operation of the queue.
pub record GoesAhead (old new : Inside) : Type 0 where
  pub op : Op
  pub rest : List Op
  pub queue : old.journal.queue ≡ op ∷ rest
  pub done : HasDone op old.ahead new.ahead old.base new.base old.kept new.kept old.written new.written

-- A request of the operation, which the base table has already, as the revision behind the known one, and its flight: once the
-- request's blocks are added to some of the cache's that hold what was there before, the flight's pointers hold rows of the base
-- table. All its rows have pointers then. The request's blocks are those of the rows without a pointer, few of a file that was
-- written.
pub record IsMade (sealed signed : List ℕ → List ℕ → List ℕ) (hashed : List ℕ → List ℕ) (secret : List ℕ) (s : Inside) (op : Op) (left : Kept) (cache : Cache) (picked : Picked) (a : Aloft) : Type 0 where
  pub seq : picked.seq ≡ op.seq
  pub number : picked.number ≡ s.journal.known + 1
  pub flight : a.flight ≡ flight_in picked
  pub key : List ℕ
  pub keyed : key_at s.ring s.generation ≡ Some key
  pub made : IsStepRequest sealed signed hashed secret key s.generation picked.number s.journal.hash op s.base left cache (key_at s.ring) s.written picked.request
  pub pointers : KeepsStep sealed hashed cache (key_at s.ring) s.base left op.change s.written picked.request.blocks a.kept
  pub all : PointsAll s.base a.kept
  pub few : StepMakes sealed hashed cache (key_at s.ring) s.generation s.base left op.change s.written picked.request.blocks a.kept

-- A request of the first operation of the queue is given, its flight is kept, and the cache takes its blocks.
pub record Picks (sealed signed : List ℕ → List ℕ → List ℕ) (hashed : List ℕ → List ℕ) (secret : List ℕ) (old : Inside) (picked : Picked) (new : Inside) : Type 0 where
  pub free : old.aloft ≡ None
  pub clear : old.journal.mark ≡ false
  pub ahead : GoesAhead old new
  pub aloft : Aloft
  pub session : new ≡ with_flight old new (Some aloft)
  pub left : Kept
  pub leaves : HasDone ahead.op old.ahead new.ahead old.base new.base old.kept left old.written new.written
  pub made : IsMade sealed signed hashed secret new ahead.op left old.cache picked aloft
  pub takes : Takes hashed old.cache picked.request.blocks new.cache

-- Nothing changed, or the base table went ahead.
abbrev pub MayGoAhead : Inside → Inside → Type 0
MayGoAhead old new = (new ≡ old) ⊎ (GoesAhead old new × (new ≡ with_flight old new old.aloft) × (new.cache ≡ old.cache))

-- what a pick does that gives this answer
abbrev pub PickDoes : (List ℕ → List ℕ → List ℕ) → (List ℕ → List ℕ → List ℕ) → (List ℕ → List ℕ) → List ℕ → Inside → Inside → Result Picked PickFault → Type 0
PickDoes sealed signed hashed secret old new (Ok picked) = Picks sealed signed hashed secret old picked new
PickDoes sealed signed hashed secret old new (Err Closed) = ⊥
PickDoes sealed signed hashed secret old new (Err InFlight) = (new ≡ old) × IsSome old.aloft
PickDoes sealed signed hashed secret old new (Err Branched) = (new ≡ old) × (old.aloft ≡ None) × (old.journal.mark ≡ true)
PickDoes sealed signed hashed secret old new (Err Idle) = (new ≡ old) × (old.aloft ≡ None) × (old.journal.mark ≡ false) × (old.journal.queue ≡ [])
PickDoes sealed signed hashed secret old new (Err Memory) = MayGoAhead old new

-- the first of a queue, or why there is none
abbrev pub FirstOf : List Op → Result Op PickFault → Type 0
FirstOf queue (Ok op) = (rest : List Op) × (queue ≡ op ∷ rest)
FirstOf queue (Err Idle) = queue ≡ []
FirstOf queue (Err Memory) = Unit {0}
FirstOf queue (Err fault) = ⊥
