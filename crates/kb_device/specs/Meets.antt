-- How a device meets the chain: what its part of the machine knows of it. All of this survives revisions of others.
use Rattle.std.specs.Prelude.{◌≡◌, ◌⊎◌, ℕ, ◌+◌, ◌^◌, ◌≤◌, ◌<◌, true, false, List, [], ◌∷◌, ◌++◌, length, take, drop, All, Contains, Option, Some, None, Result, Ok, Err}
use Rattle.kb_ops.specs.declared.rows.Op.{Op}
use Rattle.kb_ops.specs.Trees.{FitAll}
use Rattle.kb_ops.specs.Grammar.{IsProper}
use Rattle.kb_journal.specs.State.{use_of}
use Rattle.kb_snap.specs.Chains.{most_in_step, Stepped, Merged, Revision, Chain, ops_by, ops_of, tree_at}
use Rattle.kb_snap.specs.Members.{roles_at}
use Rattle.kb_snap.specs.Answers.{PutFault}
use Rattle.kb_snap.specs.Puts.{Ask}
use Rattle.kb_device.specs.Journals.{Journal, last_seq}
use Rattle.kb_device.specs.Parts.{Flight, Part, IsOpenAt, ask_of, acknowledged_at}
use Rattle.kb_snap.specs.Lawful.{AreOf, CountsFrom}

-- none of these revisions holds operations of the device
abbrev pub NoneOf : ℕ → Chain → Type 0
NoneOf d c = ops_of d c ≡ []

-- of these revisions the first is a step with so many first operations of the queue, and no other is the device's
pub record IsStep (d : ℕ) (queue : List Op) (count : ℕ) (c : Chain) : Type 0 where
  pub revision : Revision
  pub rest : Chain
  pub split : c ≡ revision ∷ rest
  pub writer : revision.writer ≡ d
  pub deed : revision.deed ≡ Stepped (take count queue)
  pub some : 0 < count
  pub few : count ≤ length queue
  pub none : NoneOf d rest

-- of these revisions one is a merge of the whole queue, and no other is the device's
pub record IsMerge (d : ℕ) (queue : List Op) (c : Chain) : Type 0 where
  pub front : Chain
  pub revision : Revision
  pub rest : Chain
  pub base : ℕ
  pub rule : ℕ
  pub split : c ≡ front ++ revision ∷ rest
  pub writer : revision.writer ≡ d
  pub deed : revision.deed ≡ Merged base rule queue
  pub some : 0 < length queue
  pub before : NoneOf d front
  pub none : NoneOf d rest

-- nothing of the queue has landed, or a step of it has
abbrev pub StepOrNone : ℕ → List Op → Chain → Type 0
StepOrNone d queue c = NoneOf d c ⊎ ((count : ℕ) × IsStep d queue count c)

-- what the device has beyond its known revision
abbrev pub Beyond : ℕ → List Op → Chain → Type 0
Beyond d queue c = StepOrNone d queue c ⊎ IsMerge d queue c

-- A journal that the device with this number may have under the chain: its known revision is there; the device's
-- operations up to it are those before the queue, which goes on with the next seqs, has room for all of them, can be
-- spelled, and fits that revision's tree; and beyond it at most one revision is the device's, and holds the first of the
-- queue.
pub record Meets (d : ℕ) (c : Chain) (j : Journal) : Type 0 where
  pub within : j.known ≤ length c
  pub base : j.base ≡ length (ops_of d (take j.known c))
  pub counts : CountsFrom (j.base + 1) j.queue
  pub own : AreOf d j.queue
  pub fit : FitAll j.queue (tree_at c j.known)
  pub proper : All IsProper j.queue
  pub small : last_seq j < 2 ^ 32
  pub few : length j.queue ≤ 4096
  pub marked : j.mark ≡ true → 0 < length j.queue
  pub started : 0 < length j.queue → 1 ≤ j.known
  pub beyond : Beyond d j.queue (drop j.known c)

-- a flight of the first of the queue, which landed as a step, or didn't
pub record Flying (d : ℕ) (c : Chain) (j : Journal) (flight : Flight) : Type 0 where
  pub first : flight.first ≡ j.base + 1
  pub number : flight.number ≡ j.known + 1
  pub some : 0 < flight.count
  pub few : flight.count ≤ length j.queue
  pub most : flight.count ≤ most_in_step
  pub clear : j.mark ≡ false
  pub landed : NoneOf d (drop j.known c) ⊎ IsStep d j.queue flight.count (drop j.known c)

-- only a flight that is kept may have landed
abbrev pub FlightMeets : ℕ → Chain → Journal → Option Flight → Type 0
FlightMeets d c j None = NoneOf d (drop j.known c)
FlightMeets d c j (Some flight) = Flying d c j flight

-- a session on this journal
pub record SessionMeets (d : ℕ) (c : Chain) (p : Part) (j : Journal) : Type 0 where
  pub journal_is : p.may ≡ j ∷ []
  pub known : 1 ≤ j.known
  pub base : p.base ≡ tree_at c j.known
  pub role : p.role ≡ roles_at c j.known d
  pub flight : FlightMeets d c j p.flight
  pub plan : (n : ℕ) → p.plan ≡ Some n → (j.mark ≡ true) × (j.known ≤ n) × (n ≤ length c)

-- the journal's compacted text fits an area of so many bytes
abbrev pub FitsArea : ℕ → Journal → Type 0
FitsArea area j = use_of j.queue ≤ area

-- the device with this number is at this part under the chain, and each journal fits an area of its disk
pub record PartMeets (d : ℕ) (c : Chain) (p : Part) : Type 0 where
  pub some : 0 < length p.may
  pub may : All (Meets d c) p.may
  pub areas : All (FitsArea p.area) p.may
  pub session : p.is_open ≡ true → (j : Journal) × SessionMeets d c p j
  pub none : p.is_open ≡ false → (p.flight ≡ None) × (p.plan ≡ None)

-- ---- what was acknowledged

-- the device's operations up to the known revision, and then its queue
abbrev pub held : ℕ → Chain → Journal → List Op
held d c j = ops_of d (take j.known c) ++ j.queue

-- A journal that the device had once: it still meets the chain, but for what stands beyond its known revision.
pub record Met (d : ℕ) (c : Chain) (j : Journal) : Type 0 where
  pub within : j.known ≤ length c
  pub base : j.base ≡ length (ops_of d (take j.known c))
  pub counts : CountsFrom (j.base + 1) j.queue
  pub own : AreOf d j.queue
  pub fit : FitAll j.queue (tree_at c j.known)
  pub proper : All IsProper j.queue
  pub small : last_seq j < 2 ^ 32
  pub few : length j.queue ≤ 4096
  pub marked : j.mark ≡ true → 0 < length j.queue
  pub started : 0 < length j.queue → 1 ≤ j.known

-- the revision of this number holds operations of the device
pub record IsOwnAt (d : ℕ) (c : Chain) (n : ℕ) : Type 0 where
  pub front : Chain
  pub revision : Revision
  pub rest : Chain
  pub split : c ≡ front ++ revision ∷ rest
  pub number : n ≡ length front + 1
  pub own : 0 < length (ops_by d revision)

-- A journal has gone on from a kept one: all of the kept queue has left it, or its known revision is the kept one's, or
-- a later one of the device's own.
abbrev pub GoesOn : ℕ → Chain → Journal → Journal → Type 0
GoesOn d c kept j = (last_seq kept ≤ j.base) ⊎ ((j.known ≡ kept.known) ⊎ ((kept.known < j.known) × IsOwnAt d c j.known))

-- a journal went on from another: its queue is wholly behind that one, or the known revision is the same, or a later one of
-- the device's own
abbrev pub Onward : ℕ → Chain → Journal → Journal → Type 0
Onward d c j k = (last_seq j ≤ k.base) ⊎ (((k.known ≡ j.known) × (j.base ≤ k.base)) ⊎ ((j.known < k.known) × IsOwnAt d c k.known × (j.base ≤ k.base)))

-- What the folder's shelf keeps: a journal that the device had once, which holds the first of what was acknowledged, and
-- from which each that an opening may find has gone on.
pub record ShelfMeets (d : ℕ) (c : Chain) (acknowledged : List Op) (may : List Journal) (kept : Journal) : Type 0 where
  pub met : Met d c kept
  pub more : List Op
  pub front : acknowledged ≡ held d c kept ++ more
  pub goes : All (GoesOn d c kept) may

-- Whichever journal an opening finds, it holds what is acknowledged then; and one of them holds nothing else.
pub record Acknowledges (d : ℕ) (c : Chain) (p : Part) : Type 0 where
  pub settled : p.is_open ≡ true → p.stopped ≡ None
  pub held : All (λ j. held d c j ≡ acknowledged_at p j) p.may
  pub without : (j : Journal) × Contains p.may j × (acknowledged_at p j ≡ p.acknowledged)
  pub shelf : (kept : Journal) → p.shelved ≡ Some kept → ShelfMeets d c p.acknowledged p.may kept

-- ---- what waits

-- the answer is that of the kept flight's put
abbrev pub AnswerMeets : ℕ → Chain → Journal → Flight → Result ℕ PutFault → Type 0
AnswerMeets d c j flight (Ok n) = (n ≡ flight.number) × IsStep d j.queue flight.count (drop j.known c)
AnswerMeets d c j flight (Err fault) = NoneOf d (drop j.known c)

-- a flight is kept, whose request is not put yet
pub record AskMeets (d : ℕ) (c : Chain) (name : List ℕ) (p : Part) (ask : Ask) : Type 0 where
  pub journal : Journal
  pub flight : Flight
  pub at : IsOpenAt p journal
  pub flight_is : p.flight ≡ Some flight
  pub ask_is : ask ≡ ask_of d name journal flight
  pub none : NoneOf d (drop journal.known c)

-- a flight is kept, whose put gave this answer
pub record PutMeets (d : ℕ) (c : Chain) (p : Part) (answer : Result ℕ PutFault) : Type 0 where
  pub journal : Journal
  pub flight : Flight
  pub at : IsOpenAt p journal
  pub flight_is : p.flight ≡ Some flight
  pub answers : AnswerMeets d c journal flight answer
