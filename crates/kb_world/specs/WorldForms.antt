-- How a world stands for the plain machine's state, whatever stands for its parts: V are devices, F folders, Q the requests
-- of puts.
use Rattle.std.specs.Prelude.{◌≡◌, ℕ, Bool, true, false, ◌+◌, List, ◌++◌, length, Option, Some, Result, slice_get}
use Rattle.kb_edge.specs.declared.link.Side.{Side}
use Rattle.kb_snap.specs.Chains.{Chain}
use Rattle.kb_snap.specs.Answers.{PutFault}
use Rattle.kb_snap.specs.Puts.{Ask}
use Rattle.kb_device.specs.Parts.{Part}
use Rattle.kb_device.specs.Waits.{Waiting, Nothing, Asked, Answered}
use Rattle.kb_world.specs.Machine.{Member, State}
use Rattle.kb_world.specs.Good.{IsGood}

-- what a world keeps for a device between a pick and its note
pub data Kept (Q : Type 0) : Type 0 where
  Free : Kept Q
  Requested : Q → Kept Q
  Told : Result ℕ PutFault → Kept Q

-- where no session is open, nothing
abbrev pub kept_if : {Q : Type 0} → Bool → Kept Q → Kept Q
kept_if true kept = kept
kept_if false kept = Free

pub record Cell (V Q : Type 0) : Type 0 where
  pub name : List ℕ
  pub device : V
  pub kept : Kept Q
  pub link : Option Side
  pub batch : ℕ

pub record World (V F Q : Type 0) : Type 0 where
  pub folder : F
  pub moment : ℕ
  pub rule : ℕ
  pub cells : List (Cell V Q)

-- Grows f f': the folder f went on to f' by one put, or is f'.
-- DeviceStands d f c v p: the device v with the number d is at the part p under the chain c of the folder f, whose hashes
-- and blocks the device may keep. What the part knows of the chain is not said there: a call may ask for it, and the
-- machine keeps it.
-- FolderStands f c: the folder f has the chain c.
-- RequestStands f q ask: the request q is for this put at the folder f.
module _ {V F Q : Type 0} (Grows : F → F → Type 0) (DeviceStands : ℕ → F → Chain → V → Part → Type 0) (FolderStands : F → Chain → Type 0) (RequestStands : F → Q → Ask → Type 0) where
  -- what is kept for a device stands for what waits
  abbrev pub KeptStands : F → Kept Q → Waiting → Type 0
  KeptStands f Free Nothing = Unit {0}
  KeptStands f (Requested request) (Asked ask) = RequestStands f request ask
  KeptStands f (Told put) (Answered answer) = put ≡ answer
  KeptStands f kept waiting = ⊥

  pub record CellStands (d : ℕ) (f : F) (c : Chain) (cell : Cell V Q) (m : Member) : Type 0 where
    pub name : cell.name ≡ m.name
    pub part : DeviceStands d f c cell.device m.part
    pub kept : KeptStands f cell.kept m.waiting
    pub link : cell.link ≡ m.link
    pub batch : cell.batch ≡ m.batch

  -- The world stands for a state of the machine: its folder, its moment and its devices do, and the state is one that a
  -- run may come to. This last point is proved once for the machine, and gives each call what it asks for.
  pub record WorldStands (w : World V F Q) (s : State) : Type 0 where
    pub moment : w.moment ≡ s.moment
    pub rule : w.rule ≡ s.rule
    pub folder : FolderStands w.folder s.chain
    pub count : length w.cells ≡ length s.members
    pub cells : (i : ℕ) (cell : Cell V Q) (m : Member) → slice_get w.cells i ≡ Some cell → slice_get s.members i ≡ Some m → CellStands (i + 1) w.folder s.chain cell m
    pub good : IsGood s
