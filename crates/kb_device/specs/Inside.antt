-- An open device, as plain values.
use Rattle.std.specs.Prelude.{◌≡◌, ◌⊎◌, ℕ, ◌+◌, ◌≤◌, Bool, false, List, ◌∷◌, length, drop, Option, Some, IsSome}
use Rattle.std.specs.List.{AllByRecursion}
use Rattle.kb_name.specs.declared.ids.NodeId.{NodeId}
use Rattle.kb_ops.specs.declared.rows.Op.{Op}
use Rattle.kb_ops.specs.declared.rows.Change.{Change}
use Rattle.kb_ops.specs.declared.rows.Change.TheVariants.{Sync}
use Rattle.kb_ops.specs.Grammar.{IsProper}
use Rattle.kb_ops.specs.Trees.{Tree, apply, fold_ops, Fits, FitAll}
use Rattle.kb_keys.specs.declared.policy.Role.{Role}
use Rattle.kb_keys.specs.Rings.{Keys, key_at}
use Rattle.kb_snap.specs.Pointers.{Kept}
use Rattle.kb_journal.specs.State.{State}
use Rattle.kb_device.specs.Parts.{Flight}
use Rattle.kb_device.specs.Left.{AreOf, AreLeft, AllButAbove, PointsAll, KeepsBeside}
use Rattle.kb_device.specs.Caches.{Cache}
use Rattle.kb_device.specs.Patching.{WasAt, FindsOld}
use Rattle.kb_device.specs.declared.patching.OldFile.{OldFile}

-- A flight, and the pointers of the tree after it, which hold once its revision landed.
pub record Aloft : Type 0 where
  pub flight : Flight
  pub kept : Kept

-- What a branch is to be merged into: the length of the chain, the hash of its last revision, the tree there with pointers of
-- its rows, the blocks that they reach, the folder keys up to its generation; the tree of the known revision; and the
-- operations of the revisions between, with whether none of these is a merge.
pub record Plan : Type 0 where
  pub number : ℕ
  pub hash : List ℕ
  pub merged : Tree
  pub kept : Kept
  pub cache : Cache
  pub ring : Keys
  pub generation : ℕ
  pub base : Tree
  pub ops : List Op
  pub plain : Bool

-- The journal; the base table, which is ahead of the known revision by so many first operations of the queue; the table
-- that is shown; pointers of rows of the base table; the blocks of its own; where the base table is ahead by a write, the
-- file that it wrote as it was; the folder keys; the generation and the device's own role at the known revision; the flight;
-- and what a branch is to be merged into.
pub record Inside : Type 0 where
  pub journal : State
  pub base : Tree
  pub ahead : ℕ
  pub shown : Tree
  pub kept : Kept
  pub cache : Cache
  pub written : Option OldFile
  pub ring : Keys
  pub generation : ℕ
  pub role : Option Role
  pub aloft : Option Aloft
  pub plan : Option Plan

-- where the change is a write, every row has a pointer but those from the written one up to the root, and the file is kept as it was
abbrev pub PointsBeside : Tree → Change → Kept → Option OldFile → Type 0
PointsBeside t (Sync node offset bytes size) kept written = AllButAbove t node kept × IsSome written
PointsBeside t change kept written = Unit {0}

-- the pointers of the base table's rows: all where it is the known revision's, and all beside a write that it is ahead by
pub record ArePointed (ahead : ℕ) (base : Tree) (queue : List Op) (kept : Kept) (written : Option OldFile) : Type 0 where
  pub all : ahead ≡ 0 → PointsAll base kept
  pub beside : (op : Op) (rest : List Op) → queue ≡ op ∷ rest → ahead ≡ 1 → PointsBeside base op.change kept written

-- A flight of the first operation, which the base table has already. All rows of that table have pointers in it.
pub record Flies (s : Inside) (a : Aloft) : Type 0 where
  pub number : a.flight.number ≡ s.journal.known + 1
  pub count : a.flight.count ≡ 1
  pub ahead : s.ahead ≡ 1
  pub clear : s.journal.mark ≡ false
  pub all : PointsAll s.base a.kept

-- What a session keeps whatever the folder: a revision is known, the queue can be spelled, what of it the base table
-- hasn't yet fits there and makes the table that is shown; the base table's rows have pointers; the generation is one, and
-- its key is there.
pub record IsRunning (s : Inside) : Type 0 where
  pub known : 1 ≤ s.journal.known
  pub proper : AllByRecursion IsProper s.journal.queue
  pub few : s.ahead ≤ 1
  pub ahead : s.ahead ≤ length s.journal.queue
  pub fit : FitAll (drop s.ahead s.journal.queue) s.base
  pub shown : s.shown ≡ fold_ops (drop s.ahead s.journal.queue) s.base
  pub pointed : ArePointed s.ahead s.base s.journal.queue s.kept s.written
  pub first : 1 ≤ s.generation
  pub last : s.generation ≤ 64
  pub keyed : IsSome (key_at s.ring s.generation)
  pub aloft : (a : Aloft) → s.aloft ≡ Some a → Flies s a

-- The base table has the operation, the pointers that it touched are dropped, and a file that it wrote is kept as it was. Of a
-- write no other pointers are dropped.
pub record HasDone (op : Op) (ahead ahead' : ℕ) (base base' : Tree) (kept kept' : Kept) (written written' : Option OldFile) : Type 0 where
  pub ahead_is : ahead' ≡ 1
  pub does : ((ahead ≡ 1) × (base' ≡ base) × AreOf kept' kept × (written' ≡ written))
      ⊎ ((ahead ≡ 0) × Fits op base × (base' ≡ apply op base) × AreLeft base op.change kept kept' × ((old : OldFile) → written' ≡ Some old → WasAt base kept op.change old))
  pub beside : KeepsBeside base' op.change kept kept'
  pub finds : ahead ≡ 0 → FindsOld base kept op.change written'
