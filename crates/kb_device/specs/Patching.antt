-- The blocks of a tree after an operation, made from those of the tree before it.
use Rattle.std.specs.Prelude.{◌≡◌, ◌≢◌, ◌≤◌, ◌++◌, ℕ, IsSome, false, List, length, Option, Some, None}
use Rattle.std.specs.List.{AllByRecursion}
use Rattle.std.specs.FinMap.{get}
use Rattle.kb_name.specs.declared.ids.NodeId.{NodeId}
use Rattle.kb_name.specs.Nodes.{root}
use Rattle.kb_ops.specs.declared.rows.Row.{Row}
use Rattle.kb_ops.specs.declared.rows.Change.{Change}
use Rattle.kb_ops.specs.declared.rows.Change.TheVariants.{Sync}
use Rattle.kb_ops.specs.Rows.{is_dir_kind}
use Rattle.kb_ops.specs.Trees.{Tree, look, patched}
use Rattle.kb_blocks.specs.declared.pointer.Ptr.{Ptr}
use Rattle.kb_files.specs.Opens.{Blocks, Keys, Opens}
use Rattle.kb_files.specs.Files.{Vault, IsFileOf, level_of}
use Rattle.kb_files.specs.Counts.{touched}
use Rattle.kb_snap.specs.Holds.{Holds}
use Rattle.kb_snap.specs.Pointers.{Kept, AllHold}
use Rattle.kb_snap.specs.Builds.{IsMade}
use Rattle.kb_ranges.specs.Patches.{StaysIn, FewBlocks, Covers, FileHeld}
use Rattle.kb_device.specs.Caches.{Cache, AreIn}
use Rattle.kb_device.specs.declared.patching.OldFile.{OldFile}

-- ---- a file that was written

-- wherever all these blocks are added to the old ones, the fact holds
abbrev pub OnceAllAdded : (List ℕ → List ℕ) → (List ℕ → List ℕ → List ℕ) → Blocks → Keys → List (List ℕ) → (Vault → Type 0) → Type 0
OnceAllAdded hashed sealed old ring made fact =
    (blocks : Blocks) (keys : Keys) → StaysIn old blocks → StaysIn ring keys → AllByRecursion (λ b. blocks (hashed b) ≡ Some b) made → fact (Opens sealed hashed blocks keys)

-- Some of the store's blocks hold the rows that are left, and the old file. The row has its bytes after the write.
pub record IsWritten (sealed : List ℕ → List ℕ → List ℕ) (hashed : List ℕ → List ℕ) (store : Blocks) (ring : Keys) (t : Tree) (left : Kept) (node : NodeId) (ptr : Ptr) (size offset : ℕ) (bytes : List ℕ) (long : ℕ) (few : FewBlocks) : Type 0 where
  pub stays : StaysIn few.0 store
  pub rows : AllHold (Opens sealed hashed few.0 ring) (look t) left
  pub file : IsFileOf (Opens sealed hashed few.0 ring) size ptr few.1
  pub row : Row
  pub there : look t node ≡ Some row
  pub no_dir : is_dir_kind row.kind ≡ false
  pub written : row.bytes ≡ patched few.1 offset bytes long

-- the pointer holds the tree, and each row's pointer holds its row
abbrev pub HoldsAll : Tree → Ptr → Kept → Vault → Type 0
HoldsAll t p pointers vault = Holds vault (look t) root p × AllHold vault (look t) pointers

-- Once its blocks are added to these, the pointer holds the tree.
abbrev pub BuildsWritten : (List ℕ → List ℕ → List ℕ) → (List ℕ → List ℕ) → Blocks → Keys → Tree → Kept → NodeId → Ptr → ℕ → ℕ → List ℕ → ℕ → Ptr → List (List ℕ) → Kept → Type 0
BuildsWritten sealed hashed store ring t left node ptr size offset bytes long p blocks pointers =
    (few : FewBlocks) → IsWritten sealed hashed store ring t left node ptr size offset bytes long few → OnceAllAdded hashed sealed few.0 ring blocks (HoldsAll t p pointers)

-- The file's blocks, no more than the write touches where the store holds the old one, and behind them those of the rows that have no pointer then.
pub record MakesFew (sealed : List ℕ → List ℕ → List ℕ) (hashed : List ℕ → List ℕ) (store : Blocks) (ring : Keys) (generation : ℕ) (t : Tree) (left : Kept) (node : NodeId) (ptr : Ptr) (size offset : ℕ) (bytes : List ℕ) (long : ℕ) (blocks : List (List ℕ)) (pointers : Kept) : Type 0 where
  pub key : List ℕ
  pub known : ring generation ≡ Some key
  pub set : Kept
  pub front : List (List ℕ)
  pub rest : List (List ℕ)
  pub whole : blocks ≡ front ++ rest
  pub made : IsMade sealed hashed key generation t set pointers rest
  pub others : (q : NodeId) → q ≢ node → get set q ≡ get left q
  pub few : (few : FewBlocks) → FileHeld sealed hashed store ring size ptr few → IsSome (get set node) × ((from to : ℕ) → Covers size offset (length bytes) long from to → length front ≤ touched (level_of long) from to)

-- ---- an operation

-- the pointer holds the old file, and the tree has the row with its bytes after the write
pub record IsOver (vault : Vault) (t : Tree) (node : NodeId) (offset : ℕ) (bytes : List ℕ) (long : ℕ) (old : OldFile) : Type 0 where
  pub was : List ℕ
  pub file : IsFileOf vault old.size old.ptr was
  pub row : Row
  pub there : look t node ≡ Some row
  pub no_dir : is_dir_kind row.kind ≡ false
  pub written : row.bytes ≡ patched was offset bytes long

-- the pointer and the size of the file that the change writes
pub record IsOldAt (t : Tree) (kept : Kept) (node : NodeId) (old : OldFile) : Type 0 where
  pub pointed : get kept node ≡ Some old.ptr
  pub row : Row
  pub there : look t node ≡ Some row
  pub sized : length row.bytes ≡ old.size

abbrev pub WasAt : Tree → Kept → Change → OldFile → Type 0
WasAt t kept (Sync node offset bytes long) old = IsOldAt t kept node old
WasAt t kept change old = ⊥

-- the file that the change writes is found, where its row is there and has a pointer
abbrev pub FindsOld : Tree → Kept → Change → Option OldFile → Type 0
FindsOld t kept (Sync node offset bytes long) old = IsSome (look t node) → IsSome (get kept node) → IsSome old
FindsOld t kept change old = Unit {0}

-- the old file has the size that the file has which the change writes
abbrev pub HasSize : Tree → Change → OldFile → Type 0
HasSize t (Sync node offset bytes long) old = (r : Row) × ((look t node ≡ Some r) × (length r.bytes ≡ old.size))
HasSize t change old = Unit {0}

-- the pointer holds the file as it was, where the change is a write
abbrev pub IsOldOf : Vault → Tree → Change → OldFile → Type 0
IsOldOf vault t (Sync node offset bytes long) old = IsOver vault t node offset bytes long old
IsOldOf vault t change old = Unit {0}

-- These blocks hold the rows that the change left, and the file that it wrote as it was before.
pub record Grounds (sealed : List ℕ → List ℕ → List ℕ) (hashed : List ℕ → List ℕ) (few : Blocks) (ring : Keys) (t : Tree) (left : Kept) (change : Change) (old : Option OldFile) : Type 0 where
  pub rows : AllHold (Opens sealed hashed few ring) (look t) left
  pub file : (o : OldFile) → old ≡ Some o → IsOldOf (Opens sealed hashed few ring) t change o

-- Whichever of the cache's blocks hold what was there before: once these blocks are added to them, the pointer holds the tree.
abbrev pub BuildsStep : (List ℕ → List ℕ → List ℕ) → (List ℕ → List ℕ) → Cache → Keys → Tree → Kept → Change → Option OldFile → Ptr → List (List ℕ) → Kept → Type 0
BuildsStep sealed hashed cache ring t left change old p blocks pointers =
    (few : Blocks) → AreIn cache few → Grounds sealed hashed few ring t left change old → OnceAllAdded hashed sealed few ring blocks (HoldsAll t p pointers)

-- and the pointers hold their rows
abbrev pub KeepsStep : (List ℕ → List ℕ → List ℕ) → (List ℕ → List ℕ) → Cache → Keys → Tree → Kept → Change → Option OldFile → List (List ℕ) → Kept → Type 0
KeepsStep sealed hashed cache ring t left change old blocks pointers =
    (few : Blocks) → AreIn cache few → Grounds sealed hashed few ring t left change old → OnceAllAdded hashed sealed few ring blocks (λ vault. AllHold vault (look t) pointers)

-- the blocks are those of exactly the rows without a pointer
abbrev pub MakesRest : (List ℕ → List ℕ → List ℕ) → (List ℕ → List ℕ) → Keys → ℕ → Tree → Kept → List (List ℕ) → Kept → Type 0
MakesRest sealed hashed ring generation t left blocks pointers = (key : List ℕ) × (ring generation ≡ Some key) × IsMade sealed hashed key generation t left pointers blocks

-- a file that was written is patched from the cache
abbrev pub PatchesFew : (List ℕ → List ℕ → List ℕ) → (List ℕ → List ℕ) → Blocks → Keys → ℕ → Tree → Kept → Change → OldFile → List (List ℕ) → Kept → Type 0
PatchesFew sealed hashed store ring generation t left (Sync node offset bytes long) old blocks pointers = MakesFew sealed hashed store ring generation t left node old.ptr old.size offset bytes long blocks pointers
PatchesFew sealed hashed store ring generation t left change old blocks pointers = MakesRest sealed hashed ring generation t left blocks pointers

-- where the device has a cache, and knows the old file
abbrev pub StepMakes : (List ℕ → List ℕ → List ℕ) → (List ℕ → List ℕ) → Cache → Keys → ℕ → Tree → Kept → Change → Option OldFile → List (List ℕ) → Kept → Type 0
StepMakes sealed hashed (Some m) ring generation t left change (Some old) blocks pointers = PatchesFew sealed hashed (get m) ring generation t left change old blocks pointers
StepMakes sealed hashed cache ring generation t left change old blocks pointers = MakesRest sealed hashed ring generation t left blocks pointers
