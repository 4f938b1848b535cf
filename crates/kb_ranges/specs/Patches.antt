-- What a patch makes: the blocks of a file after a write, a cut or a growth.
use Rattle.std.specs.Prelude.{◌≡◌, ℕ, ◌+◌, ◌-◌, ◌<◌, ◌≤◌, max, List, [], length, Option, Some, None, Vec}
use Rattle.std.specs.declared.alloc.Global.{Global}
use Rattle.kb_blocks.specs.declared.pointer.Ptr.{Ptr}
use Rattle.kb_files.specs.Opens.{Blocks, Keys, Opens}
use Rattle.kb_files.specs.Files.{Vault, HoldsAt, HoldsFile, IsFileOf, level_of}
use Rattle.kb_files.specs.Splits.{Stored}
use Rattle.kb_files.specs.Counts.{touched}
use Rattle.kb_ops.specs.Trees.{patched}
use Rattle.kb_ranges.specs.declared.parts.Part.{Part}

-- what was there stays
abbrev pub StaysIn : {K V : Type 0} → (K → Option V) → (K → Option V) → Type 0
StaysIn {K} {V} old new = (q : K) (v : V) → old q ≡ Some v → new q ≡ Some v

-- the old blocks stay, the ring's keys are known, and the new blocks stand under their hashes
pub record Added (hashed : List ℕ → List ℕ) (old : Blocks) (ring : Keys) (made : List (Vec ℕ Global)) (blocks : Blocks) (keys : Keys) : Type 0 where
  pub stays : StaysIn old blocks
  pub known : StaysIn ring keys
  pub stored : Stored hashed blocks made

-- wherever the new blocks are added to the old ones, the fact holds
abbrev pub OnceAdded : (List ℕ → List ℕ) → (List ℕ → List ℕ → List ℕ) → Blocks → Keys → List (Vec ℕ Global) → (Vault → Type 0) → Type 0
OnceAdded hashed sealed old ring made fact = (blocks : Blocks) (keys : Keys) → Added hashed old ring made blocks keys → fact (Opens sealed hashed blocks keys)

-- From one place up to another is a range of the new file with all that changes: each byte that is written, each that is added, and the last one where the file is cut. An empty file counts as one byte here, since it has a leaf.
pub record Covers (size offset count long from to : ℕ) : Type 0 where
  pub within : to ≤ max 1 long
  pub written : 0 < count → (from ≤ offset) × (offset + count ≤ to)
  pub grown : size < long → (from ≤ size) × (long ≤ to)
  pub cut : long < size → (from < to) × (from ≤ long - 1) × (long ≤ to)

-- the bytes of an old part, none where it isn't there
abbrev pub HoldsSome : Vault → ℕ → Option Ptr → List ℕ → Type 0
HoldsSome vault level None bytes = bytes ≡ []
HoldsSome vault level (Some p) bytes = HoldsAt vault level p bytes

abbrev pub IsPart : Vault → Part → List ℕ → Type 0
IsPart vault part bytes = (length bytes ≡ part.size) × HoldsSome vault part.level part.ptr bytes

-- some of the store's blocks, by themselves, and the bytes that they are to hold
abbrev pub FewBlocks : Type 0
FewBlocks = Blocks × List ℕ

abbrev pub PartHeld : (List ℕ → List ℕ → List ℕ) → (List ℕ → List ℕ) → Blocks → Keys → Part → FewBlocks → Type 0
PartHeld sealed hashed store ring part few = StaysIn few.0 store × IsPart (Opens sealed hashed few.0 ring) part few.1

abbrev pub FileHeld : (List ℕ → List ℕ → List ℕ) → (List ℕ → List ℕ) → Blocks → Keys → ℕ → Ptr → FewBlocks → Type 0
FileHeld sealed hashed store ring size ptr few = StaysIn few.0 store × IsFileOf (Opens sealed hashed few.0 ring) size ptr few.1

-- Once the new blocks are added to the old ones, the pointer holds the bytes after the write, by blocks of the level. Whatever range has all that changes, no more blocks were made than it touches.
pub record Patches (hashed : List ℕ → List ℕ) (sealed : List ℕ → List ℕ → List ℕ) (store : Blocks) (ring : Keys) (level size offset : ℕ) (bytes : List ℕ) (long : ℕ) (old_made new_made : List (Vec ℕ Global)) (ptr : Ptr) (old : List ℕ) : Type 0 where
  pub holds : OnceAdded hashed sealed store ring new_made (λ vault. HoldsAt vault level ptr (patched old offset bytes long))
  pub count : (from to : ℕ) → Covers size offset (length bytes) long from to → length new_made ≤ length old_made + touched level from to

-- the same of a whole file, with its pointer and the blocks that were made for it
pub record PatchesFile (hashed : List ℕ → List ℕ) (sealed : List ℕ → List ℕ → List ℕ) (store : Blocks) (ring : Keys) (size offset : ℕ) (bytes : List ℕ) (long : ℕ) (ptr : Ptr) (made : List (Vec ℕ Global)) (old : List ℕ) : Type 0 where
  pub holds : OnceAdded hashed sealed store ring made (λ vault. HoldsFile vault ptr (patched old offset bytes long))
  pub count : (from to : ℕ) → Covers size offset (length bytes) long from to → length made ≤ touched (level_of long) from to
