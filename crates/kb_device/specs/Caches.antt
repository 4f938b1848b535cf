-- The blocks that a device keeps of its own.
use Rattle.std.specs.Prelude.{◌≡◌, ℕ, List, length, if◌then◌else◌, Option, Some, None, is_some, Result, Ok, Err}
use Rattle.std.specs.Str.{bytes_eq}
use Rattle.std.specs.List.{AllByRecursion}
use Rattle.std.specs.FinMap.{get}
use Rattle.kb_name.specs.declared.ids.NodeId.{NodeId}
use Rattle.kb_ops.specs.declared.values.Kind.{Kind}
use Rattle.kb_ops.specs.declared.values.Kind.TheVariants.{Dir, File, Link}
use Rattle.kb_ops.specs.declared.rows.Row.{Row}
use Rattle.kb_ops.specs.Trees.{Tree, look}
use Rattle.kb_blocks.specs.Stores as stores
use Rattle.kb_blocks.specs.declared.pointer.Ptr.{Ptr}
use Rattle.kb_blocks.specs.declared.store.PutFault.{PutFault}
use Rattle.kb_blocks.specs.declared.store.PutFault.TheVariants as put
use Rattle.kb_files.specs.Files.{Vault, HoldsAt, HoldsFile}
use Rattle.kb_files.specs.Opens.{Blocks, Keys, Opens}
use Rattle.kb_dirs.specs.declared.entries.Entry.{Entry}
use Rattle.kb_dirs.specs.Dirs.{HoldsDir}
use Rattle.kb_snap.specs.Holds.{HoldsEach}
use Rattle.kb_snap.specs.Pointers.{Kept, AllHold}
use Rattle.kb_ranges.specs.Patches.{StaysIn}
use Rattle.kb_device.specs.declared.caching.CopyFault.{CopyFault}
use Rattle.kb_device.specs.declared.caching.CopyFault.TheVariants as fault

-- the blocks by their hashes, or none where two blocks of one hash met
abbrev pub Cache : Type 0
Cache = Option stores.Blocks

-- the bytes that are the same on both sides
abbrev pub agreed : Option (List ℕ) → Option (List ℕ) → Option (List ℕ)
agreed (Some a) (Some b) = if bytes_eq a b then Some a else None
agreed (Some a) None = None
agreed None o = None

-- the blocks that both have
abbrev pub shared : Blocks → Blocks → Blocks
shared mine theirs id = agreed (mine id) (theirs id)

-- The blocks of the cache that the folder has too. A device without a cache takes nothing from it, so all of the folder's count.
abbrev pub known_in : Cache → Blocks → Blocks
known_in None blocks = blocks
known_in (Some m) blocks = shared (get m) blocks

-- these blocks are the cache's, where there is one
abbrev pub AreIn : Cache → Blocks → Type 0
AreIn None few = Unit {0}
AreIn (Some m) few = StaysIn few (get m)

-- the cache has these blocks, where there is one
abbrev pub HasAll : (List ℕ → List ℕ) → Cache → List (List ℕ) → Type 0
HasAll hashed None made = Unit {0}
HasAll hashed (Some m) made = AllByRecursion (λ b. get m (hashed b) ≡ Some b) made

-- The blocks are added to the cache, which is given up exactly where two blocks of one hash meet.
abbrev pub Takes : (List ℕ → List ℕ) → Cache → List (List ℕ) → Cache → Type 0
Takes hashed None made new = new ≡ None
Takes hashed (Some m) made (Some new) = StaysIn (get m) (get new) × HasAll hashed (Some new) made
Takes hashed (Some m) made None = (id : List ℕ) × stores.Collides hashed m made id

-- ---- copying

-- what was there stays, and what was added is the store's
pub record Copies (store old new : Blocks) : Type 0 where
  pub stays : StaysIn old new
  pub from : StaysIn old store → StaysIn new store

-- what the pointer held before, by blocks of the level, it holds in the copies
abbrev pub IsCopied : Vault → Vault → ℕ → Ptr → Type 0
IsCopied store cache level p = (bytes : List ℕ) → HoldsAt store level p bytes → HoldsAt cache level p bytes

-- so it is of a file of so many bytes
abbrev pub FileCopied : Vault → Vault → ℕ → Ptr → Type 0
FileCopied store cache size p = (bytes : List ℕ) → length bytes ≡ size → HoldsFile store p bytes → HoldsFile cache p bytes

-- and of a row, by its kind
abbrev pub KindCopied : Vault → Vault → Kind → List ℕ → Ptr → Type 0
KindCopied store cache Dir bytes p = (es : List Entry) → HoldsDir store p es → HoldsDir cache p es
KindCopied store cache File bytes p = FileCopied store cache (length bytes) p
KindCopied store cache Link bytes p = FileCopied store cache (length bytes) p

-- and of a row's kept pointer
abbrev pub RowCopied : Vault → Vault → Kept → Row → Type 0
RowCopied store cache kept r = (p : Ptr) → get kept r.id ≡ Some p → KindCopied store cache r.kind r.bytes p

-- why a block wasn't copied
abbrev pub told : Result (List ℕ) PutFault → Result (Unit {0}) CopyFault
told (Ok id) = Ok tt
told (Err (put.Collision id)) = Err fault.Clash
told (Err put.Memory) = Err fault.Memory

-- Where the kept pointers hold the tree row by row, they hold it in the blocks of the cache that are the store's.
abbrev pub Caches : (List ℕ → List ℕ → List ℕ) → (List ℕ → List ℕ) → Blocks → Keys → Tree → Kept → Cache → Type 0
Caches sealed hashed store ring t kept cache = (p : Ptr) → HoldsEach (Opens sealed hashed store ring) (look t) p (get kept) → ((q : NodeId) → is_some (get kept q) ≡ is_some (look t q))
    → AllHold (Opens sealed hashed (known_in cache store) ring) (look t) kept
