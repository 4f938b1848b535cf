-- Which block a refused patch names.
use Rattle.std.specs.Prelude.{◌≡◌, ◌⊎◌, ℕ, ◌<◌, nat_le, List, Some}
use Rattle.kb_blocks.specs.declared.pointer.Ptr.{Ptr}
use Rattle.kb_files.specs.declared.loading.LoadFault.{LoadFault}
use Rattle.kb_files.specs.declared.loading.LoadFault.TheVariants.{Memory}
use Rattle.kb_files.specs.Opens.{Blocks}
use Rattle.kb_files.specs.Files.{Vault, IsFileOf, level_of, span}
use Rattle.kb_files.specs.Stops.{IsBad, WhereSmall}
use Rattle.kb_ranges.specs.declared.parts.Part.{Part}
use Rattle.kb_ranges.specs.Patches.{Covers}
use Rattle.kb_ranges.specs.Ways.{Behind, WayStops, StopsIn}

-- want of memory, or the fact
abbrev pub OrMemory : LoadFault → Type 0 → Type 0
OrMemory fault P = (fault ≡ Memory) ⊎ P

-- the refusal names a part's own block, which isn't what it is to be
abbrev pub PartIsBad : {Y : Type 0} → Blocks → (Ptr → Y → Type 0) → Part → LoadFault → Type 0
PartIsBad blocks P part fault = (p : Ptr) × ((part.ptr ≡ Some p) × IsBad blocks (P p) p.id fault)

-- the way from a part's pointer to the byte at a place stops
abbrev pub PartStopsAt : Vault → Blocks → Part → LoadFault → ℕ → Type 0
PartStopsAt vault blocks part fault place = (p : Ptr) × ((part.ptr ≡ Some p) × WayStops vault blocks fault part.level part.size p place)

-- a way that stops behind these pointers stops from the part's own pointer
abbrev pub StandFor : Vault → Blocks → ℕ → ℕ → Part → List Ptr → Type 0
StandFor vault blocks n each part ps = (fault : LoadFault) (place : ℕ) → Behind (WayStops vault blocks fault n) ⊥ each ps part.size place → PartStopsAt vault blocks part fault place

-- a way that stops from the part, which is the file's first bytes as far as a block of the level goes, stops from the file's pointer
abbrev pub StandsForFile : Vault → Blocks → ℕ → ℕ → Ptr → Part → Type 0
StandsForFile vault blocks level size ptr part = (fault : LoadFault) (place : ℕ) → place < span level → PartStopsAt vault blocks part fault place → WayStops vault blocks fault (level_of size) size ptr place

-- the file has blocks above the level, and one of them stops the way to each byte that the level's first block has
abbrev pub StopsAbove : Vault → Blocks → ℕ → ℕ → Ptr → LoadFault → Type 0
StopsAbove vault blocks level size ptr fault = (level < level_of size) × ((place : ℕ) → place < span level → WayStops vault blocks fault (level_of size) size ptr place)

-- But for want of memory the refusal names a block that the change touches: whatever range has all that changes, the way to some byte there stops at it.
abbrev pub PartRefused : Vault → Blocks → Part → ℕ → ℕ → ℕ → LoadFault → Type 0
PartRefused vault blocks part offset count long fault =
    OrMemory fault ((from to : ℕ) → Covers part.size offset count long from to → (p : Ptr) × ((part.ptr ≡ Some p) × StopsIn vault blocks part.level part.size p from to fault))

-- the same of a whole file; where no file has its size, the pointer's own block is named
abbrev pub PatchRefused : Vault → Blocks → ℕ → ℕ → ℕ → ℕ → Ptr → LoadFault → Type 0
PatchRefused vault blocks size offset count long ptr fault =
    WhereSmall (nat_le size 16777216) (OrMemory fault ((from to : ℕ) → Covers size offset count long from to → StopsIn vault blocks (level_of size) size ptr from to fault)) (IsBad blocks (IsFileOf vault size ptr) ptr.id fault)
