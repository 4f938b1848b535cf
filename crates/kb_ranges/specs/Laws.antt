-- Laws of how many blocks a change touches, and of storing what was made.
use Rattle.std.specs.Prelude.{◌≡◌, ℕ, ◌+◌, ◌-◌, ◌*◌, ◌/◌, ◌<◌, ◌≤◌, min, max, List, map, Ok, Vec}
use Rattle.std.specs.declared.alloc.Global.{Global}
use Rattle.std.specs.FinMap.{get}
use Rattle.kb_blocks.specs.Stores as stores
use Rattle.kb_files.specs.Opens.{Keys}
use Rattle.kb_files.specs.Files.{level_of}
use Rattle.kb_files.specs.Counts.{touched}
use Rattle.kb_ranges.specs.Patches.{Added, Covers}

-- Of a write of some bytes, which leaves the file as long as it was or makes it longer: from the smaller of its offset and the old size to its end is a range with all that changes, and it touches few blocks.
abbrev pub WritesTouch : Type 0
WritesTouch = (size offset count long from : ℕ) → 0 < count → long ≡ max size (offset + count) → from ≡ min offset size
    → Covers size offset count long from (offset + count) × (touched (level_of long) from (offset + count) ≤ 3 * ((offset + count - from) / 4096 + 2))

-- of a new size alone, so a cut or a growth
abbrev pub CutsTouch : Type 0
CutsTouch = (size long from to : ℕ) → from ≡ min size (long - 1) → to ≡ max 1 long → Covers size 0 0 long from to × (touched (level_of long) from to ≤ 3 * ((long - size) / 4096 + 2))

-- a byte is in one block of each level
abbrev pub ByteTouches : Type 0
ByteTouches = (level place : ℕ) → touched level place (place + 1) ≡ level + 1

-- blocks that a store took are added to those that it had
abbrev pub PutsAdd : (List ℕ → List ℕ) → Type 0
PutsAdd hashed = (old new : stores.Blocks) (made : List (Vec ℕ Global)) (ring : Keys) → stores.PutsAll hashed {X = Unit {0}} old new (map (λ b. b.items) made) (Ok tt) → stores.Keeps old new → Added hashed (get old) ring made (get new) ring
