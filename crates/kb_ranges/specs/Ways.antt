-- The ways from a file's pointer to its bytes, and the block at which a way stops.
use Rattle.std.specs.Prelude.{◌≡◌, ◌⊎◌, ℕ, zero, suc, ◌+◌, ◌-◌, ◌<◌, ◌≤◌, min, nat_le, List, [], ◌∷◌, Result, Ok, Err}
use Rattle.kb_blocks.specs.declared.pointer.Ptr.{Ptr}
use Rattle.kb_files.specs.declared.loading.LoadFault.{LoadFault}
use Rattle.kb_files.specs.declared.loading.LoadFault.TheVariants.{BadBlock}
use Rattle.kb_files.specs.Opens.{Blocks}
use Rattle.kb_files.specs.Files.{Vault, IsLeafOf, IsIndexOf, IsFileOf, level_of, span}
use Rattle.kb_files.specs.Stops.{IsBad, WhereSmall}

-- The fact holds of the part that has the place, behind the pointers of a block: so many bytes each, but the last. Where no pointer is there, the other fact holds.
abbrev pub Behind : (ℕ → Ptr → ℕ → Type 0) → Type 0 → ℕ → List Ptr → ℕ → ℕ → Type 0
Behind fact none each [] size place = none
Behind fact none each (p ∷ ps) size place = ((place < each) × fact (min each size) p place) ⊎ ((each ≤ place) × Behind fact none each ps (size - each) (place - each))

-- by blocks of the level and below, each block on the way to the byte at a place is right at its own
abbrev pub Reaches : Vault → ℕ → ℕ → Ptr → ℕ → Type 0
Reaches vault zero size p place = (bytes : List ℕ) × IsLeafOf vault size p bytes
Reaches vault (suc n) size p place = (ps : List Ptr) × (IsIndexOf vault (suc n) p ps × Behind (Reaches vault n) ⊥ (span n) ps size place)

-- the refusal names the first block on the way that isn't right at its place
abbrev pub WayStops : Vault → Blocks → LoadFault → ℕ → ℕ → Ptr → ℕ → Type 0
WayStops vault blocks fault zero size p place = IsBad blocks (IsLeafOf vault size p) p.id fault
WayStops vault blocks fault (suc n) size p place =
    IsBad blocks (IsIndexOf vault (suc n) p) p.id fault ⊎ ((ps : List Ptr) × (IsIndexOf vault (suc n) p ps × Behind (WayStops vault blocks fault n) (fault ≡ BadBlock p.id) (span n) ps size place))

-- the way to some byte from one place up to another stops
pub record StopsIn (vault : Vault) (blocks : Blocks) (level size : ℕ) (p : Ptr) (from to : ℕ) (fault : LoadFault) : Type 0 where
  pub place : ℕ
  pub after : from ≤ place
  pub before : place < to
  pub stops : WayStops vault blocks fault level size p place

-- so does the way to the first of them that isn't reached
pub record StopsFirst (vault : Vault) (blocks : Blocks) (level size : ℕ) (p : Ptr) (from to : ℕ) (fault : LoadFault) : Type 0 where
  pub stop : StopsIn vault blocks level size p from to fault
  pub reached : (k : ℕ) → from ≤ k → k < stop.place → Reaches vault level size p k

-- Each byte from one place up to another is reached. It was refused only where one isn't, by the first such one.
abbrev pub ReachesEach : {X : Type 0} → Vault → Blocks → ℕ → ℕ → Ptr → ℕ → ℕ → Result X LoadFault → Type 0
ReachesEach vault blocks level size p from to (Ok x) = (k : ℕ) → from ≤ k → k < to → Reaches vault level size p k
ReachesEach vault blocks level size p from to (Err fault) = StopsFirst vault blocks level size p from to fault

-- no file has so many bytes, so its own block is named
abbrev pub NamesTop : {X : Type 0} → Vault → Blocks → ℕ → Ptr → Result X LoadFault → Type 0
NamesTop vault blocks size p (Ok x) = ⊥
NamesTop vault blocks size p (Err fault) = IsBad blocks (IsFileOf vault size p) p.id fault

-- a range of a file, of so many bytes from an offset on, as far as the file goes
abbrev pub ReachesRange : {X : Type 0} → Vault → Blocks → ℕ → Ptr → ℕ → ℕ → Result X LoadFault → Type 0
ReachesRange vault blocks size p offset count result =
    WhereSmall (nat_le size 16777216) (ReachesEach vault blocks (level_of size) size p offset (min (offset + count) size) result) (NamesTop vault blocks size p result)
