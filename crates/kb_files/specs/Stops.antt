-- Which block a refused reading of a file names: the first in the order of reading that isn't right at its place.
use Rattle.std.specs.Prelude.{◌≡◌, ◌⊎◌, ◌<◌, ◌-◌, ℕ, zero, suc, min, nat_le, List, [], ◌∷◌, Result, Ok, Err, Bool, true, false}
use Rattle.kb_blocks.specs.declared.pointer.Ptr.{Ptr}
use Rattle.kb_files.specs.declared.loading.LoadFault.{LoadFault}
use Rattle.kb_files.specs.declared.loading.LoadFault.TheVariants.{BadBlock}
use Rattle.kb_files.specs.Opens.{Blocks, Refuses, FaultNames}
use Rattle.kb_files.specs.Files.{Vault, HoldsSized, IsLeafOf, IsIndexOf, IsFileOf, level_of, span}

-- the refusal names this block, by which nothing of the kind is held
abbrev pub IsBad : {Y : Type 0} → Blocks → (Y → Type 0) → List ℕ → LoadFault → Type 0
IsBad blocks P id fault = Refuses blocks P fault × FaultNames id fault

-- The parts behind the pointers of a block, so many bytes each, but the last: the first ones are held, and the next one
-- stops. Or there are too many or too few of them, and the block itself is bad.
abbrev pub StopsAmong : (ℕ → Ptr → List ℕ → Type 0) → (ℕ → Ptr → LoadFault → Type 0) → ℕ → List ℕ → LoadFault → List Ptr → ℕ → Type 0
StopsAmong holds stops each id fault [] left = (0 < left) × (fault ≡ BadBlock id)
StopsAmong holds stops each id fault (p ∷ ps) left =
    ((left ≡ 0) × (fault ≡ BadBlock id))
    ⊎ ((0 < left) × (stops (min each left) p fault ⊎ ((bytes : List ℕ) × (holds (min each left) p bytes × StopsAmong holds stops each id fault ps (left - min each left)))))

-- the refusal of so many bytes by blocks of the level
abbrev pub StopsAt : Vault → Blocks → ℕ → ℕ → Ptr → LoadFault → Type 0
StopsAt vault blocks zero size p fault = IsBad blocks (IsLeafOf vault size p) p.id fault
StopsAt vault blocks (suc n) size p fault =
    IsBad blocks (IsIndexOf vault (suc n) p) p.id fault
    ⊎ ((ps : List Ptr) × (IsIndexOf vault (suc n) p ps × StopsAmong (HoldsSized vault n) (StopsAt vault blocks n) (span n) p.id fault ps size))

abbrev pub Stops : {X : Type 0} → Vault → Blocks → ℕ → ℕ → Ptr → Result X LoadFault → Type 0
Stops vault blocks level size p (Ok x) = Unit {0}
Stops vault blocks level size p (Err fault) = StopsAt vault blocks level size p fault

abbrev pub WhereSmall : Bool → Type 0 → Type 0 → Type 0
WhereSmall true small big = small
WhereSmall false small big = big

-- the refusal of a file of so many bytes; where no file has so many, its own block is named
abbrev pub FileStops : Vault → Blocks → ℕ → Ptr → LoadFault → Type 0
FileStops vault blocks size p fault = WhereSmall (nat_le size 16777216) (StopsAt vault blocks (level_of size) size p fault) (IsBad blocks (IsFileOf vault size p) p.id fault)

abbrev pub StopsFile : {X : Type 0} → Vault → Blocks → ℕ → Ptr → Result X LoadFault → Type 0
StopsFile vault blocks size p (Ok x) = Unit {0}
StopsFile vault blocks size p (Err fault) = FileStops vault blocks size p fault
