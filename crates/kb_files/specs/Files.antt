-- What a pointer to a file holds.
use Rattle.std.specs.Prelude.{◌≡◌, ℕ, zero, suc, ◌*◌, ◌<◌, ◌≤◌, ◌^◌, List, [], ◌∷◌, ◌++◌, length, take, drop, nat_le, if◌then◌else◌}
use Rattle.std.specs.List.{flat_map, AllByRecursion}
use Rattle.std.specs.Int.{w32, to_be_bytes, from_be_bytes}
use Rattle.kb_blocks.specs.declared.pointer.Ptr.{Ptr}

-- the clear texts that pointers open to
abbrev pub Vault : Type 1
Vault = Ptr → List ℕ → Type 0

abbrev pub leaf_text : List ℕ → List ℕ
leaf_text bytes = 0x46 ∷ bytes

abbrev pub pointer : Ptr → List ℕ
pointer p = p.id ++ to_be_bytes w32 p.generation

abbrev pub pointers : List Ptr → List ℕ
pointers ps = flat_map pointer ps

abbrev pub index_text : ℕ → List Ptr → List ℕ
index_text level ps = 0x49 ∷ level ∷ length ps ∷ pointers ps

-- a pointer that has a spelling
pub record IsFit (p : Ptr) : Type 0 where
  pub id : length p.id ≡ 32
  pub generation : p.generation < 2 ^ 32

-- the pointers of one block
pub record AreFit (ps : List Ptr) : Type 0 where
  pub some : 0 < length ps
  pub few : length ps ≤ 64
  pub each : AllByRecursion IsFit ps

-- how many bytes a block of a level spans at most
abbrev pub span : ℕ → ℕ
span zero = 4096
span (suc n) = 64 * span n

-- the pointers hold the bytes in order, so many each, but the last
abbrev pub InOrder : Vault → ℕ → List Ptr → List ℕ → Type 0
InOrder holds size [] bytes = bytes ≡ []
InOrder holds size (p ∷ ps) bytes = (0 < length bytes) × holds p (take size bytes) × InOrder holds size ps (drop size bytes)

-- the pointer holds the bytes by a block of the level
abbrev pub HoldsAt : Vault → ℕ → Ptr → List ℕ → Type 0
HoldsAt vault zero p bytes = vault p (leaf_text bytes)
HoldsAt vault (suc n) p bytes = (ps : List Ptr) × AreFit ps × vault p (index_text (suc n) ps) × InOrder (HoldsAt vault n) (span n) ps bytes

abbrev pub level_of : ℕ → ℕ
level_of size = if nat_le size 4096 then 0 else (if nat_le size 262144 then 1 else 2)

-- the pointer holds the file
pub record HoldsFile (vault : Vault) (p : Ptr) (bytes : List ℕ) : Type 0 where
  pub small : length bytes ≤ 16777216
  pub held : HoldsAt vault (level_of (length bytes)) p bytes

-- reading pointers
abbrev pub ptr_at : List ℕ → Ptr
ptr_at bytes = record { id = take 32 bytes; generation = from_be_bytes w32 (take 4 (drop 32 bytes)) }

abbrev pub ptrs_of : ℕ → List ℕ → List Ptr
ptrs_of zero bytes = []
ptrs_of (suc n) bytes = ptr_at (take 36 bytes) ∷ ptrs_of n (drop 36 bytes)

-- what reading looks for
abbrev pub IsLeafOf : Vault → ℕ → Ptr → List ℕ → Type 0
IsLeafOf vault size p bytes = (length bytes ≡ size) × vault p (leaf_text bytes)

abbrev pub IsIndexOf : Vault → ℕ → Ptr → List Ptr → Type 0
IsIndexOf vault level p ps = AreFit ps × vault p (index_text level ps)

abbrev pub HoldsSized : Vault → ℕ → ℕ → Ptr → List ℕ → Type 0
HoldsSized vault level size p bytes = (length bytes ≡ size) × HoldsAt vault level p bytes

-- the pointer holds the file, of so many bytes
abbrev pub IsFileOf : Vault → ℕ → Ptr → List ℕ → Type 0
IsFileOf vault size p bytes = (length bytes ≡ size) × HoldsFile vault p bytes
