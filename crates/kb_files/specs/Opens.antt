-- What a pointer's block opens to.
use Rattle.std.specs.Prelude.{◌≡◌, ℕ, true, List, Option, Some, None, Result, Ok, Err}
use Rattle.std.specs.Option.{is_some}
use Rattle.kb_blocks.specs.declared.pointer.Ptr.{Ptr}
use Rattle.kb_files.specs.declared.loading.LoadFault.{LoadFault}
use Rattle.kb_files.specs.declared.loading.LoadFault.TheVariants.{Missing, BadBlock, Memory}

-- the bytes that stand under an id, and the key of a generation
abbrev pub Blocks : Type 0
Blocks = List ℕ → Option (List ℕ)

abbrev pub Keys : Type 0
Keys = ℕ → Option (List ℕ)

-- the pointer's id stands for bytes of that hash, and they open under the key of its generation to the text
pub record Opens (sealed : List ℕ → List ℕ → List ℕ) (hashed : List ℕ → List ℕ) (blocks : Blocks) (keys : Keys) (ptr : Ptr) (text : List ℕ) : Type 0 where
  pub key : List ℕ
  pub known : keys ptr.generation ≡ Some key
  pub stored : blocks ptr.id ≡ Some (sealed key text)
  pub hash : ptr.id ≡ hashed (sealed key text)

-- What was loaded, seen by view, meets the fact. It was refused only where nothing does, as missing where no bytes stand under the id, as a bad block where some do, or for want of memory.
abbrev pub Refuses : {Y : Type 0} → Blocks → (Y → Type 0) → LoadFault → Type 0
Refuses blocks P Memory = Unit {0}
Refuses {Y} blocks P (Missing id) = (blocks id ≡ None) × ((y : Y) → P y → ⊥)
Refuses {Y} blocks P (BadBlock id) = (is_some (blocks id) ≡ true) × ((y : Y) → P y → ⊥)

abbrev pub Reads : {X Y : Type 0} → Blocks → (X → Y) → (Y → Type 0) → Result X LoadFault → Type 0
Reads blocks view P (Ok x) = P (view x)
Reads blocks view P (Err e) = Refuses blocks P e

-- a refusal, but for want of memory, names this block
abbrev pub FaultNames : List ℕ → LoadFault → Type 0
FaultNames id (Missing named) = named ≡ id
FaultNames id (BadBlock named) = named ≡ id
FaultNames id Memory = Unit {0}

abbrev pub RefusalNames : {X : Type 0} → List ℕ → Result X LoadFault → Type 0
RefusalNames id (Ok x) = Unit {0}
RefusalNames id (Err fault) = FaultNames id fault
