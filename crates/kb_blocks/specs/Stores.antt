-- What putting blocks does.
use Rattle.std.specs.Prelude.{◌≡◌, ◌≢◌, ◌⊎◌, ℕ, Bool, true, false, List, [], ◌∷◌, Option, Some, None, Result, Ok, Err}
use Rattle.std.specs.FinMap.{FinMap, get, insert, remove}
use Rattle.kb_blocks.specs.Entries.{id_cmp}
use Rattle.kb_blocks.specs.declared.store.PutFault.{PutFault}
use Rattle.kb_blocks.specs.declared.store.PutFault.TheVariants.{Collision, Memory}

-- blocks by their ids
abbrev pub Blocks : Type 0
Blocks = FinMap id_cmp (List ℕ)

-- an id keeps its bytes
abbrev pub Keeps : Blocks → Blocks → Type 0
Keeps old new = (id bytes : List ℕ) → get old id ≡ Some bytes → get new id ≡ Some bytes

-- the id holds other bytes
abbrev pub IsTaken : Option (List ℕ) → List ℕ → Type 0
IsTaken None bytes = ⊥
IsTaken (Some held) bytes = held ≢ bytes

-- the id holds these bytes or none
abbrev pub IsFree : Option (List ℕ) → List ℕ → Type 0
IsFree None bytes = Unit {0}
IsFree (Some held) bytes = held ≡ bytes

-- A block is put under an id, or is there. It is refused exactly where the id holds other bytes, or for want of memory.
abbrev pub Adds : Blocks → Blocks → List ℕ → List ℕ → Result Bool PutFault → Type 0
Adds old new id bytes (Ok true) = (get old id ≡ None) × (new ≡ insert old id bytes)
Adds old new id bytes (Ok false) = (get old id ≡ Some bytes) × (new ≡ old)
Adds old new id bytes (Err (Collision at)) = (at ≡ id) × IsTaken (get old id) bytes × (new ≡ old)
Adds old new id bytes (Err Memory) = new ≡ old

-- A block stands under its hash then. It is refused exactly where its id holds other bytes, or for want of memory.
abbrev pub Puts : (List ℕ → List ℕ) → Blocks → Blocks → List ℕ → Result (List ℕ) PutFault → Type 0
Puts hashed old new bytes (Ok id) = (id ≡ hashed bytes) × IsFree (get old id) bytes × (new ≡ insert old id bytes)
Puts hashed old new bytes (Err (Collision id)) = (id ≡ hashed bytes) × IsTaken (get old id) bytes × (new ≡ old)
Puts hashed old new bytes (Err Memory) = new ≡ old

module _ (hashed : List ℕ → List ℕ) where
  -- the store with these blocks, each put in turn
  abbrev pub stored : Blocks → List (List ℕ) → Blocks
  stored m [] = m
  stored m (b ∷ bs) = stored (insert m (hashed b) b) bs

  -- each block in turn finds its id free
  abbrev pub AllFree : Blocks → List (List ℕ) → Type 0
  AllFree m [] = Unit {0}
  AllFree m (b ∷ bs) = IsFree (get m (hashed b)) b × AllFree (insert m (hashed b) b) bs

  -- the first block that finds its id taken has this id
  abbrev pub Collides : Blocks → List (List ℕ) → List ℕ → Type 0
  Collides m [] id = ⊥
  Collides m (b ∷ bs) id = ((id ≡ hashed b) × IsTaken (get m id) b) ⊎ (IsFree (get m (hashed b)) b × Collides (insert m (hashed b) b) bs id)

  -- All blocks stand under their hashes then. They are refused exactly where one finds its id taken, in the store or by an earlier one, or for want of memory.
  abbrev pub PutsAll : {X : Type 0} → Blocks → Blocks → List (List ℕ) → Result X PutFault → Type 0
  PutsAll old new blocks (Ok _) = AllFree old blocks × (new ≡ stored old blocks)
  PutsAll old new blocks (Err (Collision id)) = Collides old blocks id × (new ≡ old)
  PutsAll old new blocks (Err Memory) = new ≡ old

-- the store without the blocks of these ids, taken away from the last on
abbrev pub undone : List (List ℕ) → Blocks → Blocks
undone [] m = m
undone (id ∷ ids) m = remove (undone ids m) id
