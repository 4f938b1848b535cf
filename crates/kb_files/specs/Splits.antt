-- Blocks that are made, and stored afterwards.
use Rattle.std.specs.Prelude.{◌≡◌, ℕ, List, Some, Vec}
use Rattle.std.specs.List.{AllByRecursion}
use Rattle.std.specs.declared.alloc.Global.{Global}
use Rattle.kb_blocks.specs.declared.pointer.Ptr.{Ptr}
use Rattle.kb_files.specs.Opens.{Blocks, Keys, Opens}

-- each block stands under its hash
abbrev pub Stored : (List ℕ → List ℕ) → Blocks → List (Vec ℕ Global) → Type 0
Stored hashed blocks made = AllByRecursion (λ (b : Vec ℕ Global). blocks (hashed b.items) ≡ Some b.items) made

-- Wherever the blocks that were made are stored, and the key is that of the generation, the fact holds.
abbrev pub OnceStored : (List ℕ → List ℕ) → (List ℕ → List ℕ → List ℕ) → ℕ → List ℕ → List (Vec ℕ Global) → ((Ptr → List ℕ → Type 0) → Type 0) → Type 0
OnceStored hashed sealed generation key made fact =
    (blocks : Blocks) (keys : Keys) → keys generation ≡ Some key → Stored hashed blocks made → fact (Opens sealed hashed blocks keys)

-- what is stored with the new blocks is stored with the old ones
abbrev pub Keeps : (List ℕ → List ℕ) → List (Vec ℕ Global) → List (Vec ℕ Global) → Type 0
Keeps hashed old new = (blocks : Blocks) → Stored hashed blocks new → Stored hashed blocks old
