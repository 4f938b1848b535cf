-- Laws of what pointers hold.
use Rattle.std.specs.Prelude.{◌≡◌, ℕ, List, length}
use Rattle.kb_blocks.specs.declared.pointer.Ptr.{Ptr}
use Rattle.kb_files.specs.Opens.{Blocks, Keys, Opens}
use Rattle.kb_files.specs.Files.{HoldsFile}

-- a pointer holds one file of a given size
abbrev pub OneFile : (List ℕ → List ℕ → List ℕ) → (List ℕ → List ℕ) → Type 0
OneFile sealed hashed = (blocks : Blocks) (keys : Keys) (p : Ptr) (a b : List ℕ) → length a ≡ length b → HoldsFile (Opens sealed hashed blocks keys) p a → HoldsFile (Opens sealed hashed blocks keys) p b → a ≡ b
