-- Laws of what pointers hold.
use Rattle.std.specs.Prelude.{◌≡◌, ℕ, List}
use Rattle.kb_blocks.specs.declared.pointer.Ptr.{Ptr}
use Rattle.kb_files.specs.Opens.{Blocks, Keys, Opens}
use Rattle.kb_dirs.specs.declared.entries.Entry.{Entry}
use Rattle.kb_dirs.specs.Dirs.{HoldsDir}

-- a pointer holds one directory
abbrev pub OneDir : (List ℕ → List ℕ → List ℕ) → (List ℕ → List ℕ) → Type 0
OneDir sealed hashed = (blocks : Blocks) (keys : Keys) (p : Ptr) (es fs : List Entry) → HoldsDir (Opens sealed hashed blocks keys) p es → HoldsDir (Opens sealed hashed blocks keys) p fs → es ≡ fs
