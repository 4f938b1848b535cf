-- How many blocks a tree takes whose file was written.
use Rattle.std.specs.Prelude.{◌≡◌, ℕ, ◌+◌, ◌-◌, ◌*◌, ◌/◌, ◌≤◌, min, max, List, [], ◌∷◌, length, Ok}
use Rattle.kb_name.specs.declared.ids.NodeId.{NodeId}
use Rattle.kb_name.specs.Nodes.{root}
use Rattle.kb_ops.specs.Find.{find_from}
use Rattle.kb_ops.specs.Trees.{Tree, IsWellFormed}
use Rattle.kb_files.specs.Opens.{Blocks, Keys}
use Rattle.kb_snap.specs.Pointers.{Kept}
use Rattle.kb_ranges.specs.Patches.{FewBlocks, FileHeld}
use Rattle.kb_device.specs.Left.{AllButAbove}
use Rattle.kb_device.specs.Patching.{MakesFew}
use Rattle.kb_device.specs.declared.patching.OldFile.{OldFile}

-- how many bytes a change of a file reaches over: from its offset, or from the old end where that comes first, to the end of what is written; of a new size alone, what it adds
abbrev pub reach : ℕ → ℕ → List ℕ → ℕ → ℕ
reach size offset [] long = long - size
reach size offset (b ∷ bytes) long = offset + length (b ∷ bytes) - min offset size

-- with bytes it leaves the file as long as it was or makes it just long enough, as a write does
abbrev pub IsPlainWrite : ℕ → ℕ → List ℕ → ℕ → Type 0
IsPlainWrite size offset [] long = Unit {0}
IsPlainWrite size offset (b ∷ bytes) long = long ≡ max size (offset + length (b ∷ bytes))

-- Where some blocks of the store hold the old file, the patched tree takes at most three blocks for each 4,096 bytes that the change reaches over, six more, and one for each name in the file's path.
abbrev pub TakesFew : (List ℕ → List ℕ → List ℕ) → (List ℕ → List ℕ) → Type 0
TakesFew sealed hashed = (store : Blocks) (ring : Keys) (generation : ℕ) (t : Tree) (left : Kept) (node : NodeId) (old : OldFile) (offset : ℕ) (bytes : List ℕ) (long : ℕ) (blocks : List (List ℕ)) (pointers : Kept) (names : List (List ℕ)) (few : FewBlocks)
    → IsWellFormed t → MakesFew sealed hashed store ring generation t left node old.ptr old.size offset bytes long blocks pointers → AllButAbove t node left → find_from t root names ≡ Ok node → FileHeld sealed hashed store ring old.size old.ptr few
    → IsPlainWrite old.size offset bytes long → length blocks ≤ 3 * (reach old.size offset bytes long / 4096 + 2) + length names
