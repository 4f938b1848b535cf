-- Laws of what pointers hold.
use Rattle.std.specs.Prelude.{◌≡◌, ◌≢◌, ℕ, true, false, List, Option, Some}
use Rattle.std.specs.FinMap.{get, insert}
use Rattle.kb_name.specs.declared.ids.NodeId.{NodeId}
use Rattle.kb_name.specs.Nodes.{root}
use Rattle.kb_ops.specs.declared.rows.Row.{Row}
use Rattle.kb_ops.specs.Rows.{Look, meets, is_dir_kind}
use Rattle.kb_ops.specs.Trees.{Tree, look, IsWellFormed}
use Rattle.kb_blocks.specs.declared.pointer.Ptr.{Ptr}
use Rattle.kb_files.specs.Files.{HoldsFile}
use Rattle.kb_files.specs.Opens.{Blocks, Keys, Opens}
use Rattle.kb_snap.specs.Holds.{IsOneOf, Holds, HoldsTree, HoldsEach}
use Rattle.kb_snap.specs.Pointers.{Kept, AllHold}

-- a pointer holds one tree whose root has a given mtime
abbrev pub OneTree : (List ℕ → List ℕ → List ℕ) → (List ℕ → List ℕ) → Type 0
OneTree sealed hashed = (blocks : Blocks) (keys : Keys) (p : Ptr) (mtime : ℕ) (s t : Tree) → HoldsTree (Opens sealed hashed blocks keys) p mtime s → HoldsTree (Opens sealed hashed blocks keys) p mtime t → s ≡ t

-- what a pointer holds it holds while blocks are added
abbrev pub MoreBlocks : (List ℕ → List ℕ → List ℕ) → (List ℕ → List ℕ) → Type 0
MoreBlocks sealed hashed = (old new : Blocks) (keys : Keys) → ((id bytes : List ℕ) → old id ≡ Some bytes → new id ≡ Some bytes)
    → (look : Look) (q : NodeId) (p : Ptr) → Holds (Opens sealed hashed old keys) look q p → Holds (Opens sealed hashed new keys) look q p

-- and while keys are added, as when a device's ring has the folder keys of more generations
abbrev pub MoreKeys : (List ℕ → List ℕ → List ℕ) → (List ℕ → List ℕ) → Type 0
MoreKeys sealed hashed = (blocks : Blocks) (few more : Keys) → ((g : ℕ) (key : List ℕ) → few g ≡ Some key → more g ≡ Some key)
    → (look : Look) (q : NodeId) (p : Ptr) → Holds (Opens sealed hashed blocks few) look q p → Holds (Opens sealed hashed blocks more) look q p

-- rows that are held one by one are held by recursion down the tree
abbrev pub RowsHold : (List ℕ → List ℕ → List ℕ) → (List ℕ → List ℕ) → Type 0
RowsHold sealed hashed = (blocks : Blocks) (keys : Keys) (p : Ptr) (t : Tree) (at : NodeId → Option Ptr) → IsWellFormed t → HoldsEach (Opens sealed hashed blocks keys) (look t) p at → Holds (Opens sealed hashed blocks keys) (look t) root p

-- and the other way round
abbrev pub HoldsRows : (List ℕ → List ℕ → List ℕ) → (List ℕ → List ℕ) → Type 0
HoldsRows sealed hashed = (blocks : Blocks) (keys : Keys) (p : Ptr) (t : Tree) → IsWellFormed t → Holds (Opens sealed hashed blocks keys) (look t) root p → (at : NodeId → Option Ptr) × HoldsEach (Opens sealed hashed blocks keys) (look t) p at

-- the row's walk of parents meets q
abbrev pub IsUnder : Look → NodeId → NodeId → Type 0
IsUnder look q k = (n : ℕ) × (meets look q n k ≡ true)

-- the row and all below it stay, and nothing new is below it
pub record StaysUnder (old new : Look) (q : NodeId) : Type 0 where
  pub rows : (k : NodeId) → IsUnder old q k → new k ≡ old k
  pub no_more : (k : NodeId) (r : Row) → new k ≡ Some r → k ≢ root → IsUnder old q r.parent → old k ≡ Some r

-- a row that stays, with all below it, stays held
abbrev pub StayHeld : (List ℕ → List ℕ → List ℕ) → (List ℕ → List ℕ) → Type 0
StayHeld sealed hashed = (blocks : Blocks) (keys : Keys) (old new : Look) (q : NodeId) (p : Ptr) → StaysUnder old new q → Holds (Opens sealed hashed blocks keys) old q p → Holds (Opens sealed hashed blocks keys) new q p

-- the row isn't under q, and after the change its parent isn't
pub record IsClear (old new : Look) (q k : NodeId) : Type 0 where
  pub before : IsUnder old q k → ⊥
  pub after : (r : Row) → new k ≡ Some r → IsUnder old q r.parent → ⊥

-- Where no rows but these change, pointers that held their rows hold them after the change, if each of these rows is clear of theirs.
abbrev pub LeftHold : (List ℕ → List ℕ → List ℕ) → (List ℕ → List ℕ) → Type 0
LeftHold sealed hashed = (blocks : Blocks) (keys : Keys) (old new : Look) (changed : List NodeId) (kept left : Kept) → ((k : NodeId) → (IsOneOf k changed → ⊥) → new k ≡ old k)
    → AllHold (Opens sealed hashed blocks keys) old kept → ((q : NodeId) (p : Ptr) → get left q ≡ Some p → (get kept q ≡ Some p) × ((k : NodeId) → IsOneOf k changed → IsClear old new q k))
    → AllHold (Opens sealed hashed blocks keys) new left

-- the kept pointer of a row that is no Dir holds its bytes
abbrev pub BytesHeld : (List ℕ → List ℕ → List ℕ) → (List ℕ → List ℕ) → Type 0
BytesHeld sealed hashed = (blocks : Blocks) (keys : Keys) (look : Look) (kept : Kept) (q : NodeId) (p : Ptr) (r : Row) → AllHold (Opens sealed hashed blocks keys) look kept → get kept q ≡ Some p → look q ≡ Some r → is_dir_kind r.kind ≡ false
    → HoldsFile (Opens sealed hashed blocks keys) p r.bytes

-- Pointers that held their rows hold them where the blocks and keys stay, with a pointer more that holds the bytes of a row that is no Dir.
abbrev pub SetHolds : (List ℕ → List ℕ → List ℕ) → (List ℕ → List ℕ) → Type 0
SetHolds sealed hashed = (few more : Blocks) (ring keys : Keys) (look : Look) (left : Kept) (q : NodeId) (p : Ptr) (r : Row) → ((id bytes : List ℕ) → few id ≡ Some bytes → more id ≡ Some bytes) → ((g : ℕ) (key : List ℕ) → ring g ≡ Some key → keys g ≡ Some key)
    → AllHold (Opens sealed hashed few ring) look left → look q ≡ Some r → is_dir_kind r.kind ≡ false → HoldsFile (Opens sealed hashed more keys) p r.bytes → AllHold (Opens sealed hashed more keys) look (insert left q p)
