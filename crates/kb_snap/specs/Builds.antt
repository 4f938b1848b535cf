-- Blocks that are made for the rows of a tree.
use Rattle.std.specs.Prelude.{◌≡◌, ◌≢◌, ℕ, List, ◌++◌, length, map, Option, Some, None, IsSome, is_some, Vec}
use Rattle.std.specs.List.{flat_map, AllByRecursion}
use Rattle.std.specs.declared.alloc.Global.{Global}
use Rattle.std.specs.FinMap.{get}
use Rattle.kb_name.specs.declared.ids.NodeId.{NodeId}
use Rattle.kb_name.specs.Nodes.{root}
use Rattle.kb_ops.specs.declared.values.Kind.TheVariants.{Dir}
use Rattle.kb_ops.specs.declared.rows.Row.{Row}
use Rattle.kb_ops.specs.Rows.{Look}
use Rattle.kb_ops.specs.Trees.{Tree, look}
use Rattle.kb_blocks.specs.declared.pointer.Ptr.{Ptr}
use Rattle.kb_files.specs.Files.{Vault}
use Rattle.kb_files.specs.Opens.{Blocks, Keys, Opens}
use Rattle.kb_files.specs.Splits.{OnceStored}
use Rattle.kb_dirs.specs.declared.entries.Entry.{Entry}
use Rattle.kb_snap.specs.Holds.{IsOneOf, IsEntryOf, HoldsKind}
use Rattle.kb_snap.specs.Orders.{AreApart}
use Rattle.kb_snap.specs.Pointers.{Kept}

-- the entry of the row with the id, with the pointer that is kept for it
pub record IsEntryAt (look : Look) (at : NodeId → Option Ptr) (q : NodeId) (e : Entry) : Type 0 where
  pub row : Row
  pub there : look q ≡ Some row
  pub fields : IsEntryOf e row
  pub pointed : at q ≡ Some e.ptr

-- each child of the row has a pointer
abbrev pub ArePointed : Look → (NodeId → Option Ptr) → NodeId → Type 0
ArePointed look at q = (k : NodeId) (r : Row) → look k ≡ Some r → k ≢ root → r.parent ≡ q → IsSome (at k)

-- Once these blocks are stored the pointer holds the row, by one block where the row is a Dir, over the pointers of its children.
pub record IsSealed (sealed : List ℕ → List ℕ → List ℕ) (hashed : List ℕ → List ℕ) (key : List ℕ) (generation : ℕ) (look : Look) (at : NodeId → Option Ptr) (q : NodeId) (p : Ptr) (blocks : List (Vec ℕ Global)) : Type 0 where
  pub row : Row
  pub there : look q ≡ Some row
  pub holds : OnceStored hashed sealed generation key blocks (λ vault. HoldsKind vault look at row.kind row p)
  pub one : row.kind ≡ Dir → length blocks ≡ 1

-- the row's blocks stand behind those that were there
abbrev pub AddsRow : (List ℕ → List ℕ → List ℕ) → (List ℕ → List ℕ) → List ℕ → ℕ → Look → (NodeId → Option Ptr) → NodeId → Ptr → List (Vec ℕ Global) → List (Vec ℕ Global) → Type 0
AddsRow sealed hashed key generation look at q p old new = (blocks : List (Vec ℕ Global)) × ((new ≡ old ++ blocks) × IsSealed sealed hashed key generation look at q p blocks)

-- what was made for one row
pub record Part : Type 0 where
  pub node : NodeId
  pub ptr : Ptr
  pub blocks : List (Vec ℕ Global)

pub record IsPart (sealed : List ℕ → List ℕ → List ℕ) (hashed : List ℕ → List ℕ) (key : List ℕ) (generation : ℕ) (look : Look) (old new : Kept) (part : Part) : Type 0 where
  pub fresh : get old part.node ≡ None
  pub pointed : get new part.node ≡ Some part.ptr
  pub made : IsSealed sealed hashed key generation look (get new) part.node part.ptr part.blocks

-- Wherever all these blocks stand under their hashes, and the key is that of the generation, the fact holds.
abbrev pub OnceAllStored : (List ℕ → List ℕ) → (List ℕ → List ℕ → List ℕ) → ℕ → List ℕ → List (List ℕ) → (Vault → Type 0) → Type 0
OnceAllStored hashed sealed generation key made fact =
    (blocks : Blocks) (keys : Keys) → keys generation ≡ Some key → AllByRecursion (λ b. blocks (hashed b) ≡ Some b) made → fact (Opens sealed hashed blocks keys)

-- The blocks are those of exactly the rows that had no pointer, each row's once.
pub record IsMade (sealed : List ℕ → List ℕ → List ℕ) (hashed : List ℕ → List ℕ) (key : List ℕ) (generation : ℕ) (t : Tree) (old new : Kept) (blocks : List (List ℕ)) : Type 0 where
  pub parts : List Part
  pub whole : blocks ≡ map (λ (b : Vec ℕ Global). b.items) (flat_map (λ (p : Part). p.blocks) parts)
  pub each : AllByRecursion (IsPart sealed hashed key generation (look t) old new) parts
  pub once : AreApart (map (λ (p : Part). p.node) parts)
  pub all : (q : NodeId) (r : Row) → look t q ≡ Some r → get old q ≡ None → IsOneOf q (map (λ (p : Part). p.node) parts)

-- Exactly the rows of the tree have pointers then. A pointer that was kept for a row stays.
pub record KeepsPointers (t : Tree) (old new : Kept) (p : Ptr) : Type 0 where
  pub all : (q : NodeId) → is_some (get new q) ≡ is_some (look t q)
  pub stay : (q : NodeId) (x : Ptr) → IsSome (look t q) → get old q ≡ Some x → get new q ≡ Some x
  pub top : get new root ≡ Some p
