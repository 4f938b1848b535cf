-- What a pointer to a row of a tree holds, with all below it.
use Rattle.std.specs.Prelude.{◌≡◌, ◌≢◌, ◌⊎◌, ℕ, false, List, [], ◌∷◌, length, Option, Some}
use Rattle.kb_name.specs.declared.ids.NodeId.{NodeId}
use Rattle.kb_name.specs.Nodes.{root}
use Rattle.kb_ops.specs.declared.values.Kind.{Kind}
use Rattle.kb_ops.specs.declared.values.Kind.TheVariants.{Dir, File, Link}
use Rattle.kb_ops.specs.declared.rows.Row.{Row}
use Rattle.kb_ops.specs.Rows.{Look, is_dir_kind}
use Rattle.kb_ops.specs.Trees.{Tree, look, IsWellFormed}
use Rattle.kb_blocks.specs.declared.pointer.Ptr.{Ptr}
use Rattle.kb_files.specs.Files.{Vault, HoldsFile}
use Rattle.kb_dirs.specs.declared.entries.Entry.{Entry}
use Rattle.kb_dirs.specs.Dirs.{HoldsDir}

abbrev pub IsOneOf : {X : Type 0} → X → List X → Type 0
IsOneOf x [] = ⊥
IsOneOf x (y ∷ ys) = (x ≡ y) ⊎ IsOneOf x ys

-- the entry has the row's fields. A Dir has no bytes, so its size is 0
pub record IsEntryOf (e : Entry) (r : Row) : Type 0 where
  pub id : e.id ≡ r.id
  pub name : e.name ≡ r.name
  pub kind : e.kind ≡ r.kind
  pub exec : e.exec ≡ r.exec
  pub mtime : e.mtime ≡ r.mtime
  pub size : e.size ≡ length r.bytes

-- the entry is that of a row with this parent
pub record IsChild (look : Look) (parent : NodeId) (e : Entry) : Type 0 where
  pub row : Row
  pub there : look e.id ≡ Some row
  pub not_root : e.id ≢ root
  pub below : row.parent ≡ parent
  pub fields : IsEntryOf e row

-- the entries are exactly those of the rows with this parent
pub record AreChildren (look : Look) (parent : NodeId) (es : List Entry) : Type 0 where
  pub each : (e : Entry) → IsOneOf e es → IsChild look parent e
  pub all : (q : NodeId) (r : Row) → look q ≡ Some r → q ≢ root → r.parent ≡ parent → (e : Entry) × (IsOneOf e es × (e.id ≡ q))

-- By recursion down the tree: the pointer of a File or a Link holds its bytes, and that of a Dir holds the entries of its children, whose pointers hold them.
pub data Holds (vault : Vault) (look : Look) : NodeId → Ptr → Type 0 where
  leaf : {q : NodeId} {p : Ptr} (r : Row) → look q ≡ Some r → is_dir_kind r.kind ≡ false → HoldsFile vault p r.bytes → Holds vault look q p
  dir : {q : NodeId} {p : Ptr} (r : Row) → look q ≡ Some r → r.kind ≡ Dir → (es : List Entry) → HoldsDir vault p es → AreChildren look q es
      → ((e : Entry) → IsOneOf e es → Holds vault look e.id e.ptr) → Holds vault look q p

-- the root's pointer holds a well formed tree whose root has this mtime
pub record HoldsTree (vault : Vault) (p : Ptr) (mtime : ℕ) (t : Tree) : Type 0 where
  pub formed : IsWellFormed t
  pub timed : (r : Row) → look t root ≡ Some r → r.mtime ≡ mtime
  pub held : Holds vault (look t) root p

-- Row by row: the pointer holds the row by its own block, and the entries of a Dir have the pointers that their rows have.
abbrev pub HoldsKind : Vault → Look → (NodeId → Option Ptr) → Kind → Row → Ptr → Type 0
HoldsKind vault look at Dir r p = (es : List Entry) × (HoldsDir vault p es × (AreChildren look r.id es × ((e : Entry) → IsOneOf e es → at e.id ≡ Some e.ptr)))
HoldsKind vault look at File r p = HoldsFile vault p r.bytes
HoldsKind vault look at Link r p = HoldsFile vault p r.bytes

-- each row has a pointer that holds it by its own block, and the root's is p
pub record HoldsEach (vault : Vault) (look : Look) (p : Ptr) (at : NodeId → Option Ptr) : Type 0 where
  pub top : at root ≡ Some p
  pub each : (q : NodeId) (r : Row) → look q ≡ Some r → (x : Ptr) × ((at q ≡ Some x) × HoldsKind vault look at r.kind r x)
