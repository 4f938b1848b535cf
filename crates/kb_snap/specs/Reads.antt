-- Reading a tree's blocks.
use Rattle.std.specs.Prelude.{◌≡◌, ◌⊎◌, ℕ, true, None, is_some, List, [], ◌∷◌, ◌++◌, Result, Ok, Err, Vec}
use Rattle.std.specs.declared.alloc.Global.{Global}
use Rattle.std.specs.FinMap.{get, insert, empty}
use Rattle.kb_name.specs.declared.ids.NodeId.{NodeId}
use Rattle.kb_name.specs.Nodes.{root}
use Rattle.kb_ops.specs.declared.values.Kind.{Kind}
use Rattle.kb_ops.specs.declared.values.Kind.TheVariants.{Dir, File, Link}
use Rattle.kb_ops.specs.declared.rows.Row.{Row}
use Rattle.kb_ops.specs.Trees.{Tree, root_row}
use Rattle.kb_blocks.specs.declared.pointer.Ptr.{Ptr}
use Rattle.kb_files.specs.Stops.{FileStops}
use Rattle.kb_files.specs.Files.{Vault, IsFileOf}
use Rattle.kb_files.specs.Opens.{Blocks, Refuses, FaultNames}
use Rattle.kb_files.specs.declared.loading.LoadFault.{LoadFault}
use Rattle.kb_files.specs.declared.loading.LoadFault.TheVariants.{BadBlock}
use Rattle.kb_dirs.specs.declared.entries.Entry.{Entry}
use Rattle.kb_dirs.specs.Dirs.{HoldsDir}
use Rattle.kb_snap.specs.declared.loading.Waiting.{Waiting}
use Rattle.kb_snap.specs.Pointers.{Kept}

abbrev pub waits : NodeId → List ℕ → Entry → Waiting
waits parent block e = record { parent = parent; block = block; entry = e }

-- the entries of a directory, the first at the end
abbrev pub stacked : NodeId → List ℕ → List Entry → List Waiting
stacked parent block [] = []
stacked parent block (e ∷ es) = stacked parent block es ++ waits parent block e ∷ []

-- the row of an entry, with these bytes
abbrev pub row_of : Waiting → List ℕ → Row
row_of w bytes = record { id = w.entry.id; parent = w.parent; name = w.entry.name; kind = w.entry.kind; bytes = bytes; exec = w.entry.exec; mtime = w.entry.mtime }

-- the entries of the directory that the entry's pointer holds wait then
abbrev pub FoundDir : Vault → Waiting → List Waiting → List Waiting → Type 0
FoundDir vault w old new = (es : List Entry) × (HoldsDir vault w.entry.ptr es × (new ≡ old ++ stacked w.entry.id w.entry.ptr.id es))

abbrev pub ReadsDir : {X : Type 0} → Vault → Blocks → Waiting → List Waiting → List Waiting → Result X LoadFault → Type 0
ReadsDir vault blocks w old new (Ok x) = FoundDir vault w old new
ReadsDir vault blocks w old new (Err fault) = Refuses blocks (HoldsDir vault w.entry.ptr) fault × FaultNames w.entry.ptr.id fault

-- what the entry's pointer holds was read: the bytes of a file or a link, or a directory
abbrev pub FoundKind : Vault → Waiting → List Waiting → List Waiting → Kind → List ℕ → Type 0
FoundKind vault w old new Dir bytes = (bytes ≡ []) × FoundDir vault w old new
FoundKind vault w old new File bytes = IsFileOf vault w.entry.size w.entry.ptr bytes × (new ≡ old)
FoundKind vault w old new Link bytes = IsFileOf vault w.entry.size w.entry.ptr bytes × (new ≡ old)

-- the entry's pointer holds nothing of the entry's kind
abbrev pub RefusedKind : Vault → Blocks → Waiting → Kind → LoadFault → Type 0
RefusedKind vault blocks w Dir fault = Refuses blocks (HoldsDir vault w.entry.ptr) fault × FaultNames w.entry.ptr.id fault
RefusedKind vault blocks w File fault = Refuses blocks (IsFileOf vault w.entry.size w.entry.ptr) fault × FileStops vault blocks w.entry.size w.entry.ptr fault
RefusedKind vault blocks w Link fault = Refuses blocks (IsFileOf vault w.entry.size w.entry.ptr) fault × FileStops vault blocks w.entry.size w.entry.ptr fault

abbrev pub ReadsBytes : Vault → Blocks → Waiting → List Waiting → List Waiting → Result (Vec ℕ Global) LoadFault → Type 0
ReadsBytes vault blocks w old new (Ok bytes) = FoundKind vault w old new w.entry.kind bytes.items
ReadsBytes vault blocks w old new (Err fault) = RefusedKind vault blocks w w.entry.kind fault

-- the row of the root
abbrev pub root_of : ℕ → Row
root_of mtime = record root_row { mtime = mtime }

-- How far a reading has come: the rows that were read, their pointers, and the entries that wait, the next at the end. Each entry is read with all that is below it before the next, and no id comes twice.
pub data Reached (vault : Vault) (top : Ptr) (mtime : ℕ) : Tree → Kept → List Waiting → Type 0 where
  opened : (es : List Entry) → HoldsDir vault top es → Reached vault top mtime (insert empty root (root_of mtime)) (insert empty root top) (stacked root top.id es)
  onward : (t : Tree) (at : Kept) (rest : List Waiting) (w : Waiting) (bytes : List ℕ) (new : List Waiting) → Reached vault top mtime t at (rest ++ w ∷ []) → get at w.entry.id ≡ None → FoundKind vault w rest new w.entry.kind bytes
      → Reached vault top mtime (insert t w.entry.id (row_of w bytes)) (insert at w.entry.id w.entry.ptr) new

-- the next entry has an id that came before, and its directory's block is named, or its pointer holds nothing of its kind
pub record StopsAt (vault : Vault) (blocks : Blocks) (top : Ptr) (mtime : ℕ) (fault : LoadFault) : Type 0 where
  pub tree : Tree
  pub kept : Kept
  pub rest : List Waiting
  pub next : Waiting
  pub reached : Reached vault top mtime tree kept (rest ++ next ∷ [])
  pub why : ((is_some (get kept next.entry.id) ≡ true) × (fault ≡ BadBlock next.block)) ⊎ ((get kept next.entry.id ≡ None) × RefusedKind vault blocks next next.entry.kind fault)

-- the refusal is of the root's block, or of the first in reading order that isn't right
abbrev pub StopsFirst : Vault → Blocks → Ptr → ℕ → LoadFault → Type 0
StopsFirst vault blocks top mtime fault = (Refuses blocks (HoldsDir vault top) fault × FaultNames top.id fault) ⊎ StopsAt vault blocks top mtime fault
