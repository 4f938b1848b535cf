-- What a tree is. Each definition here takes the rows as a function from ids, so that it holds of every way to keep them.
use Rattle.std.specs.Prelude.{◌≡◌, ◌≢◌, ℕ, zero, suc, ◌≤◌, Bool, true, false, ◌||◌, List, [], length, Option, Some, None, IsSomeAnd, IsSome, ◌⊎◌}
use Rattle.std.specs.Option.{option_map_or}
use Rattle.kb_name.specs.declared.ids.NodeId.{NodeId}
use Rattle.kb_ops.specs.declared.values.Kind.{Kind}
use Rattle.kb_ops.specs.declared.values.Kind.TheVariants.{Dir, File, Link}
use Rattle.kb_ops.specs.declared.rows.Row.{Row}
use Rattle.kb_name.specs.Names.{is_name}
use Rattle.kb_name.specs.Nodes.{root, same_node}

abbrev pub Look : Type 0
Look = NodeId → Option Row

abbrev pub is_dir_kind : Kind → Bool
is_dir_kind Dir = true
is_dir_kind File = false
is_dir_kind Link = false

abbrev pub is_dir_row : Row → Bool
is_dir_row r = is_dir_kind r.kind

-- whether a Dir's row is there
abbrev pub is_dir : Look → NodeId → Bool
is_dir look q = option_map_or is_dir_row (look q) false

-- whether the walk of parents from q meets goal within so many steps
abbrev pub meets : Look → NodeId → ℕ → NodeId → Bool
meets look goal zero q = same_node q goal
meets look goal (suc n) q = same_node q goal || option_map_or (λ r. meets look goal n r.parent) (look q) false

-- a Dir has no bytes, only a File is executable, and no row has more bytes than a file may
pub record IsPlain (kind : Kind) (bytes : List ℕ) (exec : Bool) : Type 0 where
  pub small : length bytes ≤ 16777216
  pub no_bytes : kind ≡ Dir → bytes ≡ []
  pub no_exec : kind ≢ File → exec ≡ false

-- so many rows, found by look, are a well formed tree
pub record IsTree (rows : ℕ) (look : Look) : Type 0 where
  pub keyed : (q : NodeId) (r : Row) → look q ≡ Some r → r.id ≡ q
  pub rooted : IsSomeAnd (look root) (λ r. (r.kind ≡ Dir) × (r.parent ≡ root) × (r.name ≡ []))
  pub parents : (q : NodeId) (r : Row) → look q ≡ Some r → q ≢ root → is_dir look r.parent ≡ true
  pub named : (q : NodeId) (r : Row) → look q ≡ Some r → q ≢ root → is_name r.name ≡ true
  pub places : (p q : NodeId) (r s : Row) → look p ≡ Some r → look q ≡ Some s → p ≢ root → q ≢ root → r.parent ≡ s.parent → r.name ≡ s.name → p ≡ q
  pub reaches : (q : NodeId) (r : Row) → look q ≡ Some r → meets look root rows q ≡ true
  pub plain : (q : NodeId) (r : Row) → look q ≡ Some r → IsPlain r.kind r.bytes r.exec

-- no row but the root stands at the place
abbrev pub IsFree : Look → NodeId → List ℕ → Type 0
IsFree look parent name = (q : NodeId) (r : Row) → look q ≡ Some r → q ≢ root → r.parent ≡ parent → r.name ≢ name

abbrev pub HasNoChild : Look → NodeId → Type 0
HasNoChild look node = (q : NodeId) (r : Row) → look q ≡ Some r → q ≢ root → r.parent ≢ node

-- a new row has a new id and a free place in a Dir
pub record FitsNew (look : Look) (row : Row) : Type 0 where
  pub new : look row.id ≡ None
  pub dir : is_dir look row.parent ≡ true
  pub free : IsFree look row.parent row.name
  pub named : is_name row.name ≡ true
  pub plain : IsPlain row.kind row.bytes row.exec

pub record FitsRemove (look : Look) (node : NodeId) : Type 0 where
  pub there : IsSome (look node)
  pub not_root : node ≢ root
  pub childless : HasNoChild look node

-- the row that makes way for the node stands at the place
pub record MakesWay (look : Look) (node parent : NodeId) (name : List ℕ) (gone : NodeId) : Type 0 where
  pub stands : IsSomeAnd (look gone) (λ r. (r.parent ≡ parent) × (r.name ≡ name))
  pub not_root : gone ≢ root
  pub other : gone ≢ node
  pub childless : HasNoChild look gone
  pub alike : is_dir look gone ≡ is_dir look node

abbrev pub FitsPlace : Look → NodeId → NodeId → List ℕ → Option NodeId → Type 0
FitsPlace look node parent name None = IsFree look parent name
FitsPlace look node parent name (Some gone) = MakesWay look node parent name gone

pub record FitsRename (rows : ℕ) (look : Look) (node parent : NodeId) (name : List ℕ) (replaced : Option NodeId) : Type 0 where
  pub there : IsSome (look node)
  pub not_root : node ≢ root
  pub dir : is_dir look parent ≡ true
  pub not_below : meets look node rows parent ≡ false
  pub named : is_name name ≡ true
  pub place : FitsPlace look node parent name replaced

-- a row takes the place of the one with its id: at the same place, or at a free one that is not below it
pub record FitsReplace (rows : ℕ) (look : Look) (was row : Row) : Type 0 where
  pub there : look row.id ≡ Some was
  pub kind : row.kind ≡ was.kind
  pub plain : IsPlain row.kind row.bytes row.exec
  pub place : ((row.parent ≡ was.parent) × (row.name ≡ was.name)) ⊎ FitsRename rows look row.id row.parent row.name None
