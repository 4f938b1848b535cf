-- What holds of each merge of three trees.
use Rattle.std.specs.Prelude.{◌≡◌, ◌≢◌, ℕ, ◌≤◌, ◌<◌, ◌^◌, List, Option, Some, ◌⊎◌}
use Rattle.kb_name.specs.declared.ids.NodeId.{NodeId}
use Rattle.kb_ops.specs.declared.values.Kind.TheVariants.{File}
use Rattle.kb_ops.specs.declared.rows.Row.{Row}
use Rattle.kb_ops.specs.Rows.{Look}
use Rattle.kb_ops.specs.Trees.{Tree, look, IsWellFormed}
use Rattle.kb_rules.specs.declared.stamp.Stamp.{Stamp}
use Rattle.kb_rules.specs.Joins.{joined}
use Rattle.kb_rules.specs.Merge.{conflicted, splits, copied, three, merge}

-- a file that base lacks, or has with other bytes
pub record IsNewFile (s : Row) (o : Option Row) : Type 0 where
  pub file : s.kind ≡ File
  pub other : (b : Row) → o ≡ Some b → s.bytes ≢ b.bytes

-- the name that a row has
abbrev pub IsNamed : Option Row → List ℕ → Type 0
IsNamed row name = (r : Row) × (row ≡ Some r) × (name ≡ r.name)

-- a conflicted name of that
abbrev pub IsConflicted : (List ℕ → ℕ → List ℕ) → Option Row → List ℕ → Type 0
IsConflicted conflicted row name = (r : Row) × (row ≡ Some r) × (k : ℕ) × (1 ≤ k) × (k < 2 ^ 64) × (name ≡ conflicted r.name k)

-- one of the names that a row may have after a merge: that in merged, that in ours, or a conflicted name of the latter
abbrev pub IsNameOf : (List ℕ → ℕ → List ℕ) → Option Row → Option Row → List ℕ → Type 0
IsNameOf conflicted merged ours name = (IsNamed merged name ⊎ IsNamed ours name) ⊎ IsConflicted conflicted ours name

-- a file of the result, with the bytes and a name
pub record HasBytes (result : Look) (q : NodeId) (bytes : List ℕ) (IsItsName : List ℕ → Type 0) : Type 0 where
  pub row : Row
  pub found : result q ≡ Some row
  pub file : row.kind ≡ File
  pub bytes_are : row.bytes ≡ bytes
  pub named : IsItsName row.name

-- f itself, its copy, or by the second rule the file that f is joined to
abbrev pub IsFileOf : Tree → Tree → Tree → Stamp → NodeId → NodeId → Type 0
IsFileOf b m u stamp f q = ((q ≡ f) ⊎ (copied stamp (splits b m u) q ≡ Some f)) ⊎ ((stamp.rule ≡ 2) × (joined (three b m u stamp) f ≡ Some q))

-- no bytes of ours are lost: each file that is new there, or has new bytes, is in the result with these, itself or as its copy
abbrev pub KeepsOurs : Tree → Tree → Tree → Stamp → Type 0
KeepsOurs b m u stamp = (f : NodeId) (s : Row) → look u f ≡ Some s → IsNewFile s (look b f)
    → (q : NodeId) × IsFileOf b m u stamp f q × HasBytes (look (merge b m u stamp)) q s.bytes (IsNameOf (conflicted stamp) (look m f) (look u f))

-- no bytes of merged are lost: each file that is new there, or has new bytes, is in the result with these
abbrev pub KeepsMerged : Tree → Tree → Tree → Stamp → Type 0
KeepsMerged b m u stamp = (f : NodeId) (r : Row) → look m f ≡ Some r → IsNewFile r (look b f)
    → HasBytes (look (merge b m u stamp)) f r.bytes (IsNameOf (conflicted stamp) (look m f) (look u f))

-- the laws of a merge
pub record Laws (b m u : Tree) (stamp : Stamp) : Type 0 where
  -- where merged is base the merge is ours, and where ours is base it is merged
  pub merged_unchanged : m ≡ b → merge b m u stamp ≡ u
  pub ours_unchanged : u ≡ b → merge b m u stamp ≡ m
  pub keeps_ours : KeepsOurs b m u stamp
  pub keeps_merged : KeepsMerged b m u stamp
  pub formed : IsWellFormed (merge b m u stamp)
