-- What the tree after a revision is.
use Rattle.std.specs.Prelude.{◌≡◌, ℕ, ◌+◌, ◌-◌, ◌<◌, List, [], ◌∷◌, length, slice_get, Option, Some, None, Result, Ok, Err}
use Rattle.kb_edge.specs.declared.faults.Memory.{Memory}
use Rattle.kb_ops.specs.declared.rows.Op.{Op}
use Rattle.kb_ops.specs.Trees.{Tree, FitAll, fold_ops}
use Rattle.kb_tree.specs.Held.{Held}
use Rattle.kb_keys.specs.Rings as rings
use Rattle.kb_keys.specs.Rings.{key_at}
use Rattle.kb_files.specs.Opens.{Blocks, Opens}
use Rattle.kb_snap.specs.Holds.{HoldsTree}
use Rattle.kb_rules.specs.declared.stamp.Stamp.{Stamp}
use Rattle.kb_rules.specs.Meet.{Meet}
use Rattle.kb_snap.specs.Chains.{merged_tree}
use Rattle.kb_snap.specs.Lawful.{AreFew}
use Rattle.kb_folder.specs.Chains.{Plain, Back, tree_at}
use Rattle.kb_audit.specs.declared.faults.AuditWhy.TheVariants as why
use Rattle.kb_audit.specs.declared.faults.Bad.{Bad}
use Rattle.kb_audit.specs.declared.faults.Bad.TheVariants as bad
use Rattle.kb_chain.specs.declared.revisions.RevisionKind.{RevisionKind}
use Rattle.kb_chain.specs.declared.revisions.RevisionKind.TheVariants.{Found, Step, Steps, Merge, Join, Rekey}
use Rattle.kb_chain.specs.declared.revisions.Revision.{Revision}
use Rattle.kb_chain.specs.declared.privates.Private.{Private}
use Rattle.kb_audit.specs.declared.knowing.Root.{Root}

abbrev pub name_in : Option (List ℕ) → List ℕ
name_in None = []
name_in (Some n) = n

-- the name of a device, whose number is its place from 1
abbrev pub name_at : List (List ℕ) → ℕ → List ℕ
name_at ns d = name_in (slice_get ns (d - 1))

-- where the pointer holds a tree, that one is loaded
abbrev pub LoadsBase : (Tree → Type 0) → Result Held Memory → Type 0
LoadsBase Is (Ok t) = (b : Tree) → Is b → t.tree ≡ b
LoadsBase Is (Err e) = Unit {0}

-- all operations fit and are folded over the tree, or one doesn't fit
abbrev pub StepsOn : List Op → Tree → Tree → Result (Unit {0}) Bad → Type 0
StepsOn ops old new (Ok u) = FitAll ops old × (new ≡ fold_ops ops old)
StepsOn ops old new (Err (bad.Is w)) = (w ≡ why.Operation) × (FitAll ops old → ⊥)
StepsOn ops old new (Err bad.Memory) = Unit {0}

-- they fit the tree that they branched from, and are merged into the last one; or one doesn't fit, or the trees can't be merged
abbrev pub MergesOn : Tree → List Op → Stamp → Tree → Tree → Result (Unit {0}) Bad → Type 0
MergesOn b ops stamp old new (Ok u) = FitAll ops b × Meet b old (fold_ops ops b) stamp × AreFew old (fold_ops ops b) × (new ≡ merged_tree b old (fold_ops ops b) stamp)
MergesOn b ops stamp old new (Err (bad.Is w)) = (w ≡ why.Operation) × (FitAll ops b × Meet b old (fold_ops ops b) stamp → ⊥)
MergesOn b ops stamp old new (Err bad.Memory) = Unit {0}

-- the roots are those of the revisions, and each holds its tree
pub record AreHeld (sealed : List ℕ → List ℕ → List ℕ) (hashed : List ℕ → List ℕ) (blocks : Blocks) (ring : rings.Keys) (c : Back) (roots : List Root) : Type 0 where
  pub size : length roots ≡ length c
  pub each : (i : ℕ) (root : Root) → slice_get roots i ≡ Some root → HoldsTree (Opens sealed hashed blocks (key_at ring)) root.ptr root.mtime (tree_at c (i + 1))

-- how the tree goes on by a revision of this kind, with this base
module _ (sealed : List ℕ → List ℕ → List ℕ) (hashed : List ℕ → List ℕ) (blocks : Blocks) (names : ℕ → List ℕ) (ring : rings.Keys) (roots : List Root) (r : Revision) (p : Private) where
  -- who merges, when, and by the rule of this number
  abbrev pub stamp_by : ℕ → Stamp
  stamp_by rule = record { device = r.writer; name = names r.writer; last = r.last; moment = r.moment; rule = rule }

  abbrev pub MergesFrom : ℕ → Root → Tree → Tree → Result (Unit {0}) Bad → Type 0
  MergesFrom rule root old new result = (b : Tree) → HoldsTree (Opens sealed hashed blocks (key_at ring)) root.ptr root.mtime b → MergesOn b p.ops (stamp_by rule) old new result

  abbrev pub MergesBy : ℕ → Option ℕ → Tree → Tree → Result (Unit {0}) Bad → Type 0
  MergesBy rule None old new result = Unit {0}
  MergesBy rule (Some base) old new result = (root : Root) → slice_get roots (base - 1) ≡ Some root → MergesFrom rule root old new result

  abbrev pub Advances : RevisionKind → Option ℕ → Tree → Tree → Result (Unit {0}) Bad → Type 0
  Advances Found base old new result = (result ≡ Ok tt) × (new ≡ old)
  Advances Step base old new result = StepsOn p.ops old new result
  Advances Steps base old new result = StepsOn p.ops old new result
  Advances Merge base old new result = MergesBy 1 base old new result
  Advances Join base old new result = MergesBy 2 base old new result
  Advances Rekey base old new result = (result ≡ Ok tt) × (new ≡ old)
