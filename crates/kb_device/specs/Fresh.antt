-- Which ids of a device stand in a tree.
use Rattle.std.specs.Prelude.{◌≡◌, ℕ, ◌≤◌, ◌==◌, List, [], ◌∷◌, max, if◌then◌else◌, Some}
use Rattle.kb_name.specs.declared.ids.NodeId.{NodeId}
use Rattle.kb_ops.specs.declared.rows.Row.{Row}
use Rattle.kb_ops.specs.Trees.{Tree, look}
use Rattle.kb_journal.specs.State.{last_seq}
use Rattle.kb_snap.specs.Lawful.{AreOf}
use Rattle.kb_device.specs.Inside.{Inside}

-- no row has an id of this device with a later seq
abbrev pub IdsEndAt : ℕ → ℕ → Tree → Type 0
IdsEndAt d last t = (q : NodeId) (r : Row) → look t q ≡ Some r → q.device ≡ d → q.seq ≤ last

-- this is the last seq that an id of the device has, or 0
pub record IsLastOf (d : ℕ) (t : Tree) (last : ℕ) : Type 0 where
  pub below : IdsEndAt d last t
  pub least : (n : ℕ) → IdsEndAt d n t → last ≤ n

-- the last of the device's seqs so far and that of this row, where its id is the device's
abbrev pub with_row : ℕ → Row → ℕ → ℕ
with_row d r last = if d == r.id.device then max r.id.seq last else last

-- the last seq of the device's ids in rows, or 0
abbrev pub last_in : ℕ → List Row → ℕ
last_in d [] = 0
last_in d (r ∷ rows) = with_row d r (last_in d rows)

-- A session of the device with this number: its queue is the device's, and no id in the tree that is shown is a later one of
-- the device.
pub record IsOwned (d : ℕ) (s : Inside) : Type 0 where
  pub own : AreOf d s.journal.queue
  pub fresh : IdsEndAt d (last_seq s.journal) s.shown
