-- When an opening finds a journal that isn't this device's, or doesn't meet the chain. The kept hash is not spoken of.
use Rattle.std.specs.Prelude.{◌≡◌, ◌⊎◌, ℕ, ◌+◌, ◌≤◌, ◌<◌, List, [], ◌∷◌, length, drop, None}
use Rattle.kb_ops.specs.declared.rows.Op.{Op}
use Rattle.kb_ops.specs.Trees.{FitAll}
use Rattle.kb_snap.specs.Chains.{Chain, ops_by, ops_of, seq_of_last, tree_at, first_own}
use Rattle.kb_device.specs.Journals.{Journal, last_seq, taken_over}
use Rattle.kb_snap.specs.Lawful.{AreOf}

-- the operations of the device in the first of these revisions that holds any
abbrev pub own_or : List Op → List Op → List Op
own_or [] rest = rest
own_or (op ∷ ops) rest = op ∷ ops

abbrev pub first_ops : ℕ → Chain → List Op
first_ops d [] = []
first_ops d (revision ∷ c) = own_or (ops_by d revision) (first_ops d c)

abbrev pub seq_of_first : List Op → ℕ
seq_of_first [] = 0
seq_of_first (op ∷ ops) = op.seq

-- the chain and the queue meet: either nothing of the device stands beyond the known revision, and its last seq in the
-- chain is the one before the queue
pub record MeetsBefore (d : ℕ) (c : Chain) (j : Journal) : Type 0 where
  pub last : seq_of_last (ops_of d c) ≡ j.base
  pub none : first_own d j.known (drop j.known c) ≡ None

-- or the first revision of the device there begins at the queue's first seq, reaches the device's last seq in the chain,
-- and lies within the queue
pub record MeetsWithin (d : ℕ) (c : Chain) (j : Journal) : Type 0 where
  pub some : 0 < length (first_ops d (drop j.known c))
  pub begins : seq_of_first (first_ops d (drop j.known c)) ≡ j.base + 1
  pub reaches : seq_of_last (first_ops d (drop j.known c)) ≡ seq_of_last (ops_of d c)
  pub within : seq_of_last (ops_of d c) ≤ last_seq j

abbrev pub QueueMeets : ℕ → Chain → Journal → Type 0
QueueMeets d c j = MeetsBefore d c j ⊎ MeetsWithin d c j

-- why it is foreign
pub data IsForeign (d : ℕ) (c : Chain) (j : Journal) : Type 0 where
  Later : length c < j.known → IsForeign d c j
  Unknown : j.known ≡ 0 → 0 < length j.queue → IsForeign d c j
  Others : ¬ AreOf d j.queue → IsForeign d c j
  Apart : ¬ QueueMeets d c j → IsForeign d c j
  Unfit : ¬ FitAll (taken_over d c j).queue (tree_at c (taken_over d c j).known) → IsForeign d c j
