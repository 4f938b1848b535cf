-- What a disk keeps of a part, where the chain's revisions have these hashes.
use Rattle.std.specs.Prelude.{◌≡◌, ℕ, zero, suc, List, [], replicate, slice_index_or, Contains}
use Rattle.kb_journal.specs.State.{State, HasState}
use Rattle.kb_device.specs.Journals.{Journal, plain}

-- the hash of the r-th revision, and zeros for none
abbrev pub hash_at : List (List ℕ) → ℕ → List ℕ
hash_at hashes zero = replicate 32 0
hash_at hashes (suc r) = slice_index_or hashes r []

-- the image is a journal that the part may have, and its hash is that of its known revision
pub record IsKept (hashes : List (List ℕ)) (may : List Journal) (image : List ℕ) : Type 0 where
  pub state : State
  pub has : HasState state image
  pub one_of : Contains may (plain state)
  pub hash : state.hash ≡ hash_at hashes state.known
