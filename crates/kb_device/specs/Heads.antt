-- What a device reads of a revision.
use Rattle.std.specs.Prelude.{◌≡◌, ℕ, ◌≤◌, List}
use Rattle.kb_ops.specs.Trees.{Tree}
use Rattle.kb_keys.specs.Rings.{Keys}
use Rattle.kb_snap.specs.Pointers.{Kept}
use Rattle.kb_snap.specs.Chains.{Chain, tree_at}
use Rattle.kb_folder.specs.Puts.{Held}
use Rattle.kb_device.specs.Caches.{Cache}
use Rattle.kb_device.specs.Remembering.{Remembers}
use Rattle.kb_device.specs.Stands.{RingStands}

-- The number and the hash of a revision, its tree with pointers of its rows and the blocks that they reach, and the generation there with the folder keys up to it.
pub record Read : Type 0 where
  pub number : ℕ
  pub hash : List ℕ
  pub tree : Tree
  pub kept : Kept
  pub cache : Cache
  pub ring : Keys
  pub generation : ℕ

-- It is so in the folder.
pub record ReadStands (sealed : List ℕ → List ℕ → List ℕ) (hashed : List ℕ → List ℕ) (seed : List ℕ) (f : Held) (c : Chain) (r : Read) : Type 0 where
  pub some : 1 ≤ r.number
  pub tree : r.tree ≡ tree_at c r.number
  pub remembers : Remembers sealed hashed seed f c r.number r.hash r.generation r.kept r.cache
  pub ring : RingStands seed r.generation r.ring
