-- What a request takes of what its device keeps.
use Rattle.std.specs.Prelude.{◌≡◌, ℕ, List, Option}
use Rattle.std.specs.FinMap.{get}
use Rattle.kb_ops.specs.Trees.{Tree, look}
use Rattle.kb_files.specs.Opens.{Opens}
use Rattle.kb_snap.specs.Pointers.{Kept, AllHold}
use Rattle.kb_snap.specs.Chains.{Chain}
use Rattle.kb_snap.specs.Members.{generation_of}
use Rattle.kb_folder.specs.Stands.{head_of, keys_to}
use Rattle.kb_folder.specs.Puts.{Held}
use Rattle.kb_ops.specs.declared.rows.Change.{Change}
use Rattle.kb_files.specs.Opens.{Blocks}
use Rattle.kb_ranges.specs.Patches.{StaysIn}
use Rattle.kb_device.specs.Caches.{Cache, AreIn}
use Rattle.kb_device.specs.Patching.{Grounds}
use Rattle.kb_device.specs.declared.patching.OldFile.{OldFile}

-- What a device keeps beside its part is so where its known revision is the folder's last: the hash, the generation, and the pointers of the tree after its first operation.
pub record KnowsFolder (sealed : List ℕ → List ℕ → List ℕ) (hashed : List ℕ → List ℕ) (seed : List ℕ) (f : Held) (c : Chain) (generation : ℕ) (head : List ℕ) (t : Tree) (left : Kept) : Type 0 where
  pub head_is : head ≡ head_of f.revisions
  pub generation_is : generation ≡ generation_of c
  pub held : AllHold (Opens sealed hashed (get f.blocks) (keys_to seed generation)) (look t) left

-- The same of what a step takes: some blocks of the device's cache that the folder has too hold the rows that the change left, and the file that it wrote as it was.
pub record KnowsStep (sealed : List ℕ → List ℕ → List ℕ) (hashed : List ℕ → List ℕ) (seed : List ℕ) (f : Held) (c : Chain) (generation : ℕ) (head : List ℕ) (t : Tree) (left : Kept) (change : Change) (cache : Cache) (old : Option OldFile) : Type 0 where
  pub head_is : head ≡ head_of f.revisions
  pub generation_is : generation ≡ generation_of c
  pub few : Blocks
  pub cached : AreIn cache few
  pub within : StaysIn few (get f.blocks)
  pub grounds : Grounds sealed hashed few (keys_to seed generation) t left change old
