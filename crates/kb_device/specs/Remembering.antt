-- What a device keeps of its known revision.
use Rattle.std.specs.Prelude.{◌≡◌, ℕ, ◌+◌, ◌-◌, ◌≤◌, List, [], ◌∷◌, ◌++◌, length, drop, Ok}
use Rattle.std.specs.FinMap.{get}
use Rattle.kb_name.specs.declared.ids.NodeId.{NodeId}
use Rattle.kb_ops.specs.declared.rows.Op.{Op}
use Rattle.kb_ops.specs.Trees.{Tree, look, fold_ops, Fits}
use Rattle.sha2.specs.Sha256.{sha256}
use Rattle.kb_keys.specs.Secrets.{folder_key}
use Rattle.kb_files.specs.Opens.{Opens}
use Rattle.kb_snap.specs.Builds.{OnceAllStored}
use Rattle.kb_chain.specs.declared.states.FolderRequest.{FolderRequest}
use Rattle.kb_snap.specs.Pointers.{Kept, AllHold}
use Rattle.kb_snap.specs.Chains.{Chain, tree_at}
use Rattle.kb_snap.specs.Members.{generation_at, generation_of}
use Rattle.kb_folder.specs.Chains.{Plain, Names}
use Rattle.kb_folder.specs.Stands.{Revisions, head_of, keys_to}
use Rattle.kb_folder.specs.Puts.{Held, Puts}
use Rattle.kb_folder.specs.Goes.{HasChain, Grows}
use Rattle.kb_device.specs.Left.{left_of}
use Rattle.kb_device.specs.Caches.{Cache, known_in, Takes}
use Rattle.kb_device.specs.Knowing.{KnowsFolder}

-- the hash of the revision with this number, of the last first, and zeros for none
abbrev pub hash_at : Revisions → ℕ → List ℕ
hash_at bs known = head_of (drop (length bs - known) bs)

-- The device keeps the hash of its known revision, the generation there, and pointers that hold rows of its tree in blocks that its cache and the folder have.
pub record Remembers (sealed : List ℕ → List ℕ → List ℕ) (hashed : List ℕ → List ℕ) (seed : List ℕ) (f : Held) (c : Chain) (known : ℕ) (hash : List ℕ) (generation : ℕ) (kept : Kept) (cache : Cache) : Type 0 where
  pub within : known ≤ length c
  pub hash_is : hash ≡ hash_at f.revisions known
  pub generation_is : generation ≡ generation_at c known
  pub held : AllHold (Opens sealed hashed (known_in cache (get f.blocks)) (keys_to seed generation)) (look (tree_at c known)) kept

module _ (sealed signed : List ℕ → List ℕ → List ℕ) (hashed : List ℕ → List ℕ) (seed : List ℕ) (names : Names) where
  -- It is so while the folder grows.
  abbrev pub RemembersLonger : Type 0
  RemembersLonger = (f new : Held) (c more : Chain) (known : ℕ) (hash : List ℕ) (generation : ℕ) (kept : Kept) (cache : Cache) → Grows f new → HasChain sealed signed hashed seed names f c
      → Remembers sealed hashed seed f c known hash generation kept cache → Remembers sealed hashed seed new (c ++ more) known hash generation kept cache

  -- Where the known revision is the last one, a request needs no more.
  abbrev pub RemembersGives : Type 0
  RemembersGives = (f : Held) (c : Chain) (known : ℕ) (hash : List ℕ) (generation : ℕ) (kept left : Kept) (cache : Cache) (op : Op) → HasChain sealed signed hashed seed names f c → Remembers sealed hashed seed f c known hash generation kept cache → known ≡ length c
      → Fits op (tree_at c known) → ((q : NodeId) → get left q ≡ left_of (tree_at c known) op.change q (get kept q)) → KnowsFolder sealed hashed seed f c generation hash (fold_ops (op ∷ []) (tree_at c known)) left

  -- Once its request was taken, the new revision can be known: by the hash of its bytes, and the pointers of its whole tree.
  abbrev pub RemembersTaken : Type 0
  RemembersTaken = (f new : Held) (c : Chain) (x : Plain) (request : FolderRequest) (n generation : ℕ) (t : Tree) (left pointers : Kept) (old cache : Cache) → HasChain sealed signed hashed seed names f c → Puts signed hashed f request new (Ok n)
      → t ≡ tree_at (c ++ x ∷ []) (length c + 1) → generation ≡ generation_of (c ++ x ∷ []) → 1 ≤ generation → Takes hashed old request.blocks cache → AllHold (Opens sealed hashed (known_in old (get f.blocks)) (keys_to seed generation)) (look t) left
      → OnceAllStored hashed sealed generation (folder_key seed generation) request.blocks (λ vault. AllHold vault (look t) left → AllHold vault (look t) pointers)
      → Remembers sealed hashed seed new (c ++ x ∷ []) (length c + 1) (sha256 request.revision) generation pointers cache
