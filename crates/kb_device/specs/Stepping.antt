-- The request that lands one operation.
use Rattle.std.specs.Prelude.{◌≡◌, ◌≢◌, ℕ, ◌+◌, ◌≤◌, List, [], ◌∷◌, length, Option, Some, None}
use Rattle.std.specs.FinMap.{get}
use Rattle.kb_name.specs.Nodes.{root as root_id}
use Rattle.kb_ops.specs.declared.rows.Op.{Op}
use Rattle.kb_ops.specs.declared.rows.Row.{Row}
use Rattle.kb_ops.specs.Trees.{Tree, look, fold_ops, FitAll, IsWellFormed}
use Rattle.kb_keys.specs.Secrets.{device_secret, folder_key}
use Rattle.kb_blocks.specs.declared.pointer.Ptr.{Ptr}
use Rattle.kb_files.specs.Opens.{Blocks, Keys}
use Rattle.kb_snap.specs.Holds.{Holds}
use Rattle.kb_snap.specs.Pointers.{Kept}
use Rattle.kb_snap.specs.Chains.{Stepped, Chain, ops_of, tree_at}
use Rattle.kb_snap.specs.Members.{generation_of}
use Rattle.kb_snap.specs.Puts.{Ask}
use Rattle.kb_chain.specs.declared.revisions.RevisionKind.TheVariants.{Step}
use Rattle.kb_chain.specs.declared.revisions.Revision.{Revision}
use Rattle.kb_chain.specs.declared.privates.Private.{Private}
use Rattle.kb_chain.specs.declared.states.FolderRequest.{FolderRequest}
use Rattle.kb_chain.specs.Revisions.{revision_text, signed_text, with_signature, no_hash, IsRevision}
use Rattle.kb_chain.specs.Privates.{private_text, IsPrivate}
use Rattle.kb_folder.specs.Chains.{Names}
use Rattle.kb_folder.specs.Stands.{head_of, keys_to}
use Rattle.kb_folder.specs.Puts.{Held}
use Rattle.kb_folder.specs.Goes.{HasChain, IsFor}
use Rattle.kb_ranges.specs.Patches.{StaysIn}
use Rattle.kb_device.specs.Caches.{Cache, AreIn}
use Rattle.kb_device.specs.Patching.{OnceAllAdded, Grounds}
use Rattle.kb_device.specs.declared.patching.OldFile.{OldFile}

abbrev pub step_private : Ptr → ℕ → Op → Private
step_private root mtime op = record { mtime = mtime; root = root; base = None; ops = op ∷ [] }

abbrev pub step_unsigned : ℕ → List ℕ → ℕ → ℕ → ℕ → ℕ → List ℕ → Revision
step_unsigned number head device moment generation seq private = record {
  kind = Step;
  number = number;
  previous = head;
  writer = device;
  moment = moment;
  generation = generation;
  first = seq;
  last = seq;
  bundle = None;
  private = private;
  signature = no_hash;
}

-- the revision before it is signed, with its private part sealed
abbrev pub step_revision : (List ℕ → List ℕ → List ℕ) → List ℕ → ℕ → ℕ → List ℕ → Op → Ptr → ℕ → Revision
step_revision sealed key generation number head op root mtime = step_unsigned number head op.device op.moment generation op.seq (sealed key (private_text Step (step_private root mtime op)))

-- The request spells a revision that lands the operation. Once its blocks are added to some of the cache's that hold the rows that the operation left, and the file that it wrote as it was, its pointer holds the tree.
pub record IsStepRequest (sealed signed : List ℕ → List ℕ → List ℕ) (hashed : List ℕ → List ℕ) (secret key : List ℕ) (generation number : ℕ) (head : List ℕ) (op : Op) (t : Tree) (left : Kept) (cache : Cache) (ring : Keys) (old : Option OldFile) (request : FolderRequest) : Type 0 where
  pub root : Ptr
  pub mtime : ℕ
  pub formed : IsWellFormed t
  pub timed : (r : Row) → look t root_id ≡ Some r → r.mtime ≡ mtime
  pub is_private : IsPrivate Step (step_private root mtime op)
  pub is : IsRevision (with_signature (step_revision sealed key generation number head op root mtime) (signed secret (signed_text (step_revision sealed key generation number head op root mtime))))
  pub spelled : request.revision ≡ revision_text (with_signature (step_revision sealed key generation number head op root mtime) (signed secret (signed_text (step_revision sealed key generation number head op root mtime))))
  pub held : (few : Blocks) → AreIn cache few → Grounds sealed hashed few ring t left op.change old → OnceAllAdded hashed sealed few ring request.blocks (λ vault. Holds vault (look t) root_id root)
  pub halves : request.halves ≡ []

-- the machine's put of the operation
abbrev pub step_ask : ℕ → List ℕ → Op → Ask
step_ask number name op = record { number = number; revision = record { writer = op.device; name = name; moment = op.moment; deed = Stepped (op ∷ []) } }

-- What the device knows is so where the chain ends with the known revision: its hash, its generation, its tree, which the left pointers hold in blocks of the cache that the folder has too, but for the rows that the operation touched, and that the operation comes next.
pub record IsKnown (sealed : List ℕ → List ℕ → List ℕ) (hashed : List ℕ → List ℕ) (seed : List ℕ) (f : Held) (c : Chain) (generation : ℕ) (head : List ℕ) (op : Op) (t : Tree) (left : Kept) (cache : Cache) (old : Option OldFile) : Type 0 where
  pub some : c ≢ []
  pub head_is : head ≡ head_of f.revisions
  pub generation_is : generation ≡ generation_of c
  pub fits : FitAll (op ∷ []) (tree_at c (length c))
  pub tree : t ≡ fold_ops (op ∷ []) (tree_at c (length c))
  pub seq : op.seq ≡ length (ops_of op.device c) + 1
  pub few : Blocks
  pub cached : AreIn cache few
  pub within : StaysIn few (get f.blocks)
  pub grounds : Grounds sealed hashed few (keys_to seed generation) t left op.change old

-- The request is for the machine's ask.
abbrev pub StepsAreFor : (List ℕ → List ℕ → List ℕ) → (List ℕ → List ℕ → List ℕ) → (List ℕ → List ℕ) → List ℕ → Names → Type 0
StepsAreFor sealed signed hashed seed names = (f : Held) (c : Chain) (generation number : ℕ) (head : List ℕ) (op : Op) (t : Tree) (left : Kept) (cache : Cache) (old : Option OldFile) (request : FolderRequest) → HasChain sealed signed hashed seed names f c
    → IsStepRequest sealed signed hashed (device_secret seed op.device) (folder_key seed generation) generation number head op t left cache (keys_to seed generation) old request → (1 ≤ op.device) × (op.device ≤ f.state.registered) → number ≤ length c + 1
    → (number ≡ length c + 1 → IsKnown sealed hashed seed f c generation head op t left cache old) → IsFor sealed signed hashed seed names f request (step_ask number (names op.device) op)
