-- The request that resolves a branch.
use Rattle.std.specs.Prelude.{◌≡◌, ℕ, ◌+◌, ◌≤◌, List, [], length, Some, None}
use Rattle.std.specs.FinMap.{get}
use Rattle.kb_name.specs.Nodes.{root as root_id}
use Rattle.kb_ops.specs.declared.rows.Op.{Op}
use Rattle.kb_ops.specs.declared.rows.Row.{Row}
use Rattle.kb_ops.specs.Trees.{Tree, look, fold_ops, IsWellFormed}
use Rattle.kb_keys.specs.Secrets.{device_secret, folder_key}
use Rattle.kb_blocks.specs.declared.pointer.Ptr.{Ptr}
use Rattle.kb_files.specs.Opens.{Opens}
use Rattle.kb_snap.specs.Holds.{Holds}
use Rattle.kb_snap.specs.Pointers.{Kept, AllHold}
use Rattle.kb_snap.specs.Builds.{OnceAllStored}
use Rattle.kb_snap.specs.Chains.{Merged, Revision as PlainRevision, Chain, ops_of, tree_at, merged_tree, stamp_of}
use Rattle.kb_snap.specs.Members.{generation_of}
use Rattle.kb_snap.specs.Puts.{Ask}
use Rattle.kb_snap.specs.Lawful.{AreOf, CountsFrom, FitsMerge}
use Rattle.kb_chain.specs.declared.revisions.RevisionKind.TheVariants.{Merge}
use Rattle.kb_chain.specs.declared.revisions.Revision.{Revision}
use Rattle.kb_chain.specs.declared.privates.Private.{Private}
use Rattle.kb_chain.specs.declared.states.FolderRequest.{FolderRequest}
use Rattle.kb_chain.specs.Revisions.{revision_text, signed_text, with_signature, no_hash, IsRevision}
use Rattle.kb_chain.specs.Privates.{private_text, IsPrivate}
use Rattle.kb_folder.specs.Chains.{Names}
use Rattle.kb_folder.specs.Stands.{head_of, keys_to}
use Rattle.kb_folder.specs.Puts.{Held}
use Rattle.kb_folder.specs.Goes.{HasChain, IsFor}

-- a device's operations with their seqs, done on the tree of the revision base, and when they are merged
pub record Branch : Type 0 where
  pub device : ℕ
  pub moment : ℕ
  pub base : ℕ
  pub first : ℕ
  pub last : ℕ
  pub ops : List Op

abbrev pub branch_of : ℕ → ℕ → ℕ → ℕ → ℕ → List Op → Branch
branch_of device moment base first last ops = record { device = device; moment = moment; base = base; first = first; last = last; ops = ops }

abbrev pub merge_private : Ptr → ℕ → ℕ → List Op → Private
merge_private root mtime base ops = record { mtime = mtime; root = root; base = Some base; ops = ops }

abbrev pub merge_unsigned : ℕ → List ℕ → ℕ → ℕ → ℕ → ℕ → ℕ → List ℕ → Revision
merge_unsigned number head device moment generation first last private = record {
  kind = Merge;
  number = number;
  previous = head;
  writer = device;
  moment = moment;
  generation = generation;
  first = first;
  last = last;
  bundle = None;
  private = private;
  signature = no_hash;
}

-- the revision before it is signed, with its private part sealed
abbrev pub merge_revision : (List ℕ → List ℕ → List ℕ) → List ℕ → ℕ → ℕ → List ℕ → Branch → Ptr → ℕ → Revision
merge_revision sealed key generation number head b root mtime = merge_unsigned number head b.device b.moment generation b.first b.last (sealed key (private_text Merge (merge_private root mtime b.base b.ops)))

-- The request spells a revision that merges the branch. Once its blocks are stored its pointer holds the tree, where the left pointers hold their rows.
pub record IsMergeRequest (sealed signed : List ℕ → List ℕ → List ℕ) (hashed : List ℕ → List ℕ) (secret key : List ℕ) (generation number : ℕ) (head : List ℕ) (b : Branch) (t : Tree) (left : Kept) (request : FolderRequest) : Type 0 where
  pub root : Ptr
  pub mtime : ℕ
  pub formed : IsWellFormed t
  pub timed : (r : Row) → look t root_id ≡ Some r → r.mtime ≡ mtime
  pub is_private : IsPrivate Merge (merge_private root mtime b.base b.ops)
  pub is : IsRevision (with_signature (merge_revision sealed key generation number head b root mtime) (signed secret (signed_text (merge_revision sealed key generation number head b root mtime))))
  pub spelled : request.revision ≡ revision_text (with_signature (merge_revision sealed key generation number head b root mtime) (signed secret (signed_text (merge_revision sealed key generation number head b root mtime))))
  pub held : OnceAllStored hashed sealed generation key request.blocks (λ vault. AllHold vault (look t) left → Holds vault (look t) root_id root)
  pub halves : request.halves ≡ []

-- the machine's revision of the merge
abbrev pub merge_plain : List ℕ → Branch → PlainRevision
merge_plain name b = record { writer = b.device; name = name; moment = b.moment; deed = Merged b.base 1 b.ops }

abbrev pub merge_ask : ℕ → List ℕ → Branch → Ask
merge_ask number name b = record { number = number; revision = merge_plain name b }

-- What the device knows is so where the chain ends with the revision that it merges into.
pub record IsMerging (sealed : List ℕ → List ℕ → List ℕ) (hashed : List ℕ → List ℕ) (seed : List ℕ) (f : Held) (c : Chain) (generation : ℕ) (head name : List ℕ) (b : Branch) (t : Tree) (left : Kept) : Type 0 where
  pub head_is : head ≡ head_of f.revisions
  pub generation_is : generation ≡ generation_of c
  pub fits : FitsMerge c (merge_plain name b) b.base 1 b.ops
  pub few : length b.ops ≤ 4096
  pub own : AreOf b.device b.ops
  pub counts : CountsFrom b.first b.ops
  pub first : b.first ≡ length (ops_of b.device c) + 1
  pub last : b.first + length b.ops ≡ b.last + 1
  pub tree : t ≡ merged_tree (tree_at c b.base) (tree_at c (length c)) (fold_ops b.ops (tree_at c b.base)) (stamp_of (merge_plain name b) 1 b.ops)
  pub held : AllHold (Opens sealed hashed (get f.blocks) (keys_to seed generation)) (look t) left

-- The request is for the machine's merge.
abbrev pub MergesAreFor : (List ℕ → List ℕ → List ℕ) → (List ℕ → List ℕ → List ℕ) → (List ℕ → List ℕ) → List ℕ → Names → Type 0
MergesAreFor sealed signed hashed seed names = (f : Held) (c : Chain) (generation number : ℕ) (head : List ℕ) (b : Branch) (t : Tree) (left : Kept) (request : FolderRequest) → HasChain sealed signed hashed seed names f c
    → IsMergeRequest sealed signed hashed (device_secret seed b.device) (folder_key seed generation) generation number head b t left request → (1 ≤ b.device) × (b.device ≤ f.state.registered) → number ≤ length c + 1
    → (number ≡ length c + 1 → IsMerging sealed hashed seed f c generation head (names b.device) b t left) → IsFor sealed signed hashed seed names f request (merge_ask number (names b.device) b)
