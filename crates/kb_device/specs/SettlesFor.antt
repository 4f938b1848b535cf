-- A settle, whose request is for the machine's merge.
use Rattle.std.specs.Prelude.{◌≡◌, ℕ, ◌+◌, ◌≤◌, true, List, length}
use Rattle.kb_name.specs.Names.{is_device_name}
use Rattle.kb_name.specs.Moments.{last_second}
use Rattle.kb_ops.specs.Trees.{Tree}
use Rattle.kb_keys.specs.Secrets.{device_secret, folder_key}
use Rattle.kb_snap.specs.Pointers.{Kept}
use Rattle.kb_snap.specs.Chains.{Chain, tree_at, merged_tree, stamp_of}
use Rattle.kb_device.specs.Journals.{Journal}
use Rattle.kb_snap.specs.Lawful.{AreFew}
use Rattle.kb_device.specs.Parts.{Part, HasPlan, tree_shown, merge_ask}
use Rattle.kb_device.specs.Meets.{PartMeets}
use Rattle.kb_chain.specs.declared.states.FolderRequest.{FolderRequest}
use Rattle.kb_folder.specs.Chains.{Names}
use Rattle.kb_folder.specs.Puts.{Held}
use Rattle.kb_folder.specs.Goes.{HasChain, IsFor}
use Rattle.kb_device.specs.Merging.{Branch, merge_plain, IsMergeRequest}
use Rattle.kb_device.specs.Knowing.{KnowsFolder}

-- the branch of a journal
abbrev pub branch_at : ℕ → ℕ → Journal → Branch
branch_at d moment j = record { device = d; moment = moment; base = j.known; first = j.base + 1; last = j.base + length j.queue; ops = j.queue }

-- The request of the branch is for what the machine's settle asks.
abbrev pub SettlesAreFor : (List ℕ → List ℕ → List ℕ) → (List ℕ → List ℕ → List ℕ) → (List ℕ → List ℕ) → List ℕ → Names → Type 0
SettlesAreFor sealed signed hashed seed names = (f : Held) (c : Chain) (d moment plan : ℕ) (p : Part) (j : Journal) (generation : ℕ) (head : List ℕ) (t : Tree) (left : Kept) (request : FolderRequest)
    → HasChain sealed signed hashed seed names f c → PartMeets d c p → HasPlan p j plan → is_device_name (names d) ≡ true → moment ≤ last_second → (1 ≤ d) × (d ≤ f.state.registered) → AreFew (tree_at c plan) (tree_shown p j)
    → t ≡ merged_tree p.base (tree_at c plan) (tree_shown p j) (stamp_of (merge_plain (names d) (branch_at d moment j)) 1 j.queue)
    → (plan ≡ length c → KnowsFolder sealed hashed seed f c generation head t left)
    → IsMergeRequest sealed signed hashed (device_secret seed d) (folder_key seed generation) generation (plan + 1) head (branch_at d moment j) t left request → IsFor sealed signed hashed seed names f request (merge_ask d (record { name = names d; moment = moment; rule = 1 }) j plan)
