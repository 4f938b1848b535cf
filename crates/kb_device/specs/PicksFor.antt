-- A pick, whose request is for the machine's ask.
use Rattle.std.specs.Prelude.{◌≡◌, ℕ, ◌+◌, ◌≤◌, List, [], ◌∷◌, length, Option}
use Rattle.kb_ops.specs.declared.rows.Op.{Op}
use Rattle.kb_ops.specs.Trees.{Tree, fold_ops}
use Rattle.kb_keys.specs.Secrets.{device_secret, folder_key}
use Rattle.kb_snap.specs.Pointers.{Kept}
use Rattle.kb_snap.specs.Chains.{Chain}
use Rattle.kb_snap.specs.Puts.{Ask}
use Rattle.kb_device.specs.Parts.{Flight, Part, Picks}
use Rattle.kb_device.specs.Meets.{PartMeets}
use Rattle.kb_chain.specs.declared.states.FolderRequest.{FolderRequest}
use Rattle.kb_folder.specs.Chains.{Names}
use Rattle.kb_folder.specs.Puts.{Held}
use Rattle.kb_folder.specs.Goes.{HasChain, IsFor}
use Rattle.kb_folder.specs.Stands.{keys_to}
use Rattle.kb_device.specs.Caches.{Cache}
use Rattle.kb_device.specs.declared.patching.OldFile.{OldFile}
use Rattle.kb_device.specs.Knowing.{KnowsStep}
use Rattle.kb_device.specs.Stepping.{IsStepRequest}

-- The request of the first operation of the queue is for what the machine's pick asks.
abbrev pub PicksAreFor : (List ℕ → List ℕ → List ℕ) → (List ℕ → List ℕ → List ℕ) → (List ℕ → List ℕ) → List ℕ → Names → Type 0
PicksAreFor sealed signed hashed seed names = (f : Held) (c : Chain) (d : ℕ) (p q : Part) (flight : Flight) (ask : Ask) (op : Op) (rest : List Op) (generation : ℕ) (head : List ℕ) (t : Tree) (left : Kept) (cache : Cache) (old : Option OldFile) (request : FolderRequest)
    → HasChain sealed signed hashed seed names f c → PartMeets d c p → (step : Picks 1 d (names d) p flight ask q) → step.journal.queue ≡ op ∷ rest → t ≡ fold_ops (op ∷ []) p.base → (1 ≤ d) × (d ≤ f.state.registered)
    → (flight.number ≡ length c + 1 → KnowsStep sealed hashed seed f c generation head t left op.change cache old)
    → IsStepRequest sealed signed hashed (device_secret seed d) (folder_key seed generation) generation flight.number head op t left cache (keys_to seed generation) old request → IsFor sealed signed hashed seed names f request ask
