-- Founding a folder.
use Rattle.std.specs.Prelude.{◌≡◌, ℕ, List, [], ◌∷◌, ◌≤◌, length, Some, None, Result, Ok, Err}
use Rattle.std.specs.List.{AllByRecursion}
use Rattle.kb_edge.specs.declared.faults.Memory.{Memory}
use Rattle.kb_ops.specs.Trees.{start}
use Rattle.kb_keys.specs.Secrets.{server_half}
use Rattle.kb_keys.specs.declared.entries.Entry.{Entry}
use Rattle.kb_keys.specs.declared.policy.Action.TheVariants as action
use Rattle.kb_blocks.specs.declared.pointer.Ptr.{Ptr}
use Rattle.kb_files.specs.Opens.{Blocks, Opens}
use Rattle.kb_snap.specs.Holds.{HoldsTree}
use Rattle.kb_chain.specs.declared.revisions.RevisionKind.TheVariants.{Found}
use Rattle.kb_chain.specs.declared.revisions.Revision.{Revision}
use Rattle.kb_chain.specs.declared.privates.Private.{Private}
use Rattle.kb_chain.specs.declared.states.FolderRequest.{FolderRequest}
use Rattle.kb_chain.specs.Revisions.{no_hash}
use Rattle.kb_folder.specs.Stands.{Spells, keys_to}
use Rattle.kb_chain.specs.declared.states.PutRefusal.{PutRefusal}
use Rattle.kb_chain.specs.declared.states.PutRefusal.TheVariants as why
use Rattle.kb_folder.specs.Chains.{Plain, Names}
use Rattle.kb_snap.specs.Chains.Deed.{Founded}
use Rattle.kb_folder.specs.Puts.{Held}
use Rattle.kb_folder.specs.Lands.{FolderStands}
use Rattle.kb_folder.specs.Goes.{HasChain}

-- the revision that founds a folder
abbrev pub founded_by : Names → ℕ → ℕ → Plain
founded_by names writer moment = record { writer = writer; name = names writer; moment = moment; deed = Founded }

-- names that are never used, as an empty chain has no revision
abbrev pub any_names : Names
any_names d = []

module _ (sealed signed : List ℕ → List ℕ → List ℕ) (hashed : List ℕ → List ℕ) (seed : List ℕ) where
  -- the folder has one revision then, and takes as many and has the same devices, or memory ran out and nothing changed
  abbrev pub Founds : ℕ → ℕ → Held → Held → Result ℕ Memory → Type 0
  Founds writer moment old new (Ok number) = (number ≡ 1) × ((names : Names) → FolderStands sealed signed hashed seed names new (founded_by names writer moment ∷ [])) × (new.limit ≡ old.limit) × (new.state.registered ≡ old.state.registered)
  Founds writer moment old new (Err memory) = new ≡ old

module _ (sealed signed : List ℕ → List ℕ → List ℕ) (hashed : List ℕ → List ℕ) (seed : List ℕ) (names : Names) where
  -- A folder that had the machine's empty chain has its chain of the one revision then.
  abbrev pub FoundsGo : Type 0
  FoundsGo = (old new : Held) (by moment number : ℕ) → HasChain sealed signed hashed seed names old [] → Founds sealed signed hashed seed by moment old new (Ok number) → (number ≡ 1) × HasChain sealed signed hashed seed names new (founded_by names by moment ∷ [])

-- the answer is a number or want of memory
abbrev pub IsNumberOrMemory : Result ℕ PutRefusal → Type 0
IsNumberOrMemory (Ok number) = Unit {0}
IsNumberOrMemory (Err why.Memory) = Unit {0}
IsNumberOrMemory (Err refusal) = ⊥

-- the same answer
abbrev pub Tells : Result ℕ PutRefusal → Result ℕ Memory → Type 0
Tells (Ok number) (Ok told) = told ≡ number
Tells (Ok number) (Err memory) = ⊥
Tells (Err refusal) (Ok told) = ⊥
Tells (Err refusal) (Err memory) = Unit {0}

-- ---- the first revision

-- it lands no operation, on a tree of the root alone
abbrev pub first_private : Ptr → Private
first_private root = record { mtime = 0; root = root; base = None; ops = [] }

abbrev pub unsigned : ℕ → ℕ → List ℕ → List Entry → Revision
unsigned by moment private entries = record {
  kind = Found;
  number = 1;
  previous = no_hash;
  writer = by;
  moment = moment;
  generation = 1;
  first = 0;
  last = 0;
  bundle = Some (record { action = action.Found; device = by; entries = entries });
  private = private;
  signature = no_hash;
}

module _ (sealed signed : List ℕ → List ℕ → List ℕ) (hashed : List ℕ → List ℕ) (seed : List ℕ) where
  -- the request spells the first revision, and its one block holds the root alone
  pub record IsFirst (by moment : ℕ) (request : FolderRequest) : Type 0 where
    pub spells : Spells sealed signed seed any_names [] [] request.revision (founded_by any_names by moment)
    pub held : (blocks : Blocks) → AllByRecursion (λ b. blocks (hashed b) ≡ Some b) request.blocks → HoldsTree (Opens sealed hashed blocks (keys_to seed spells.revision.generation)) spells.private.root spells.private.mtime start
    pub halves : request.halves ≡ (record { device = by; generation = 1; half = server_half seed by 1 }) ∷ []
    pub one : length request.blocks ≤ 1
