-- Granting and revoking.
use Rattle.std.specs.Prelude.{◌≡◌, ℕ, ◌+◌, ◌≤◌, ◌<◌, true, false, List, [], ◌∷◌, length, map, reverse, Some, None, IsSome, Result, Ok, Err}
use Rattle.sha2.specs.Sha256.{sha256}
use Rattle.kb_keys.specs.declared.policy.Action.{Action}
use Rattle.kb_keys.specs.declared.policy.Action.TheVariants as action
use Rattle.kb_keys.specs.declared.entries.Entry.{Entry}
use Rattle.kb_keys.specs.declared.halves.Half.{Half}
use Rattle.kb_keys.specs.Policies.{role_at}
use Rattle.kb_keys.specs.Secrets.{device_secret, folder_key, server_half}
use Rattle.kb_blocks.specs.declared.pointer.Ptr.{Ptr}
use Rattle.kb_chain.specs.declared.revisions.RevisionKind.TheVariants.{Rekey}
use Rattle.kb_chain.specs.declared.revisions.Revision.{Revision}
use Rattle.kb_chain.specs.declared.privates.Private.{Private}
use Rattle.kb_chain.specs.declared.states.FolderRequest.{FolderRequest}
use Rattle.kb_chain.specs.declared.states.PutRefusal.{PutRefusal}
use Rattle.kb_chain.specs.declared.states.PutRefusal.TheVariants as why
use Rattle.kb_chain.specs.Revisions.{revision_text, signed_text, with_signature, no_hash, IsRevision}
use Rattle.kb_chain.specs.Privates.{private_text, IsPrivate}
use Rattle.kb_chain.specs.Checks.{granted, remaining, has_other_writer}
use Rattle.kb_snap.specs.Chains.{Rekeyed, Chain}
use Rattle.kb_keys.specs.Members.{is_writer, IsLastWriter}
use Rattle.kb_snap.specs.Members.{FitsAction}
use Rattle.kb_snap.specs.Answers as says
use Rattle.kb_snap.specs.Rekeys.{RekeyStep}
use Rattle.kb_folder.specs.Chains.{Plain, Back, Names, Place, role_in, generation_in}
use Rattle.kb_folder.specs.Stands.{Revisions}
use Rattle.kb_folder.specs.Puts.{Held}
use Rattle.kb_folder.specs.Lands.{FolderStands}
use Rattle.kb_folder.specs.Goes.{Grows, HasChain}
use Rattle.kb_rekey.specs.declared.rekeying.RekeyFault.{RekeyFault}
use Rattle.kb_rekey.specs.declared.rekeying.RekeyFault.TheVariants as rekey
use Rattle.kb_rekey.specs.declared.rekeying.Last.{Last}

-- ---- what a change of a member is

-- the revision that changes a member
abbrev pub rekeyed_by : Names → ℕ → ℕ → Action → ℕ → Plain
rekeyed_by names by moment a who = record { writer = by; name = names by; moment = moment; deed = Rekeyed a who }

abbrev pub IsGrant : Action → Type 0
IsGrant action.Found = ⊥
IsGrant action.GrantWriter = Unit {0}
IsGrant action.GrantReader = Unit {0}
IsGrant action.Revoke = ⊥

abbrev pub IsRevoke : Action → Type 0
IsRevoke action.Found = ⊥
IsRevoke action.GrantWriter = ⊥
IsRevoke action.GrantReader = ⊥
IsRevoke action.Revoke = Unit {0}

-- The answer of a folder with this chain, which takes so many revisions: the first refusal that applies. Want of memory may take the place of any.
abbrev pub RekeyAnswer : ℕ → Back → ℕ → Action → ℕ → Result ℕ RekeyFault → Type 0
RekeyAnswer limit c by a who (Ok n) = (is_writer (role_in c by) ≡ true) × FitsAction (reverse c) a who × (length c < limit) × (n ≡ length c + 1)
RekeyAnswer limit c by a who (Err rekey.NotWriter) = is_writer (role_in c by) ≡ false
RekeyAnswer limit c by a who (Err rekey.Known) = (is_writer (role_in c by) ≡ true) × IsGrant a × IsSome (role_in c who)
RekeyAnswer limit c by a who (Err rekey.NotMember) = (is_writer (role_in c by) ≡ true) × IsRevoke a × (role_in c who ≡ None)
RekeyAnswer limit c by a who (Err rekey.LastWriter) = (is_writer (role_in c by) ≡ true) × IsRevoke a × IsLastWriter (role_in c) who
RekeyAnswer limit c by a who (Err rekey.GenEnd) = (is_writer (role_in c by) ≡ true) × IsRevoke a × IsSome (role_in c who) × ¬ IsLastWriter (role_in c) who × (64 ≤ generation_in c)
RekeyAnswer limit c by a who (Err rekey.ChainEnd) = (is_writer (role_in c by) ≡ true) × FitsAction (reverse c) a who × (limit ≤ length c)
RekeyAnswer limit c by a who (Err rekey.Memory) = Unit {0}

-- the chain after the answer
abbrev pub chain_after : Back → Plain → Result ℕ RekeyFault → Back
chain_after c x (Ok n) = x ∷ c
chain_after c x (Err fault) = c

-- One revision stands behind the others, and no block, secret or limit changes.
pub record IsFollowed (old new : Held) : Type 0 where
  pub bytes : List ℕ
  pub revisions : new.revisions ≡ bytes ∷ old.revisions
  pub blocks : new.blocks ≡ old.blocks
  pub secrets : new.secrets ≡ old.secrets
  pub limit : new.limit ≡ old.limit
  pub registered : new.state.registered ≡ old.state.registered

-- a refusal changes nothing
abbrev pub Changes : Held → Held → Result ℕ RekeyFault → Type 0
Changes old new (Ok n) = IsFollowed old new
Changes old new (Err fault) = new ≡ old

module _ (sealed signed : List ℕ → List ℕ → List ℕ) (hashed : List ℕ → List ℕ) (seed : List ℕ) where
  -- the folder stands for some chain under the seed
  pub record IsStanding (f : Held) : Type 0 where
    pub names : Names
    pub chain : Back
    pub stands : FolderStands sealed signed hashed seed names f chain

  -- Whatever chain the folder stands for, the answer is that chain's, and the folder then stands for the chain with the one revision, or as before.
  pub record Rekeys (by : ℕ) (a : Action) (who moment : ℕ) (old new : Held) (result : Result ℕ RekeyFault) : Type 0 where
    pub changes : Changes old new result
    pub answer : (names : Names) (c : Back) → FolderStands sealed signed hashed seed names old c → RekeyAnswer old.limit c by a who result
    pub stands : (names : Names) (c : Back) → FolderStands sealed signed hashed seed names old c → FolderStands sealed signed hashed seed names new (chain_after c (rekeyed_by names by moment a who) result)

-- ---- as the plain machine's step

-- the machine's answer; want of memory has none
abbrev pub RekeyMeans : Result ℕ RekeyFault → Result ℕ says.RekeyFault → Type 0
RekeyMeans (Ok n) answer = answer ≡ Ok n
RekeyMeans (Err rekey.NotWriter) answer = answer ≡ Err says.RekeyFault.NotWriter
RekeyMeans (Err rekey.Known) answer = answer ≡ Err says.RekeyFault.Known
RekeyMeans (Err rekey.NotMember) answer = answer ≡ Err says.RekeyFault.NotMember
RekeyMeans (Err rekey.LastWriter) answer = answer ≡ Err says.RekeyFault.LastWriter
RekeyMeans (Err rekey.GenEnd) answer = answer ≡ Err says.RekeyFault.GenEnd
RekeyMeans (Err rekey.ChainEnd) answer = answer ≡ Err says.RekeyFault.ChainEnd
RekeyMeans (Err rekey.Memory) answer = ⊥

module _ (sealed signed : List ℕ → List ℕ → List ℕ) (hashed : List ℕ → List ℕ) (seed : List ℕ) (names : Names) where
  -- A folder that has the machine's chain goes on as the machine does.
  abbrev pub RekeysGo : Type 0
  RekeysGo = (old new : Held) (c : Chain) (by : ℕ) (a : Action) (who moment : ℕ) (result : Result ℕ RekeyFault) (answer : Result ℕ says.RekeyFault) → HasChain sealed signed hashed seed names old c → Rekeys sealed signed hashed seed by a who moment old new result
      → RekeyMeans result answer → (c' : Chain) × RekeyStep c (rekeyed_by names by moment a who) by a who answer c' × Grows old new × HasChain sealed signed hashed seed names new c'

-- ---- the request

-- what the last revision leaves: the hash of its bytes, and what its private part says of the tree
pub record EndsWith (sealed : List ℕ → List ℕ → List ℕ) (seed : List ℕ) (bs : Revisions) (last : Last) : Type 0 where
  pub revision : Revision
  pub is : IsRevision revision
  pub older : Revisions
  pub revisions : bs ≡ revision_text revision ∷ older
  pub head : last.head ≡ sha256 (revision_text revision)
  pub private : Private
  pub is_private : IsPrivate revision.kind private
  pub opens : revision.private ≡ sealed (folder_key seed revision.generation) (private_text revision.kind private)
  pub mtime : private.mtime ≡ last.mtime
  pub root : private.root ≡ last.root

abbrev pub rekey_private : ℕ → Ptr → Private
rekey_private mtime root = record { mtime = mtime; root = root; base = None; ops = [] }

abbrev pub rekey_unsigned : ℕ → List ℕ → ℕ → ℕ → ℕ → Action → ℕ → List Entry → List ℕ → Revision
rekey_unsigned number head by moment generation a who entries private = record {
  kind = Rekey;
  number = number;
  previous = head;
  writer = by;
  moment = moment;
  generation = generation;
  first = 0;
  last = 0;
  bundle = Some (record { action = a; device = who; entries = entries });
  private = private;
  signature = no_hash;
}

abbrev pub signed_by : (List ℕ → List ℕ → List ℕ) → List ℕ → Revision → Revision
signed_by signed secret r = with_signature r (signed secret (signed_text r))

-- the halves of entries
abbrev pub halves_of : List ℕ → List Entry → List Half
halves_of seed es = map (λ e. record { device = e.device; generation = e.generation; half = server_half seed e.device e.generation }) es

-- The request spells a revision that changes a member, keeps the tree, and sends no block.
pub record IsRekeyRequest (sealed signed : List ℕ → List ℕ → List ℕ) (seed : List ℕ) (last : Last) (number by moment generation : ℕ) (a : Action) (who : ℕ) (entries : List Entry) (request : FolderRequest) : Type 0 where
  pub is_private : IsPrivate Rekey (rekey_private last.mtime last.root)
  pub is : IsRevision (signed_by signed (device_secret seed by) (rekey_unsigned number last.head by moment generation a who entries (sealed (folder_key seed generation) (private_text Rekey (rekey_private last.mtime last.root)))))
  pub spelled : request.revision ≡ revision_text (signed_by signed (device_secret seed by) (rekey_unsigned number last.head by moment generation a who entries (sealed (folder_key seed generation) (private_text Rekey (rekey_private last.mtime last.root)))))
  pub halves : request.halves ≡ halves_of seed entries
  pub blocks : request.blocks ≡ []

-- what is tested before
abbrev pub MayChange : Held → Action → ℕ → Type 0
MayChange f action.Found who = ⊥
MayChange f action.GrantWriter who = (role_at f.state.policy.0 who ≡ None) × (1 ≤ who) × (who ≤ f.state.registered)
MayChange f action.GrantReader who = (role_at f.state.policy.0 who ≡ None) × (1 ≤ who) × (who ≤ f.state.registered)
MayChange f action.Revoke who = IsSome (role_at f.state.policy.0 who) × (has_other_writer f.state.policy.0 who ≡ true) × (f.state.policy.1 < 64)

-- the places of the entries
abbrev pub places_for : Held → Action → ℕ → List Place
places_for f action.Found who = []
places_for f action.GrantWriter who = granted who f.state.policy.1
places_for f action.GrantReader who = granted who f.state.policy.1
places_for f action.Revoke who = remaining f.state.policy.0 who (f.state.policy.1 + 1)

-- ---- the answer

-- the answer is a number, that the chain is full, or want of memory
abbrev pub IsPlainAnswer : Result ℕ PutRefusal → Type 0
IsPlainAnswer (Ok number) = Unit {0}
IsPlainAnswer (Err why.ChainEnd) = Unit {0}
IsPlainAnswer (Err why.Memory) = Unit {0}
IsPlainAnswer (Err refusal) = ⊥

-- the same answer
abbrev pub Answers : Result ℕ PutRefusal → Result ℕ RekeyFault → Type 0
Answers (Ok number) told = told ≡ Ok number
Answers (Err why.ChainEnd) told = told ≡ Err rekey.ChainEnd
Answers (Err why.Memory) told = told ≡ Err rekey.Memory
Answers (Err refusal) told = ⊥
