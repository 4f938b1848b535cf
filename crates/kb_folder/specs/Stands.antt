-- What a folder's bytes stand for.
use Rattle.std.specs.Prelude.{◌≡◌, ℕ, ◌+◌, List, [], ◌∷◌, length, map, nat_eq, nat_le, ◌&&◌, if◌then◌else◌, Option, Some, None, is_some}
use Rattle.sha2.specs.Sha256.{sha256}
use Rattle.kb_ops.specs.declared.rows.Op.{Op}
use Rattle.kb_keys.specs.declared.policy.Role.{Role}
use Rattle.kb_keys.specs.declared.policy.Action.TheVariants as action
use Rattle.kb_keys.specs.declared.entries.Entry.{Entry}
use Rattle.kb_keys.specs.declared.halves.Half.{Half}
use Rattle.kb_keys.specs.Secrets.{device_secret, folder_key, server_half}
use Rattle.kb_keys.specs.Bundles.{made_entry}
use Rattle.kb_keys.specs.Halves.{half_at}
use Rattle.kb_keys.specs.Policies.{role_at}
use Rattle.kb_files.specs.Opens.{Blocks, Keys, Opens}
use Rattle.kb_snap.specs.Holds.{HoldsTree}
use Rattle.kb_chain.specs.declared.revisions.RevisionKind.{RevisionKind}
use Rattle.kb_chain.specs.declared.revisions.RevisionKind.TheVariants.{Found, Step, Steps, Merge, Join, Rekey}
use Rattle.kb_chain.specs.declared.bundles.BundlePart.{BundlePart}
use Rattle.kb_chain.specs.declared.revisions.Revision.{Revision}
use Rattle.kb_chain.specs.declared.privates.Private.{Private}
use Rattle.kb_chain.specs.Revisions.{revision_text, signed_text, no_hash, IsRevision}
use Rattle.kb_chain.specs.Privates.{private_text, IsPrivate}
use Rattle.kb_snap.specs.Chains.{Deed, Founded, Stepped, Merged, Rekeyed, ops_in}
use Rattle.kb_snap.specs.Lawful.{CountsFrom}
use Rattle.kb_folder.specs.Chains.{Plain, Back, Names, Place, tree_at, role_in, generation_in, places_of, Follows}

-- the bytes of revisions, the last first
abbrev pub Revisions : Type 0
Revisions = List (List ℕ)

-- the hash of the last revision, or zeros where there is none
abbrev pub head_of : Revisions → List ℕ
head_of [] = no_hash
head_of (b ∷ bs) = sha256 b

-- a step of one operation, or of several
abbrev pub step_kind : List Op → RevisionKind
step_kind [] = Step
step_kind (op ∷ []) = Step
step_kind (op ∷ next ∷ ops) = Steps

-- a merge by the first rule, or by the second
abbrev pub merge_kind : ℕ → RevisionKind
merge_kind rule = if nat_eq rule 1 then Merge else Join

abbrev pub kind_of : Deed → RevisionKind
kind_of Founded = Found
kind_of (Stepped ops) = step_kind ops
kind_of (Merged base rule ops) = merge_kind rule
kind_of (Rekeyed a who) = Rekey

abbrev pub base_of : Deed → Option ℕ
base_of Founded = None
base_of (Stepped ops) = None
base_of (Merged base rule ops) = Some base
base_of (Rekeyed a who) = None

-- the operations have the seqs from the first to the last, or there are none
abbrev pub HaveSeqs : ℕ → ℕ → List Op → Type 0
HaveSeqs first last [] = (first ≡ 0) × (last ≡ 0)
HaveSeqs first last (op ∷ ops) = CountsFrom first (op ∷ ops) × (first + length (op ∷ ops) ≡ last + 1)

-- the folder keys of the generations up to this one, and no others
abbrev pub keys_to : List ℕ → ℕ → Keys
keys_to seed g = λ i. if nat_le 1 i && nat_le i g then Some (folder_key seed i) else None

module _ (sealed : List ℕ → List ℕ → List ℕ) where
  -- the entries that give the keys of these places
  abbrev pub entries_for : List ℕ → List Place → List Entry
  entries_for seed ps = map (λ p. made_entry sealed seed p.0 p.1 (folder_key seed p.1)) ps

  -- what the last revision of the chain says of members and keys
  abbrev pub bundle_for : List ℕ → ℕ → Deed → List Place → Option BundlePart
  bundle_for seed writer Founded ps = Some (record { action = action.Found; device = writer; entries = entries_for seed ps })
  bundle_for seed writer (Stepped ops) ps = None
  bundle_for seed writer (Merged base rule ops) ps = None
  bundle_for seed writer (Rekeyed a who) ps = Some (record { action = a; device = who; entries = entries_for seed ps })

-- The bytes spell a revision behind these, which is the last one of the chain, and its private part opens to what was done.
pub record Spells (sealed signed : List ℕ → List ℕ → List ℕ) (seed : List ℕ) (names : Names) (bs : Revisions) (c : Back) (b : List ℕ) (x : Plain) : Type 0 where
  pub revision : Revision
  pub is : IsRevision revision
  pub spelled : b ≡ revision_text revision
  pub number : revision.number ≡ length c + 1
  pub previous : revision.previous ≡ head_of bs
  pub kind : revision.kind ≡ kind_of x.deed
  pub writer : revision.writer ≡ x.writer
  pub name : x.name ≡ names x.writer
  pub moment : revision.moment ≡ x.moment
  pub generation : revision.generation ≡ generation_in (x ∷ c)
  pub seqs : HaveSeqs revision.first revision.last (ops_in x.deed)
  pub bundle : revision.bundle ≡ bundle_for sealed seed x.writer x.deed (places_of (x ∷ c))
  pub signature : revision.signature ≡ signed (device_secret seed x.writer) (signed_text revision)
  pub private : Private
  pub is_private : IsPrivate revision.kind private
  pub opens : revision.private ≡ sealed (folder_key seed revision.generation) (private_text revision.kind private)
  pub base : private.base ≡ base_of x.deed
  pub ops : private.ops ≡ ops_in x.deed

-- The private part's pointer holds the tree after the chain, by blocks of no later generation than this one.
abbrev pub HoldsAfter : (List ℕ → List ℕ → List ℕ) → (List ℕ → List ℕ) → List ℕ → Blocks → Back → ℕ → Private → Type 0
HoldsAfter sealed hashed seed blocks c generation private = HoldsTree (Opens sealed hashed blocks (keys_to seed generation)) private.root private.mtime (tree_at c (length c))

module _ (sealed signed : List ℕ → List ℕ → List ℕ) (hashed : List ℕ → List ℕ) (seed : List ℕ) (names : Names) where
  -- The last revision is spelled by its bytes, and its blocks hold its tree.
  pub record IsWritten (blocks : Blocks) (bs : Revisions) (c : Back) (b : List ℕ) (x : Plain) : Type 0 where
    pub spells : Spells sealed signed seed names bs c b x
    pub held : HoldsAfter sealed hashed seed blocks (x ∷ c) spells.revision.generation spells.private

  -- The revisions stand for the chain: each by its own bytes, behind those before it.
  abbrev pub Stands : ℕ → Blocks → Revisions → Back → Type 0
  Stands registered blocks [] [] = Unit {0}
  Stands registered blocks [] (x ∷ c) = ⊥
  Stands registered blocks (b ∷ bs) [] = ⊥
  Stands registered blocks (b ∷ bs) (x ∷ c) = Stands registered blocks bs c × IsWritten blocks bs c b x × Follows registered c x

-- A device that is a member after the chain has halves of all generations, and no other has any.
abbrev pub HalvesStand : List ℕ → Back → List Half → Type 0
HalvesStand seed c halves = (d g : ℕ) → half_at halves d g ≡ (if is_some (role_in c d) && (nat_le 1 g && nat_le g (generation_in c)) then Some (server_half seed d g) else None)

-- the members and the generation are those after the chain
pub record PolicyStands (c : Back) (policy : List (Option Role) × ℕ) : Type 0 where
  pub roles : (d : ℕ) → role_at policy.0 d ≡ role_in c d
  pub generation : policy.1 ≡ generation_in c
