-- What keys a change of a member leaves.
use Rattle.std.specs.Prelude.{◌≡◌, ℕ, ◌+◌, ◌≤◌, List, [], ◌∷◌, Some, None, IsSome}
use Rattle.kb_keys.specs.declared.policy.Role.TheVariants.{Writer}
use Rattle.kb_keys.specs.declared.policy.Action.{Action}
use Rattle.kb_keys.specs.declared.policy.Action.TheVariants as action
use Rattle.kb_keys.specs.Policies.{role_after}
use Rattle.kb_keys.specs.Halves.{half_at}
use Rattle.kb_keys.specs.Secrets.{folder_key, server_half}
use Rattle.kb_keys.specs.Laws.{HasKey}
use Rattle.kb_chain.specs.declared.revisions.Revision.{Revision}
use Rattle.kb_chain.specs.Revisions.{revision_text, IsRevision}
use Rattle.kb_chain.specs.Checks.{entries_of}
use Rattle.kb_folder.specs.Chains.{Back, Names, role_in, generation_in}
use Rattle.kb_folder.specs.Stands.{Revisions}
use Rattle.kb_folder.specs.Puts.{Held}
use Rattle.kb_folder.specs.Lands.{FolderStands}
use Rattle.kb_rekey.specs.Founding.{founded_by}
use Rattle.kb_rekey.specs.Rekeying.{rekeyed_by, IsGrant}

-- The device gets the generation's folder key: an entry of the folder's last revision gives it with the half that the folder keeps.
pub record GetsKey (sealed : List ℕ → List ℕ → List ℕ) (seed : List ℕ) (f : Held) (d g : ℕ) : Type 0 where
  pub revision : Revision
  pub older : Revisions
  pub last : f.revisions ≡ revision_text revision ∷ older
  pub is : IsRevision revision
  pub entry : HasKey sealed seed d g (folder_key seed g) (entries_of revision.bundle)
  pub half : half_at f.halves d g ≡ Some (server_half seed d g)

module _ (sealed signed : List ℕ → List ℕ → List ℕ) (hashed : List ℕ → List ℕ) where
  -- The device that founds a folder is its only member, a writer, and gets the one key. No other device has a half.
  pub record Began (seed : List ℕ) (new : Held) (names : Names) (by moment : ℕ) : Type 0 where
    pub role : role_in (founded_by names by moment ∷ []) by ≡ Some Writer
    pub generation : generation_in (founded_by names by moment ∷ []) ≡ 1
    pub key : GetsKey sealed seed new by 1
    pub others : (d : ℕ) → (d ≡ by → ⊥) → (role_in (founded_by names by moment ∷ []) d ≡ None) × ((g : ℕ) → half_at new.halves d g ≡ None)

  -- A granted device has its role then, and gets the keys of all generations. No other device's role or halves change, and no key is new.
  pub record Granted (seed : List ℕ) (old new : Held) (c : Back) (names : Names) (by moment : ℕ) (a : Action) (who : ℕ) : Type 0 where
    pub role : role_in (rekeyed_by names by moment a who ∷ c) who ≡ role_after a
    pub generation : generation_in (rekeyed_by names by moment a who ∷ c) ≡ generation_in c
    pub keys : (g : ℕ) → 1 ≤ g → g ≤ generation_in c → GetsKey sealed seed new who g
    pub others : (d : ℕ) → (d ≡ who → ⊥) → (role_in (rekeyed_by names by moment a who ∷ c) d ≡ role_in c d) × ((g : ℕ) → half_at new.halves d g ≡ half_at old.halves d g)

  -- A revoked device has no role and no half then. The members that remain get one new key, and keep their roles and halves.
  pub record Revoked (seed : List ℕ) (old new : Held) (c : Back) (names : Names) (by moment who : ℕ) : Type 0 where
    pub role : role_in (rekeyed_by names by moment action.Revoke who ∷ c) who ≡ None
    pub generation : generation_in (rekeyed_by names by moment action.Revoke who ∷ c) ≡ generation_in c + 1
    pub halves : (g : ℕ) → half_at new.halves who g ≡ None
    pub keys : (d : ℕ) → (d ≡ who → ⊥) → IsSome (role_in c d) → GetsKey sealed seed new d (generation_in c + 1)
    pub others : (d : ℕ) → (d ≡ who → ⊥) → (role_in (rekeyed_by names by moment action.Revoke who ∷ c) d ≡ role_in c d) × ((g : ℕ) → g ≤ generation_in c → half_at new.halves d g ≡ half_at old.halves d g)

  -- These are so wherever the folders stand for the chain before and after.
  abbrev pub FoundsGive : Type 0
  FoundsGive = (seed : List ℕ) (names : Names) (new : Held) (by moment : ℕ) → FolderStands sealed signed hashed seed names new (founded_by names by moment ∷ []) → Began seed new names by moment

  abbrev pub GrantsGive : Type 0
  GrantsGive = (seed : List ℕ) (names : Names) (old new : Held) (c : Back) (by moment : ℕ) (a : Action) (who : ℕ) → IsGrant a → FolderStands sealed signed hashed seed names old c → FolderStands sealed signed hashed seed names new (rekeyed_by names by moment a who ∷ c)
      → Granted seed old new c names by moment a who

  abbrev pub RevokesTake : Type 0
  RevokesTake = (seed : List ℕ) (names : Names) (old new : Held) (c : Back) (by moment who : ℕ) → FolderStands sealed signed hashed seed names old c → FolderStands sealed signed hashed seed names new (rekeyed_by names by moment action.Revoke who ∷ c)
      → Revoked seed old new c names by moment who
