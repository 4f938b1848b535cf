-- What a member reads of a folder.
use Rattle.std.specs.Prelude.{◌≡◌, ℕ, ◌+◌, ◌≤◌, List, [], ◌∷◌, ◌++◌, length, reverse, Bool, ◌&&◌, nat_eq, nat_le, slice_get, if◌then◌else◌, Some}
use Rattle.std.specs.List.{list_any}
use Rattle.kb_files.specs.Opens.{Blocks}
use Rattle.kb_keys.specs.Rings as rings
use Rattle.kb_keys.specs.Rings.{key_at}
use Rattle.kb_keys.specs.Secrets.{folder_key}
use Rattle.kb_snap.specs.Members as plain
use Rattle.kb_folder.specs.Chains.{Plain, Back, Names, Place, tree_at, places_of, Follows}
use Rattle.kb_folder.specs.Stands.{Stands}

-- each revision may follow those before it
abbrev pub IsChain : ℕ → Back → Type 0
IsChain registered [] = Unit {0}
IsChain registered (x ∷ c) = IsChain registered c × Follows registered c x

-- the generation after the first n revisions
abbrev pub generation_at : ℕ → Back → ℕ
generation_at n c = plain.generation_at (reverse c) n

-- the devices and generations that the revisions behind the first n have keys for
abbrev pub places_behind : ℕ → Back → List Place
places_behind n [] = []
places_behind n (x ∷ c) = if nat_le n (length c) then places_behind n c ++ places_of (x ∷ c) else []

-- the device and generation are one of the places
abbrev pub is_among : ℕ → ℕ → List Place → Bool
is_among d g ps = list_any (λ (p : Place). nat_eq p.0 d && nat_eq p.1 g) ps

-- the ring has the folder keys of all generations up to this one
abbrev pub RingHas : List ℕ → ℕ → rings.Keys → Type 0
RingHas seed g ring = (i : ℕ) → 1 ≤ i → i ≤ g → key_at ring i ≡ Some (folder_key seed i)

module _ (sealed signed : List ℕ → List ℕ → List ℕ) (hashed : List ℕ → List ℕ) (seed : List ℕ) (names : Names) (registered : ℕ) (blocks : Blocks) where
  -- what stands at number r + 1, and what it follows
  pub record StandsAt (bs : List (List ℕ)) (c : Back) (r : ℕ) : Type 0 where
    pub bytes : List ℕ
    pub plain : Plain
    pub older_bytes : List (List ℕ)
    pub older : Back
    pub there : slice_get (reverse bs) r ≡ Some bytes
    pub front : Stands sealed signed hashed seed names registered blocks (bytes ∷ older_bytes) (plain ∷ older)
    pub size : length older ≡ r
    pub trees : (k : ℕ) → k ≤ r + 1 → tree_at c k ≡ tree_at (plain ∷ older) k
