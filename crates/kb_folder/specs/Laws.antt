-- Laws of folders and what they stand for.
use Rattle.std.specs.Prelude.{◌≡◌, ◌≢◌, ℕ, ◌+◌, ◌<◌, ◌≤◌, true, List, [], ◌∷◌, length, Some, IsSome, Result, Err}
use Rattle.kb_blocks.specs.Stores.{Collides}
use Rattle.kb_ops.specs.Trees.{Tree}
use Rattle.kb_keys.specs.Rings as rings
use Rattle.kb_keys.specs.Rings.{key_at}
use Rattle.kb_keys.specs.Secrets.{device_secret, folder_key}
use Rattle.kb_keys.specs.Laws.{HasKey}
use Rattle.kb_blocks.specs.declared.pointer.Ptr.{Ptr}
use Rattle.kb_files.specs.Opens.{Blocks, Opens}
use Rattle.kb_snap.specs.Holds.{HoldsTree}
use Rattle.kb_chain.specs.declared.states.FolderRequest.{FolderRequest}
use Rattle.kb_chain.specs.declared.states.PutRefusal.{PutRefusal}
use Rattle.kb_chain.specs.declared.states.PutRefusal.TheVariants.{Memory}
use Rattle.kb_snap.specs.Lawful.{AreOf, CountsFrom}
use Rattle.kb_folder.specs.Chains.{Plain, Back, Names, Place, role_in, generation_in, ops_of}
use Rattle.kb_folder.specs.Stands.{Stands, keys_to, entries_for}
use Rattle.kb_folder.specs.Held.{empty_folder, registered_with}
use Rattle.kb_folder.specs.Reading.{IsChain, generation_at, places_behind, is_among, RingHas, StandsAt}
use Rattle.kb_folder.specs.Puts.{Held, Adds, Puts}
use Rattle.kb_folder.specs.Lands.{FolderStands, Extends, IsRequestOf, FolderStep, chain_after}

module _ (sealed signed : List ℕ → List ℕ → List ℕ) (hashed : List ℕ → List ℕ) where
  -- A request that extends the chain leads to the folder of the longer chain, once it is taken.
  abbrev pub TakenExtends : Type 0
  TakenExtends = (seed : List ℕ) (names : Names) (f new : Held) (c : Back) (request : FolderRequest) (x : Plain) (n : ℕ) → FolderStands sealed signed hashed seed names f c → Extends sealed signed hashed seed names f c request x
      → Adds signed hashed f request new n → FolderStands sealed signed hashed seed names new (x ∷ c)

  -- A put of a writer's own request answers what the plain folder may answer, and leads to its chain, unless memory ran out.
  abbrev pub PutsAnswer : Type 0
  PutsAnswer = (seed : List ℕ) (names : Names) (f new : Held) (c : Back) (request : FolderRequest) (x : Plain) (number : ℕ) (result : Result ℕ PutRefusal) → FolderStands sealed signed hashed seed names f c
      → IsRequestOf sealed signed hashed seed names f c request x number → Puts signed hashed f request new result → result ≢ Err Memory
      → FolderStep f.limit c x.writer number (Collides hashed f.blocks request.blocks) result × FolderStands sealed signed hashed seed names new (chain_after c x result)

  -- What stands for a chain does so while blocks are added and devices registered.
  abbrev pub KeepsStanding : Type 0
  KeepsStanding = (seed : List ℕ) (names : Names) (registered more : ℕ) (old new : Blocks) (bs : List (List ℕ)) (c : Back) → registered ≤ more → ((id b : List ℕ) → old id ≡ Some b → new id ≡ Some b)
      → Stands sealed signed hashed seed names registered old bs c → Stands sealed signed hashed seed names more new bs c

  -- The revisions stand for one chain.
  abbrev pub StandsOnce : Type 0
  StandsOnce = (seed : List ℕ) (names : Names) (registered : ℕ) (blocks : Blocks) (bs : List (List ℕ)) (c d : Back) → Stands sealed signed hashed seed names registered blocks bs c → Stands sealed signed hashed seed names registered blocks bs d → c ≡ d

  -- Each revision stands by its own bytes, behind those before it.
  abbrev pub ReadsEach : Type 0
  ReadsEach = (seed : List ℕ) (names : Names) (registered : ℕ) (blocks : Blocks) (bs : List (List ℕ)) (c : Back) → Stands sealed signed hashed seed names registered blocks bs c → (r : ℕ) → r < length bs
      → StandsAt sealed signed hashed seed names registered blocks bs c r

  -- A new folder stands for the chain of no revision.
  abbrev pub BeginsEmpty : Type 0
  BeginsEmpty = (seed : List ℕ) (names : Names) (limit : ℕ) → 1 ≤ limit → limit ≤ 1000000 → FolderStands sealed signed hashed seed names (empty_folder limit) []

  -- Registering a device with its secret keeps what a folder stands for.
  abbrev pub RegistersOne : Type 0
  RegistersOne = (seed : List ℕ) (names : Names) (f : Held) (c : Back) → FolderStands sealed signed hashed seed names f c → f.state.registered + 1 ≤ 32 → FolderStands sealed signed hashed seed names (registered_with f (device_secret seed (f.state.registered + 1))) c

-- What is held by blocks of these generations is held under a ring that has their keys.
abbrev pub RingHolds : (List ℕ → List ℕ → List ℕ) → (List ℕ → List ℕ) → Type 0
RingHolds sealed hashed = (seed : List ℕ) (g : ℕ) (ring : rings.Keys) (blocks : Blocks) (p : Ptr) (m : ℕ) (t : Tree) → RingHas seed g ring → HoldsTree (Opens sealed hashed blocks (keys_to seed g)) p m t → HoldsTree (Opens sealed hashed blocks (key_at ring)) p m t

-- A member after the chain has an entry for each generation that came behind the first n revisions, in one of the revisions behind these.
abbrev pub MembersHaveKeys : Type 0
MembersHaveKeys = (registered : ℕ) (c : Back) (n d g : ℕ) → registered ≤ 32 → IsChain registered c → IsSome (role_in c d) → 0 < g → generation_at n c < g → g ≤ generation_in c → is_among d g (places_behind n c) ≡ true

-- The operations of each device in a chain are its own, and their seqs count from 1.
abbrev pub CountsSeqs : Type 0
CountsSeqs = (registered : ℕ) (c : Back) (d : ℕ) → IsChain registered c → CountsFrom 1 (ops_of d c) × AreOf d (ops_of d c)

-- What stands for a chain stands for one whose revisions follow one another.
abbrev pub StandingFollows : (List ℕ → List ℕ → List ℕ) → (List ℕ → List ℕ → List ℕ) → (List ℕ → List ℕ) → Type 0
StandingFollows sealed signed hashed = (seed : List ℕ) (names : Names) (registered : ℕ) (blocks : Blocks) (bs : List (List ℕ)) (c : Back) → Stands sealed signed hashed seed names registered blocks bs c → IsChain registered c

-- Where a device and a generation are among the places, the entries for these give the folder key, with the device's secret and the server's half.
abbrev pub EntriesGive : (List ℕ → List ℕ → List ℕ) → Type 0
EntriesGive sealed = (seed : List ℕ) (ps : List Place) (d g : ℕ) → is_among d g ps ≡ true → HasKey sealed seed d g (folder_key seed g) (entries_for sealed seed ps)
