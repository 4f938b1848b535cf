-- What a device stands for, at a folder with its chain.
use Rattle.std.specs.Prelude.{◌≡◌, ℕ, ◌≤◌, false, List, ◌∷◌, length, map, reverse, take, Bool, Option, Some, MatchOption}
use Rattle.std.specs.Option.{option_map}
use Rattle.std.specs.FinMap.{get}
use Rattle.sha2.specs.Sha256.{sha256}
use Rattle.kb_edge.specs.Disk.{MayLeave}
use Rattle.kb_ops.specs.Trees.{look, fold_ops}
use Rattle.kb_log.specs.LogList.{area_size}
use Rattle.kb_keys.specs.Rings.{Keys, key_at}
use Rattle.kb_keys.specs.Secrets.{device_secret}
use Rattle.kb_files.specs.Opens.{Opens}
use Rattle.kb_snap.specs.Pointers.{AllHold}
use Rattle.kb_snap.specs.Chains.{Chain, tree_at}
use Rattle.kb_device.specs.Journals.{plain}
use Rattle.kb_device.specs.Parts.{Part, IsOpenAt, tree_shown}
use Rattle.kb_device.specs.Disks.{IsKept}
use Rattle.kb_folder.specs.Chains.{Names}
use Rattle.kb_folder.specs.Stands.{Revisions, keys_to}
use Rattle.kb_folder.specs.Puts.{Held}
use Rattle.kb_ops.specs.declared.rows.Op.{Op}
use Rattle.kb_device.specs.Caches.{known_in}
use Rattle.kb_device.specs.Patching.{IsOldOf, HasSize}
use Rattle.kb_device.specs.declared.patching.OldFile.{OldFile}
use Rattle.kb_device.specs.Remembering.{Remembers}
use Rattle.kb_device.specs.Inside.{Aloft, Plan, Inside, IsRunning}
use Rattle.kb_device.specs.Behind.{behind, all_ops, are_plain}

-- a disk: its bytes, the places that a power cut may change, and how many steps still succeed for sure, where that is set
pub record Platter : Type 0 where
  pub content : List ℕ
  pub dirty : ℕ → Bool
  pub left : Option ℕ

-- A device: its number, its name and its secret, its disk, and what it has while a session is open.
pub record Member : Type 0 where
  pub number : ℕ
  pub name : List ℕ
  pub secret : List ℕ
  pub disk : Platter
  pub inside : Option Inside

-- the hashes of the revisions, the first one first
abbrev pub hashes_of : Revisions → List (List ℕ)
hashes_of bs = map sha256 (reverse bs)

-- Whatever a power cut leaves of the disk is a journal that the part may have, with the hash of its known revision.
pub record DiskStands (bs : Revisions) (disk : Platter) (p : Part) : Type 0 where
  pub images : (image : List ℕ) → MayLeave disk.content disk.dirty image → IsKept (hashes_of bs) p.may image
  pub area : p.area ≡ area_size (length disk.content)
  pub left : p.left ≡ disk.left

-- the ring has the folder keys of the generations up to this one, and no others
abbrev pub RingStands : List ℕ → ℕ → Keys → Type 0
RingStands seed generation ring = (g : ℕ) → key_at ring g ≡ keys_to seed generation g

-- What was fetched is so in the folder.
pub record PlanStands (sealed : List ℕ → List ℕ → List ℕ) (hashed : List ℕ → List ℕ) (seed : List ℕ) (f : Held) (c : Chain) (known : ℕ) (x : Plan) : Type 0 where
  pub merged : x.merged ≡ tree_at c x.number
  pub remembers : Remembers sealed hashed seed f c x.number x.hash x.generation x.kept x.cache
  pub ring : RingStands seed x.generation x.ring
  pub base : x.base ≡ tree_at c known
  pub ops : x.ops ≡ all_ops (behind c known x.number)
  pub plain : x.plain ≡ are_plain (behind c known x.number)

module _ (sealed signed : List ℕ → List ℕ → List ℕ) (hashed : List ℕ → List ℕ) (seed : List ℕ) (names : Names) where
  -- A session: the journal is the part's one; the base table is the tree of the known revision with the operations that
  -- it is ahead by; the table shown is the queue folded over that tree; the hash, the generation and the pointers are
  -- those of the known revision, and the pointers hold rows of the base table too, in blocks that the device's cache and the
  -- folder have. They hold a file that the base table has written already as it was before.
  pub record SessionStands (f : Held) (c : Chain) (s : Inside) (p : Part) : Type 0 where
    pub at : IsOpenAt p (plain s.journal)
    pub running : IsRunning s
    pub base : s.base ≡ fold_ops (take s.ahead s.journal.queue) p.base
    pub shown : s.shown ≡ tree_shown p (plain s.journal)
    pub role : s.role ≡ p.role
    pub remembers : Remembers sealed hashed seed f c s.journal.known s.journal.hash s.generation s.kept s.cache
    pub held : AllHold (Opens sealed hashed (known_in s.cache (get f.blocks)) (keys_to seed s.generation)) (look s.base) s.kept
    pub written : (op : Op) (rest : List Op) (old : OldFile) → s.journal.queue ≡ op ∷ rest → s.ahead ≡ 1 → s.written ≡ Some old → IsOldOf (Opens sealed hashed (known_in s.cache (get f.blocks)) (keys_to seed s.generation)) s.base op.change old × HasSize p.base op.change old
    pub ring : RingStands seed s.generation s.ring
    pub flight : p.flight ≡ option_map (λ (a : Aloft). a.flight) s.aloft
    pub plan : p.plan ≡ option_map (λ (x : Plan). x.number) s.plan
    pub planned : (x : Plan) → s.plan ≡ Some x → PlanStands sealed hashed seed f c s.journal.known x

  -- The device with this number, which the folder has registered, is at this part.
  pub record DeviceStands (d : ℕ) (f : Held) (c : Chain) (v : Member) (p : Part) : Type 0 where
    pub number : v.number ≡ d
    pub name : v.name ≡ names d
    pub secret : v.secret ≡ device_secret seed d
    pub registered : (1 ≤ d) × (d ≤ f.state.registered)
    pub disk : DiskStands f.revisions v.disk p
    pub session : MatchOption v.inside (p.is_open ≡ false) (λ s. SessionStands f c s p)
