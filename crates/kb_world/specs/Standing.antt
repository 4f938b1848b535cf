-- What a world stands for.
use Rattle.std.specs.Prelude.{◌≡◌, ℕ, ◌+◌, List, length, Some, None, slice_get}
use Rattle.std.specs.Option.{ForSome}
use Rattle.sha2.specs.Sha256.{sha256}
use Rattle.kb_edge.specs.declared.disk.Disk.{Ghosts}
use Rattle.kb_seal.specs.declared.sealer.Sealer.{Ghosts as Seals}
use Rattle.kb_seal.specs.Sealing.{seal_by_hmac, sign_by_hmac}
use Rattle.kb_blocks.specs.declared.hashing.BlockHash.{Ghosts as Hashes}
use Rattle.kb_snap.specs.Chains.{Chain, most_revisions}
use Rattle.kb_device.specs.Waits.{Waiting, Nothing, Asked, Answered}
use Rattle.kb_world.specs.Machine.{first_rule, Member, State}
use Rattle.kb_world.specs.Good.{IsGood}
use Rattle.kb_folder.specs.Chains.{Names}
use Rattle.kb_folder.specs.Puts.{Held}
use Rattle.kb_folder.specs.Held.{held, empty_folder}
use Rattle.kb_folder.specs.Goes.{HasChain, IsFor, Means}
use Rattle.kb_device.specs.Stands as inner
use Rattle.kb_device.specs.Stands.{DeviceStands}
use Rattle.kb_device.specs.Devices.{IsView, Runs}
use Rattle.kb_device.specs.Noting.{Sent, AnswerStands}
use Rattle.kb_world.specs.declared.declared.Waiting as waits
use Rattle.kb_world.specs.declared.declared.Waiting.TheVariants as kept
use Rattle.kb_world.specs.declared.declared.Declared.{Declared}
use Rattle.kb_world.specs.declared.world.World.{World}

module _ (sealed signed : List ℕ → List ℕ → List ℕ) (hashed : List ℕ → List ℕ) (seed : List ℕ) (names : Names) where
  -- What is kept for a device is what waits for it: the request of its flight, or the answer to its put.
  abbrev pub WaitsFor : Held → inner.Member → waits.Waiting → Waiting → Type 0
  WaitsFor f v kept.Nothing Nothing = Unit {0}
  WaitsFor f v (kept.Request request) (Asked ask) = IsFor sealed signed hashed seed names f request ask × Sent sealed hashed seed f request v
  WaitsFor f v (kept.Answer answer) (Answered put) = Means answer.number put × AnswerStands sealed hashed seed f v answer
  WaitsFor f v it waiting = ⊥

module _ {D S H : Type 0} {disks : Ghosts D} {sealers : Seals S} {hashes : Hashes H} where
  -- The declared device with this number stands for a member, at a folder with its chain.
  pub record DeclaredStands (seed : List ℕ) (names : Names) (d : ℕ) (f : Held) (c : Chain) (x : Declared D S H disks sealers hashes) (m : Member) : Type 0 where
    pub name : x.name ≡ names d
    pub named : m.name ≡ names d
    pub view : inner.Member
    pub is : IsView x.device view
    pub runs : ForSome x.device.session (Runs x.device.number)
    pub part : DeviceStands sealers.sealed sealers.signed hashes.hashed seed names d f c view m.part
    pub waits : WaitsFor sealers.sealed sealers.signed hashes.hashed seed names f view x.waiting m.waiting
    pub link : m.link ≡ x.link.armed
    pub batch : m.batch ≡ 1

module _ {M D : Type 0} {disks : Ghosts D} where
  -- The world stands for a state of the machine, under names for the devices that are declared or will be.
  pub record WorldStands (names : Names) (w : World M D disks) (s : State) : Type 0 where
    pub seed : s.seed ≡ w.seed
    pub moment : s.moment ≡ w.moment
    pub rule : s.rule ≡ first_rule
    pub folder : HasChain seal_by_hmac sign_by_hmac sha256 s.seed names (held w.folder) s.chain
    pub fresh : length s.members ≡ 0 → held w.folder ≡ empty_folder most_revisions
    pub registered : (held w.folder).state.registered ≡ length s.members
    pub count : length w.devices.items ≡ length s.members
    pub members : (i : ℕ) (x : Declared D _ _ disks _ _) (m : Member) → slice_get w.devices.items i ≡ Some x → slice_get s.members i ≡ Some m → DeclaredStands s.seed names (i + 1) (held w.folder) s.chain x m
    pub good : IsGood s

  -- it stands for some state
  abbrev pub IsStanding : World M D disks → Type 0
  IsStanding w = (names : Names) × (s : State) × WorldStands names w s

  -- how many devices are declared
  abbrev pub device_count : World M D disks → ℕ
  device_count w = length w.devices.items
