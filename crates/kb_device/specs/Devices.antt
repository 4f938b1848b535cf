-- Devices of the program, and what they are as plain values.
use Rattle.std.specs.Prelude.{◌≡◌, ℕ, true, Option, None, Some}
use Rattle.std.specs.Option.{option_map}
use Rattle.kb_edge.specs.Causes.{Rose}
use Rattle.kb_edge.specs.declared.disk.Disk.{Ghosts}
use Rattle.kb_seal.specs.declared.sealer.Sealer.{Ghosts as Seals}
use Rattle.kb_blocks.specs.declared.hashing.BlockHash.{Ghosts as Hashes}
use Rattle.kb_device.specs.Fresh.{IsOwned}
use Rattle.kb_device.specs.Inside.{IsRunning}
use Rattle.kb_device.specs.Stands.{Member}
use Rattle.kb_device.specs.Views.{inside, platter}
use Rattle.kb_device.specs.declared.session.Session.{Session}
use Rattle.kb_device.specs.declared.device.Device.{Device}

-- the disk at rest, or that of the session
abbrev pub disk_in : {D H : Type 0} → Option D → Option (Session D H) → Option D
disk_in (Some disk) session = Some disk
disk_in None (Some session) = Some session.journal.disk
disk_in None None = None

-- a session of the device with this number goes on, and its journal is open
pub record Runs {D H : Type 0} (d : ℕ) (session : Session D H) : Type 0 where
  pub running : IsRunning (inside session)
  pub owned : IsOwned d (inside session)
  pub opened : session.journal.is_open ≡ true

module _ {D S H : Type 0} {disks : Ghosts D} {sealers : Seals S} {hashes : Hashes H} where
  -- this is the device as plain values
  pub record IsView (device : Device D S H disks sealers hashes) (v : Member) : Type 0 where
    pub number : v.number ≡ device.number
    pub name : v.name ≡ device.name
    pub secret : v.secret ≡ device.secret
    pub held : D
    pub has : disk_in device.resting device.session ≡ Some held
    pub disk : v.disk ≡ platter disks held
    pub inside_is : v.inside ≡ option_map inside device.session

  -- whatever the device is as plain values, it goes on so
  abbrev pub GoesOn : Device D S H disks sealers hashes → Device D S H disks sealers hashes → (Member → Member → Type 0) → Type 0
  GoesOn old new P = (v : Member) → IsView old v → (w : Member) × IsView new w × P v w

  -- how often the disk has failed rose
  abbrev pub HasFailed : Device D S H disks sealers hashes → Device D S H disks sealers hashes → Type 0
  HasFailed old new = (was is : D) → disk_in old.resting old.session ≡ Some was → disk_in new.resting new.session ≡ Some is → Rose (disks.faults was) (disks.faults is)

-- the disk at rest once the session has ended
abbrev pub rested : {D H : Type 0} → Option (Session D H) → Option D → Option D
rested (Some session) resting = Some session.journal.disk
rested None resting = resting
