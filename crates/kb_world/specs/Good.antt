-- What holds of every state that a run of the plain machine comes to.
use Rattle.std.specs.Prelude.{◌≡◌, ℕ, ◌+◌, ◌-◌, ◌≤◌, true, List, length, map, All, Some, slice_get}
use Rattle.kb_name.specs.Names.{is_device_name}
use Rattle.kb_name.specs.Moments.{last_second}
use Rattle.kb_snap.specs.Chains.{Chain}
use Rattle.kb_snap.specs.Lawful.{IsRule, IsLawful}
use Rattle.kb_device.specs.Meets.{PartMeets, Acknowledges}
use Rattle.kb_world.specs.Machine.{IsBatch, most_devices, Member, State}
use Rattle.kb_device.specs.Waits.{WaitingMeets}
use Rattle.kb_snap.specs.Members.{IsDeclared}

-- the device with this number, under the chain
pub record MemberMeets (d : ℕ) (c : Chain) (m : Member) : Type 0 where
  pub name : is_device_name m.name ≡ true
  pub batch : IsBatch m.batch
  pub part : PartMeets d c m.part
  pub acknowledged : Acknowledges d c m.part
  pub waiting : WaitingMeets d c m.name m.part m.waiting

-- each device under the chain
abbrev pub MembersMeet : Chain → List Member → Type 0
MembersMeet c members = (i : ℕ) (m : Member) → slice_get members i ≡ Some m → MemberMeets (i + 1) c m

-- the names of the devices
abbrev pub names_of : List Member → List (List ℕ)
names_of members = map (λ (m : Member). m.name) members

pub record IsGood (s : State) : Type 0 where
  pub moment : s.moment ≤ last_second
  pub rule : IsRule s.rule
  pub devices : length s.members ≤ most_devices
  pub chain : IsLawful s.chain
  pub declared : All (IsDeclared (names_of s.members)) s.chain
  pub members : MembersMeet s.chain s.members
