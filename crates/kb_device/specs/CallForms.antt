-- How calls of devices are to be stated, whatever stands for the plain machine's parts: V are devices, F folders, Q the
-- requests of puts.
use Rattle.std.specs.Prelude.{◌≡◌, ℕ, ◌+◌, List, ◌++◌, Result, Ok}
use Rattle.kb_ops.specs.declared.requests.Request.{Request}
use Rattle.kb_rules.specs.declared.report.Report.{Report}
use Rattle.kb_snap.specs.Chains.{Chain}
use Rattle.kb_device.specs.Answers.{Called, CallFault, Noted, NoteFault, SettleFault, OpenFault, Status}
use Rattle.kb_snap.specs.Answers.{PutFault}
use Rattle.kb_snap.specs.Lawful.{IsLawful}
use Rattle.kb_snap.specs.Puts.{Ask}
use Rattle.kb_device.specs.Parts.{Merger, Flight, Part, closed, CallStep, PickStep, NoteStep, SettleStep, OpenStep}
use Rattle.kb_device.specs.Meets.{PartMeets, PutMeets}

-- Grows f f': the folder f went on to f' by one put, or is f'.
-- DeviceStands d f c v p: the device v with the number d is at the part p under the chain c of the folder f, whose hashes
-- and blocks the device may keep. What the part knows of the chain is not said there: a call may ask for it, and the
-- machine keeps it.
-- FolderStands f c: the folder f has the chain c.
-- RequestStands f q ask: the request q is for this put at the folder f.
module _ {V F Q : Type 0} (Grows : F → F → Type 0) (DeviceStands : ℕ → F → Chain → V → Part → Type 0) (FolderStands : F → Chain → Type 0) (RequestStands : F → Q → Ask → Type 0) where
  -- a device's call, whatever the chain
  abbrev pub DeviceGoes : ℕ → V → V → (Part → Part → Type 0) → Type 0
  DeviceGoes d old new step = (f : F) (c : Chain) (p : Part) → PartMeets d c p → FolderStands f c → DeviceStands d f c old p → (q : Part) × step p q × DeviceStands d f c new q

  -- a file call
  abbrev pub CallGoes : ℕ → V → V → Request → ℕ → Result Called CallFault → Type 0
  CallGoes d old new request moment answer = DeviceGoes d old new (λ p q. CallStep d p request moment answer q)

  -- a pick of at most so many operations, which gives the request of the flight
  abbrev pub PickGoes : ℕ → ℕ → List ℕ → V → V → Flight → Q → Type 0
  PickGoes most d name old new flight request =
      (f : F) (c : Chain) (p : Part) → PartMeets d c p → FolderStands f c → DeviceStands d f c old p → (q : Part) × (ask : Ask) × PickStep most d name p (Ok (flight, ask)) q × RequestStands f request ask × DeviceStands d f c new q

  -- a note, for the answer to the put of the kept flight
  abbrev pub NoteGoes : ℕ → V → V → Result ℕ PutFault → Result Noted NoteFault → Type 0
  NoteGoes d old new put answer =
      (f : F) (c : Chain) (p : Part) → PartMeets d c p → PutMeets d c p put → FolderStands f c → DeviceStands d f c old p → (q : Part) × NoteStep p put answer q × DeviceStands d f c new q

  -- the end of a session without its disk
  abbrev pub LeaveGoes : ℕ → V → V → Type 0
  LeaveGoes d old new = DeviceGoes d old new (λ p q. q ≡ closed p)

  -- an opening over a folder
  abbrev pub OpenGoes : ℕ → F → V → V → Result Status OpenFault → Type 0
  OpenGoes d folder old new answer =
      (c : Chain) (p : Part) → IsLawful c → PartMeets d c p → FolderStands folder c → DeviceStands d folder c old p → (q : Part) × OpenStep d c p answer q × DeviceStands d folder c new q

  -- a settle, which moves the folder and the device
  abbrev pub SettleGoes : ℕ → Merger → F → F → V → V → Result (ℕ × Report) SettleFault → Type 0
  SettleGoes d by folder folder' old new answer =
      (c : Chain) (p : Part) → IsLawful c → PartMeets d c p → FolderStands folder c → DeviceStands d folder c old p
      → (c' : Chain) × (q : Part) × SettleStep d by c p answer c' q × Grows folder folder' × FolderStands folder' c' × DeviceStands d folder' c' new q

  -- a device stands for its part while the folder goes on
  abbrev pub StandsLonger : Type 0
  StandsLonger = (d : ℕ) (f f' : F) (c more : Chain) (v : V) (p : Part) → Grows f f' → FolderStands f c → FolderStands f' (c ++ more) → PartMeets d c p → DeviceStands d f c v p → DeviceStands d f' (c ++ more) v p
