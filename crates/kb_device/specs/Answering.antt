-- How a device's calls go on as the machine's, for devices as plain values.
use Rattle.std.specs.Prelude.{◌≡◌, ℕ, ◌≤◌, List, length, Some, Result, Ok, Err}
use Rattle.sha2.specs.Sha256.{sha256}
use Rattle.kb_chain.specs.declared.states.FolderRequest.{FolderRequest}
use Rattle.kb_snap.specs.Chains.{Chain}
use Rattle.kb_device.specs.Answers as says
use Rattle.kb_device.specs.Parts.{Part, PickStep}
use Rattle.kb_folder.specs.Chains.{Names}
use Rattle.kb_folder.specs.Puts.{Held, Puts}
use Rattle.kb_folder.specs.Goes.{HasChain, Grows}
use Rattle.kb_device.specs.Inside.{Aloft, Inside}
use Rattle.kb_device.specs.Stands.{Member, DeviceStands}
use Rattle.kb_device.specs.Forms.{DeviceGoes, DeviceStays, PickGoes}
use Rattle.kb_device.specs.Picking.{flight_in}
use Rattle.kb_device.specs.Noting.{Sent, AnswerStands}
use Rattle.kb_device.specs.declared.answers.Picked.{Picked}
use Rattle.kb_device.specs.declared.answers.PickFault.{PickFault}
use Rattle.kb_device.specs.declared.answers.PickFault.TheVariants as fault
use Rattle.kb_device.specs.declared.answers.PutAnswer.{PutAnswer}

module _ (sealed signed : List ℕ → List ℕ → List ℕ) (hashed : List ℕ → List ℕ) (seed : List ℕ) (names : Names) where
  -- the flight that is kept then has this request
  abbrev pub PickSends : ℕ → Member → Member → FolderRequest → Type 0
  PickSends d old new request = (f : Held) (c : Chain) (p : Part) → DeviceStands sealed signed hashed seed names d f c old p → Sent sealed hashed seed f request new

  -- a pick that is refused for this reason
  abbrev pub PickRefuses : Member → Member → says.PickFault → Type 0
  PickRefuses old new fault = DeviceGoes sealed signed hashed seed names old.number old new (λ p q. PickStep 1 old.number old.name p (Err fault) q)

  abbrev pub PickAnswers : Member → Member → Result Picked PickFault → Type 0
  PickAnswers old new (Ok picked) = PickGoes sealed signed hashed seed names old.number old.name old new (flight_in picked) picked.request × PickSends old.number old new picked.request
  PickAnswers old new (Err fault.Closed) = PickRefuses old new says.PickFault.Closed
  PickAnswers old new (Err fault.InFlight) = PickRefuses old new says.InFlight
  PickAnswers old new (Err fault.Branched) = PickRefuses old new says.PickFault.Branched
  PickAnswers old new (Err fault.Idle) = PickRefuses old new says.Idle
  PickAnswers old new (Err fault.Memory) = DeviceStays sealed signed hashed seed names old.number old new

  -- ---- laws of a flight that lands

  -- A put of the flight's request that is taken lands the flight, and its answer is the put's with the hash of the revision's bytes.
  abbrev pub SentLands : Type 0
  SentLands = (d : ℕ) (f new : Held) (c : Chain) (v : Member) (p : Part) (request : FolderRequest) (answer : PutAnswer) → HasChain sealed signed hashed seed names f c → DeviceStands sealed signed hashed seed names d f c v p
      → Sent sealed hashed seed f request v → Puts signed hashed f request new answer.number → answer.hash ≡ sha256 request.revision
      → ((s : Inside) (a : Aloft) (n : ℕ) → v.inside ≡ Some s → s.aloft ≡ Some a → answer.number ≡ Ok n → n ≡ a.flight.number) → AnswerStands sealed hashed seed new v answer

  -- It stays landed while the folder goes on.
  abbrev pub AnswersStay : Type 0
  AnswersStay = (f new : Held) (c : Chain) (v : Member) (answer : PutAnswer) → Grows f new → HasChain sealed signed hashed seed names f c → AnswerStands sealed hashed seed f v answer
      → ((s : Inside) (a : Aloft) → v.inside ≡ Some s → s.aloft ≡ Some a → a.flight.number ≤ length c) → AnswerStands sealed hashed seed new v answer
