-- A request that is put after its device stopped: its flusher has it, and the device has not been opened since.
use Rattle.std.specs.Prelude.{◌≡◌, ℕ, ◌+◌, ◌≤◌, ◌<◌, length, take, drop, All}
use Rattle.kb_snap.specs.Chains.{Stepped, Chain, moment_of_last}
use Rattle.kb_snap.specs.Puts.{Ask}
use Rattle.kb_device.specs.Journals.{Journal}
use Rattle.kb_device.specs.Parts.{Part}
use Rattle.kb_device.specs.Meets.{NoneOf}

-- the request is a step of the first of the journal's queue behind its known revision, and nothing of the device stands
-- there
pub record IsOut (d count : ℕ) (c : Chain) (ask : Ask) (j : Journal) : Type 0 where
  pub number : ask.number ≡ j.known + 1
  pub writer : ask.revision.writer ≡ d
  pub deed : ask.revision.deed ≡ Stepped (take count j.queue)
  pub moment : ask.revision.moment ≡ moment_of_last (take count j.queue)
  pub some : 0 < count
  pub few : count ≤ length j.queue
  pub none : NoneOf d (drop j.known c)

-- so it is for each journal that an opening may find
abbrev pub AskIsOut : ℕ → ℕ → Chain → Part → Ask → Type 0
AskIsOut d count c p ask = All (IsOut d count c ask) p.may
