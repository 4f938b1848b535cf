-- What a journal in memory is, and what it knows of its log.
use Rattle.std.specs.Prelude.{◌≡◌, ◌≤◌, ℕ, Bool, true, List, length, vec_capacity}
use Rattle.kb_log.specs.Images.{EachImage, HasList}
use Rattle.kb_log.specs.LogList.{area_size}
use Rattle.kb_log.specs.State.{LogState}
use Rattle.kb_journal.specs.declared.ready.Ready.{Ready}
use Rattle.kb_journal.specs.Held.{state_of}
use Rattle.kb_journal.specs.State.{State, Leads, empty, is_whole}

-- a journal: its disk, its state, and whether no call has stopped
pub record JournalState (D : Type 0) : Type 0 where
  pub disk : D
  pub state : State
  pub is_open : Bool

-- the log's list leads to the state that is held, which is whole, every image has the list, and the buffers have room
-- for every compaction and note
pub record IsReady {D : Type 0} (content : D → List ℕ) (dirty : D → ℕ → Bool) (log : LogState D) (ready : Ready) : Type 0 where
  pub leads : Leads empty log.payloads (state_of ready.held)
  pub whole : is_whole (area_size (length (content log.disk))) (state_of ready.held) ≡ true
  pub listed : EachImage content dirty log.disk (HasList log.payloads)
  pub room : area_size (length (content log.disk)) ≤ vec_capacity ready.bytes
  pub ends_room : 4097 ≤ vec_capacity ready.ends
  pub line_room : 42 ≤ vec_capacity ready.line
