-- When an operation is taken, and why it isn't.
use Rattle.std.specs.Prelude.{◌≡◌, ◌≤◌, ◌<◌, ◌+◌, ◌^◌, ◌-◌, ℕ, [], ◌∷◌, ◌++◌, length}
use Rattle.kb_ops.specs.declared.rows.Op.{Op as Operation}
use Rattle.kb_journal.specs.State.{State, last_seq, use_of}
use Rattle.kb_journal.specs.declared.faults.AddFault.{AddFault}
use Rattle.kb_journal.specs.declared.faults.AddFault.TheVariants as faults

-- there is a seq for it, the queue has room, and the compacted text with it fits the area
pub record Takes (s : State) (area : ℕ) (op : Operation) : Type 0 where
  pub seq : last_seq s + 1 < 2 ^ 32
  pub few : length s.queue < 4096
  pub fits : use_of (s.queue ++ op ∷ []) ≤ area

-- the first refusal that applies, with nothing changed; memory may lack in place of any but the first two
abbrev pub AddRefuses : State → ℕ → Operation → Type 0 → AddFault → Type 0
AddRefuses s area op Unchanged faults.Spent = (last_seq s ≡ 2 ^ 32 - 1) × Unchanged
AddRefuses s area op Unchanged faults.QueueFull = (last_seq s + 1 < 2 ^ 32) × (4096 ≤ length s.queue) × Unchanged
AddRefuses s area op Unchanged (faults.Full need room) = (last_seq s + 1 < 2 ^ 32) × (length s.queue < 4096) × (need ≡ use_of (s.queue ++ op ∷ [])) × (room ≡ area) × (area < need) × Unchanged
AddRefuses s area op Unchanged faults.Memory = (last_seq s + 1 < 2 ^ 32) × (length s.queue < 4096) × Unchanged
AddRefuses s area op Unchanged faults.Stopped = Takes s area op
