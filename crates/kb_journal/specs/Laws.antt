-- What holds of the states of journals.
use Rattle.std.specs.Prelude.{◌≡◌, ◌≤◌, ℕ, List, replicate}
use Rattle.kb_journal.specs.State.{State, Leads, HasState, empty, compacted}

-- what a list of payloads leads to is what its compacted list leads to
abbrev pub CompactedLeads : Type 0
CompactedLeads = (ps : List (List ℕ)) (s : State) → Leads empty ps s → Leads empty (compacted s) s

-- a list of payloads leads to one state at most
abbrev pub LeadsOnce : Type 0
LeadsOnce = (ps : List (List ℕ)) (s t : State) → Leads empty ps s → Leads empty ps t → s ≡ t

-- the bytes of a disk have one state at most
abbrev pub HasOneState : Type 0
HasOneState = (s t : State) (image : List ℕ) → HasState s image → HasState t image → s ≡ t

-- a disk of zeros has the empty state, so it is never refused as no journal
abbrev pub ZerosAreEmpty : Type 0
ZerosAreEmpty = (size : ℕ) → 4096 ≤ size → HasState empty (replicate size 0)
