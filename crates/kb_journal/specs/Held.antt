-- The state that a journal in memory holds.
use Rattle.kb_journal.specs.declared.held.Held.{Held}
use Rattle.kb_journal.specs.State.{State}

abbrev pub state_of : Held → State
state_of held = record { known = held.known; hash = held.hash; base = held.base; mark = held.mark; queue = held.ops.items }
