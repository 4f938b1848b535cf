use Rattle.std.proofs.Common.{◌≡◌, take}
use Rattle.kb_tree.specs.Slots.{rows_in}
use Rattle.kb_tree.proofs.slots.rows.Given as goal

abbrev pub invariant-loop-slot : goal.invariant-loop-slot
invariant-loop-slot l = l.copies.items ≡ rows_in l.rows (take l.slot-index l.slots)
