use Rattle.std.proofs.Common.{take}
use Rattle.std.specs.FinMap as map
use Rattle.kb_ops.specs.Trees.{look}
use Rattle.kb_snap.proofs.Entries.{AreEntriesAt}
use Rattle.kb_snap.proofs.listing.entries_below.Given as goal

abbrev pub invariant-loop-id : goal.invariant-loop-id
invariant-loop-id l = AreEntriesAt (look l.table.tree) (map.get l.pointers) (take l.id-index l.id-items) l.entries.items
