use Rattle.std.proofs.Common.{length}
use Rattle.kb_apply.specs.Waiting.{still_listed}
use Rattle.kb_apply.proofs.Listing.{IsListed}
use Rattle.kb_apply.proofs.shows.rows_of.Given as goal

abbrev pub invariant-loop-next : goal.invariant-loop-next
invariant-loop-next l = IsListed l.table.tree l.listed.items l.waiting.items

abbrev pub decreases-loop-next : goal.decreases-loop-next
decreases-loop-next l = length (still_listed l.table.tree l.waiting.items)
