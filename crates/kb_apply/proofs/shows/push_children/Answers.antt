use Rattle.kb_apply.proofs.Listing.{row_stacked}
use Rattle.kb_apply.proofs.shows.push_children.Goals as goal

pub loop-row-preserved : goal.loop-row-preserved
loop-row-preserved c = row_stacked c.args.names.now c.loop-row.rows.items _ c.in-Some.row c.in_ok-placed.field-0 c.loop-row.waiting.items _ _ c.in-Some.ensures.items c.in_ok-placed.ensures c.in_ok-push.ensures.items c.loop-row.invariant
