use Rattle.kb_apply.proofs.Listing.{begun, one_listed, one_less}
use Rattle.kb_apply.proofs.shows.rows_of.Goals as goal

pub loop-next-init : goal.loop-next-init
loop-next-init c = begun c.args.table.now.tree c.is_well_formed.ensures _ _ _ c.in_ok-listed.ensures.items c.new-waiting.ensures.items c.in_ok-push_children.ensures

pub loop-next-smaller : goal.loop-next-smaller
loop-next-smaller c = one_less c.args.table.now.tree c.is_well_formed.ensures c.loop-next.listed.items c.loop-next.waiting.items _ _ c.in-Some.next c.as_slice.result.now c.loop-next.invariant c.in-Some.ensures.items c.as_slice.ensures c.in_ok-push_children-2.ensures

pub loop-next-preserved : goal.loop-next-preserved
loop-next-preserved c = one_listed c.args.table.now.tree c.is_well_formed.ensures c.loop-next.listed.items c.loop-next.waiting.items _ _ _ c.in-Some.next c.as_slice.result.now c.loop-next.invariant c.in-Some.ensures.items c.as_slice.ensures c.in_ok-push_children-2.ensures c.in_ok-push.ensures.items
