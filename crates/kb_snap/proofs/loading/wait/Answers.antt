use Rattle.kb_snap.specs.Reads.{stacked}
use Rattle.kb_snap.proofs.Stacks.{stacked_more}
use Rattle.kb_snap.proofs.loading.wait.Goals as goal

pub loop-entry-preserved : goal.loop-entry-preserved
loop-entry-preserved c =
    stacked_more c.args.parent c.args.block c.loop-entry.waiting.items c.push.new.self.items c.args.waiting.now.items (stacked c.args.parent c.args.block c.args.entries.items) c.loop-entry.entries.items c.pop.new.self.items c.in-Some.entry
    c.in-Some.ensures.items c.in_ok-push.ensures.items c.loop-entry.invariant
