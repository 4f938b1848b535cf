use Rattle.std.proofs.Common.{◌∙◌}
use Rattle.kb_blocks.proofs.Puts.{undone_last}
use Rattle.kb_blocks.proofs.store.Store.undo.Goals as goal

pub loop-id-preserved : goal.loop-id-preserved
loop-id-preserved g c = undone_last c.pop.new.self.items c.loop-id.ids.items c.in-Some.id c.loop-id.self c.drop_block.new.self c.in-Some.ensures.items c.drop_block.ensures ∙ c.loop-id.invariant
