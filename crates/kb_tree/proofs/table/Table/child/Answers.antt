use Rattle.std.proofs.Common.{ap, ◌∙◌}
use Rattle.std.specs.FinMap.Entries as entries
use Rattle.kb_ops.specs.Find.{child}
use Rattle.kb_ops.specs.Spots.{spot_cmp}
use Rattle.kb_tree.specs.Held.{Held}
use Rattle.kb_tree.specs.Slots.{spots_in}
use Rattle.kb_tree.proofs.Edits.{spots_rise}
use Rattle.kb_tree.proofs.Found.{child_is}
use Rattle.kb_tree.proofs.table.Table.child.Goals as goal

pub child-requires : goal.child-requires
child-requires c = (λ i. entries.is_sorted spot_cmp (spots_in (c.deref.ensures.value i) (c.deref-2.ensures.value i))) ∙ spots_rise _ _ _ c.self.invariant

pub returns : goal.returns
returns c =
    c.child.ensures
    ∙ (λ i. entries.find spot_cmp (c.args.parent, c.args.name.now) (spots_in (c.deref.ensures.value i) (c.deref-2.ensures.value i)))
    ∙ child_is _ _ _ c.self.invariant c.args.parent c.args.name.now
    ∙ ap (λ (h : Held). child h.tree c.args.parent c.args.name.now) c.self.view_is
