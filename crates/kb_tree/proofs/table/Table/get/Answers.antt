use Rattle.std.proofs.Common.{ap, ◌∙◌}
use Rattle.kb_ops.specs.Trees.{look}
use Rattle.kb_ops.proofs.Lists.{row_of}
use Rattle.kb_tree.specs.Held.{Held}
use Rattle.kb_tree.specs.Slots.{rows_in}
use Rattle.kb_tree.proofs.Found.{row_is, small}
use Rattle.kb_tree.proofs.table.Table.get.Goals as goal

pub returns-clause-found : goal.returns-clause-found
returns-clause-found c =
    c.row.ensures ∙ (λ i. row_of (rows_in (c.deref.ensures.value i) (c.deref-2.ensures.value i)) c.args.id) ∙ row_is _ _ _ c.self.invariant c.args.id ∙ ap (λ (h : Held). look h.tree c.args.id) c.self.view_is

pub returns-clause-small : goal.returns-clause-small
returns-clause-small c =
    small _ _ _ c.self.invariant c.args.id c.row.result (c.row.ensures ∙ (λ i. row_of (rows_in (c.deref.ensures.value i) (c.deref-2.ensures.value i)) c.args.id) ∙ row_is _ _ _ c.self.invariant c.args.id)
