use Rattle.std.proofs.Common.{◌∙◌, arith, sym, ap, ◌++◌, ◌∷◌, []}
use Rattle.kb_apply.proofs.Children.{next_child, child_is_there, all_children}
use Rattle.kb_apply.proofs.shows.children.Goals as goal

pub copied-requires : goal.copied-requires
copied-requires c = child_is_there c.args.table.now.tree c.is_well_formed.ensures c.args.parent c.deref-id-items.result.now c.in_ok-ids.ids.items c.deref-id-items.ensures.value c.in_ok-ids.ensures c.loop-id.id-index _ c.loop-id-test.true

pub loop-id-preserved : goal.loop-id-preserved
loop-id-preserved c =
    c.in_ok-push.ensures.items
    ∙ ap (λ xs. xs ++ c.in_ok-copied.field-0 ∷ []) c.loop-id.invariant
    ∙ sym (next_child c.args.table.now.tree c.is_well_formed.ensures c.args.parent c.deref-id-items.result.now c.in_ok-ids.ids.items c.deref-id-items.ensures.value c.in_ok-ids.ensures c.loop-id.id-index _ c.in_ok-copied.field-0 c.loop-id-test.true c.in_ok-copied.ensures)

pub returns : goal.returns
returns c = c.loop-id.invariant ∙ all_children c.args.table.now.tree c.args.parent c.deref-id-items.result.now c.in_ok-ids.ids.items c.deref-id-items.ensures.value c.in_ok-ids.ensures c.loop-id.id-index (omega arith)
