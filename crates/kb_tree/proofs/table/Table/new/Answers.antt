use Rattle.std.proofs.Common.{◌≡◌, ◌∷◌, [], ◌++◌, List, ℕ, sym, ap, subst, ◌∙◌}
use Rattle.kb_ops.specs.declared.rows.Row.{Row}
use Rattle.kb_ops.specs.Trees.{root_row}
use Rattle.kb_tree.specs.Slots.{IsTable}
use Rattle.kb_tree.proofs.Found.{starts}
use Rattle.kb_tree.proofs.table.Table.new.Goals as goal

starts_by : (rows : List Row) (by_id by_spot : List ℕ) → rows ≡ root_row ∷ [] → by_id ≡ 0 ∷ [] → by_spot ≡ [] → IsTable rows by_id by_spot
starts_by rows by_id by_spot r i s = subst (λ l. IsTable l by_id by_spot) (sym r) (subst (λ l. IsTable (root_row ∷ []) l by_spot) (sym i) (subst (λ l. IsTable (root_row ∷ []) (0 ∷ []) l) (sym s) starts))

pub invariant_of-result : goal.invariant_of-result
invariant_of-result c =
    starts_by _ _ _
    (c.in_ok-push.ensures.items ∙ ap (λ xs. xs ++ c.root.result ∷ []) c.new-rows.ensures.items ∙ ap (λ r. r ∷ []) c.root.ensures)
    (c.in_ok-push-2.ensures.items ∙ ap (λ xs. xs ++ 0 ∷ []) c.new-by_id.ensures.items)
    c.new.ensures.items
