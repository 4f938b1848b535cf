-- Edits in ascending order of ids that make a tree: each row is under its edit's id.
use Rattle.std.proofs.Common.{◌≡◌, ℕ, zero, suc, ◌<◌, true, List, [], ◌∷◌, length, get_or, Some, refl, sym, ap, subst, ◌∙◌, arith}
use Rattle.std.specs.declared.cmp.Ordering.TheVariants.{Less}
use Rattle.std.specs.Ordering.{is_lt}
use Rattle.kb_name.specs.declared.ids.NodeId.{NodeId}
use Rattle.kb_name.specs.Nodes.{node_cmp}
use Rattle.kb_ops.specs.declared.rows.Row.{Row}
use Rattle.kb_ops.specs.Trees.{Tree, look, IsWellFormed}
use Rattle.kb_ops.proofs.Looks.{nodes_total}
use Rattle.kb_ops.proofs.Lists.{less_is}
use Rattle.kb_rules.proofs.Basics.{both, first_of_both, second_of_both}
use Rattle.kb_opchains.specs.declared.view.Edit.{Edit}
use Rattle.kb_opchains.specs.Edits.{with_row, edited, edits_above, edits_rise}
use Rattle.kb_actions.specs.Edits.{IsOfIt}
use Rattle.kb_actions.proofs.Ascend.{not_less}
use Rattle.kb_actions.proofs.Editing.{row_here, row_other}

lower : (k m : NodeId) (edits : List Edit) → node_cmp k m ≡ Less → edits_above m edits ≡ true → edits_above k edits ≡ true
lower k m [] l h = refl
lower k m (e ∷ edits) l h = both _ _ (ap is_lt (nodes_total.trans k m e.id l (less_is _ (first_of_both _ _ h)))) (second_of_both _ _ h)

rest_rise : (k : NodeId) (edits : List Edit) → edits_above k edits ≡ true → edits_rise edits ≡ true
rest_rise k [] h = refl
rest_rise k (e ∷ edits) h = second_of_both _ _ h

-- edits of greater ids leave a row
still : (t : Tree) (k : NodeId) (edits : List Edit) → edits_above k edits ≡ true → look (edited t edits) k ≡ look t k
still t k [] h = refl
still t k (e ∷ edits) h =
    let l : node_cmp k e.id ≡ Less = less_is _ (first_of_both _ _ h) in
    still (with_row t e.id e.row) k edits (lower k e.id edits l (second_of_both _ _ h))
    ∙ row_other t e.id e.row k (λ p. not_less k (ap (node_cmp k) p ∙ l))

owned : (t : Tree) (edits : List Edit) → edits_rise edits ≡ true → ((q : NodeId) (r : Row) → look (edited t edits) q ≡ Some r → r.id ≡ q) → (i : ℕ) (d : Edit) → i < length edits → IsOfIt (get_or edits i d)
owned t [] up keyed i d lt = absurd (omega (arith, lt))
owned t (e ∷ edits) up keyed zero d lt = λ r is. keyed e.id r (still (with_row t e.id e.row) e.id edits up ∙ row_here t e.id e.row ∙ is)
owned t (e ∷ edits) up keyed (suc i) d lt = owned (with_row t e.id e.row) edits (rest_rise e.id edits up) keyed i d (omega (arith, lt))

-- the row of one of them
pub item_owned : (t : Tree) (edits : List Edit) → edits_rise edits ≡ true → IsWellFormed (edited t edits) → (i : ℕ) (e : Edit) → i < length edits → e ≡ get_or edits i e → IsOfIt e
item_owned t edits up formed i e lt is = subst IsOfIt (sym is) (owned t edits up formed.keyed i e lt)
