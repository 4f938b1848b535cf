use Rattle.std.proofs.Common.{◌≡◌, List, Result, Ok, Err, Vec, Global, IfOk, ap, subst, sym, ◌∙◌}
use Rattle.std.specs.FinMap as map
use Rattle.kb_edge.specs.declared.faults.Memory.{Memory}
use Rattle.kb_ops.specs.declared.rows.Row.{Row}
use Rattle.kb_ops.specs.Lists.{tree_of}
use Rattle.kb_tree.specs.Held.{Held, AreKept}
use Rattle.kb_tree.specs.Slots.{rows_in}
use Rattle.kb_tree.proofs.Found.{rows_are}
use Rattle.kb_tree.proofs.table.Table.rows.Goals as goal

if_ok : (P : List Row → Type 0) (rows : List Row) (r : Result (Vec Row Global) Memory) → P rows → IfOk r (λ v. v.items ≡ rows) → IfOk r (λ v. P v.items)
if_ok P rows (Ok v) h e = subst P (sym e) h
if_ok P rows (Err e) h f = f

pub returns-clause-values : goal.returns-clause-values
returns-clause-values c =
    let e = (λ i. rows_in (c.deref.ensures.value i) (c.deref-2.ensures.value i)) ∙ rows_are _ _ _ c.self.invariant ∙ ap (λ (h : Held). map.values h.tree) c.self.view_is in
    subst (λ xs. IfOk c.rows.result (λ rows. rows.items ≡ xs)) e c.rows.ensures

pub returns-clause-kept : goal.returns-clause-kept
returns-clause-kept c =
    let e : rows_in c.deref.result.now c.deref-2.result.now ≡ rows_in c.self.inside.rows.items c.self.inside.by_id.items = λ i. rows_in (c.deref.ensures.value i) (c.deref-2.ensures.value i) in
    if_ok AreKept (rows_in c.self.inside.rows.items c.self.inside.by_id.items) c.rows.result c.self.invariant.kept (subst (λ xs. IfOk c.rows.result (λ rows. rows.items ≡ xs)) e c.rows.ensures)

pub returns-clause-tree : goal.returns-clause-tree
returns-clause-tree c =
    let e : rows_in c.deref.result.now c.deref-2.result.now ≡ rows_in c.self.inside.rows.items c.self.inside.by_id.items = λ i. rows_in (c.deref.ensures.value i) (c.deref-2.ensures.value i) in
    if_ok (λ xs. tree_of xs ≡ c.args.self.now.tree) (rows_in c.self.inside.rows.items c.self.inside.by_id.items) c.rows.result (ap (λ (h : Held). h.tree) c.self.view_is) (subst (λ xs. IfOk c.rows.result (λ rows. rows.items ≡ xs)) e c.rows.ensures)
