use Rattle.std.proofs.Common.{◌≡◌, suc, zero, ◌+◌, ◌-◌, sym, ap, ◌∙◌, arith}
use Rattle.std.specs.FinMap as map
use Rattle.kb_name.specs.Nodes.{root}
use Rattle.kb_ops.specs.Trees.{look}
use Rattle.kb_ops.proofs.Nodes.{node_is}
use Rattle.kb_snap.proofs.Forgets.{forgotten, left_after, forgotten_next, forgotten_last, forgotten_root}
use Rattle.kb_snap.proofs.pointers.Pointers.forget.Goals as goal

pub returns-then-eq : goal.returns-then-eq
returns-then-eq c q =
    let t = c.args.table.now.tree in
    let n = map.len t - c.rows.counter in
    let left : n + c.rows.counter ≡ map.len t = omega arith in
    let at : c.rows.from ≡ root = node_is _ _ (sym c.eq.ensures ∙ c.if-eq.true) in
    ap (λ m. map.get m q) (c.drop_one.ensures ∙ ap (map.remove c.rows.self) at ∙ sym (ap (λ q. forgotten (look t) n q c.rows.self) at ∙ forgotten_root t c.is_well_formed.ensures n c.rows.self) ∙ c.rows.invariant n left) ∙ left_after (look t) (map.len t) c.args.id c.args.self.now q

pub returns-in-None : goal.returns-in-None
returns-in-None c q =
    let t = c.args.table.now.tree in
    let n = map.len t - c.rows.counter - 1 in
    let left : suc n + c.rows.counter ≡ map.len t = omega arith in
    ap (λ m. map.get m q) (c.drop_one.ensures ∙ sym (forgotten_last (look t) n c.rows.from c.rows.self (sym c.in-None.ensures.found)) ∙ c.rows.invariant (suc n) left) ∙ left_after (look t) (map.len t) c.args.id c.args.self.now q

pub rows-preserved : goal.rows-preserved
rows-preserved c = λ n e.
    let t = c.args.table.now.tree in
    let left : suc n + c.rows.counter ≡ map.len t = omega arith in
    ap (forgotten (look t) n c.in-Some.row.now.parent) c.drop_one.ensures ∙ sym (forgotten_next (look t) n c.rows.from c.in-Some.row.now c.rows.self (sym c.in-Some.ensures.found)) ∙ c.rows.invariant (suc n) left

pub returns : goal.returns
returns c q =
    let t = c.args.table.now.tree in
    let left : zero + c.rows.counter ≡ map.len t = omega arith in
    ap (λ m. map.get m q) (c.drop_one-2.ensures ∙ c.rows.invariant zero left) ∙ left_after (look t) (map.len t) c.args.id c.args.self.now q
