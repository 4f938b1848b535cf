use Rattle.std.proofs.Common.{◌≡◌, ◌≢◌, zero, suc, ◌+◌, ◌-◌, true, sym, ap, ◌∙◌, subst, arith}
use Rattle.std.specs.FinMap as map
use Rattle.kb_name.specs.Nodes.{root}
use Rattle.kb_ops.specs.Trees.{look}
use Rattle.kb_tree.proofs.Found.{root_meets}
use Rattle.kb_ops.specs.Rows.{meets}
use Rattle.kb_ops.proofs.Nodes.{node_is, apart}
use Rattle.kb_ops.proofs.Walks.{meets_here, meets_next, meets_nowhere}
use Rattle.kb_tree.proofs.table.Table.is_below.Goals as goal

pub returns-then-eq : goal.returns-then-eq
returns-then-eq c =
    let t = look c.args.self.now.tree in
    let n = map.len c.args.self.now.tree - c.loop.counter in
    let left : n + c.loop.counter ≡ map.len c.args.self.now.tree = omega arith in
    sym (subst (λ x. meets t c.args.node n x ≡ true) (sym (node_is _ _ (sym c.eq.ensures ∙ c.if-eq.true))) (meets_here t c.args.node n)) ∙ c.loop.invariant n left

pub returns-then-eq-2 : goal.returns-then-eq-2
returns-then-eq-2 c =
    let n = map.len c.args.self.now.tree - c.loop.counter in
    let left : n + c.loop.counter ≡ map.len c.args.self.now.tree = omega arith in
    let at : c.loop.from ≡ root = node_is _ _ (sym c.eq-in-loop.ensures ∙ c.if-eq-2.true) in
    let off : root ≢ c.args.node = λ e. apart _ _ (sym c.eq.ensures ∙ c.if-eq.false) (at ∙ e) in
    sym (ap (meets (look c.args.self.now.tree) c.args.node n) at ∙ root_meets c.args.self.now.tree c.is_well_formed.ensures c.args.node off n) ∙ c.loop.invariant n left

pub returns-in-None : goal.returns-in-None
returns-in-None c =
    let n = map.len c.args.self.now.tree - c.loop.counter in
    let left : n + c.loop.counter ≡ map.len c.args.self.now.tree = omega arith in
    sym (meets_nowhere (look c.args.self.now.tree) c.args.node c.loop.from n (apart _ _ (sym c.eq.ensures ∙ c.if-eq.false)) (sym c.in-None.ensures.found)) ∙ c.loop.invariant n left

pub loop-preserved : goal.loop-preserved
loop-preserved c = λ n e.
    let left : suc n + c.loop.counter ≡ map.len c.args.self.now.tree = omega arith in
    sym (meets_next (look c.args.self.now.tree) c.args.node c.loop.from n c.in-Some.row.now (apart _ _ (sym c.eq.ensures ∙ c.if-eq.false)) (sym c.in-Some.ensures.found)) ∙ c.loop.invariant (suc n) left

pub returns : goal.returns
returns c = let left : zero + c.loop.counter ≡ map.len c.args.self.now.tree = omega arith in c.eq-2.ensures ∙ c.loop.invariant zero left
