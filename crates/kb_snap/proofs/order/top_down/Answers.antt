use Rattle.std.proofs.Common.{◌<◌, ◌≤◌, length, arith, ap, ◌++◌, ◌∷◌, [], ◌∙◌}
use Rattle.kb_ops.specs.Trees.{look}
use Rattle.kb_snap.proofs.TopDown.{listed_first, listed_by, listed_all}
use Rattle.kb_name.specs.Nodes.{root}
use Rattle.kb_snap.proofs.order.top_down.Goals as goal

pub returns : goal.returns
returns c =
    let long = c.rows.ids.ok.0 in
    let all : length c.rows.ids.items ≤ c.rows.next = omega (arith, c.len-in-rows.ensures, c.rows-test.false) in
    listed_all (look c.args.table.now.tree) c.rows.next c.rows.ids.items all c.rows.invariant

pub rows-init : goal.rows-init
rows-init c = listed_first c.args.table.now.tree c.is_well_formed.ensures c.push.new.self.items (c.in_ok-push.ensures.items ∙ ap (λ xs. xs ++ root ∷ []) c.in_ok-ids.ensures.items)

pub rows-preserved : goal.rows-preserved
rows-preserved c =
    let long = c.rows.ids.ok.0 in
    let within : c.rows.next < length c.rows.ids.items = omega (arith, c.len-in-rows.ensures, c.rows-test.true) in
    listed_by c.args.table.now.tree c.is_well_formed.ensures c.rows.next c.rows.ids.items c.add_children.new.ids.items c.index-id.result.now within c.index-id.ensures c.in_ok-add_children.ensures c.rows.invariant
