use Rattle.std.proofs.Common.{◌∙◌, ◌++◌, ◌∷◌, [], take, get_or, subst, sym}
use Rattle.std.proofs.lemmas.List.{take_more, take_all}
use Rattle.std.specs.FinMap as map
use Rattle.kb_name.specs.Nodes.{root}
use Rattle.kb_name.specs.declared.ids.NodeId.{NodeId}
use Rattle.kb_ops.specs.Trees.{look}
use Rattle.kb_tree.specs.Children.{IsChildren}
use Rattle.kb_snap.proofs.Among.{one_at}
use Rattle.kb_snap.proofs.Entries.{AreEntriesAt, entries_push, entries_proper, entries_children, entries_pointed, child_some, child_pointed}
use Rattle.kb_snap.proofs.listing.entries_below.Goals as goal

pub entry_at-requires-clause-row : goal.entry_at-requires-clause-row
entry_at-requires-clause-row c =
    let t = c.args.table.now.tree in
    let xs = c.deref-id-items.result.now in
    let are = subst (IsChildren t c.args.parent) (sym c.deref-id-items.ensures.value) c.in_ok-children.ensures in
    child_some t c.is_well_formed.ensures (map.get c.args.pointers.now) c.args.parent xs are (get_or xs c.loop-id.id-index root) (one_at xs c.loop-id.id-index root c.loop-id-test.true)

pub entry_at-requires-clause-pointed : goal.entry_at-requires-clause-pointed
entry_at-requires-clause-pointed c =
    let t = c.args.table.now.tree in
    let xs = c.deref-id-items.result.now in
    let are = subst (IsChildren t c.args.parent) (sym c.deref-id-items.ensures.value) c.in_ok-children.ensures in
    child_pointed t c.is_well_formed.ensures (map.get c.args.pointers.now) c.args.parent xs are c.requires (get_or xs c.loop-id.id-index root) (one_at xs c.loop-id.id-index root c.loop-id-test.true)

pub loop-id-preserved : goal.loop-id-preserved
loop-id-preserved c =
    let l = look c.args.table.now.tree in
    let at = map.get c.args.pointers.now in
    let xs = c.deref-id-items.result.now in
    let i = c.loop-id.id-index in
    let q : NodeId = get_or xs i root in
    let pushed = entries_push l at (take i xs) c.loop-id.entries.items q c.in_ok-entry.entry c.loop-id.invariant c.in_ok-entry.ensures in
    subst (λ ids. AreEntriesAt l at ids c.push.new.self.items) (sym (take_more xs i root c.loop-id-test.true))
    (subst (AreEntriesAt l at (take i xs ++ q ∷ [])) (sym c.in_ok-push.ensures.items) pushed)

pub returns-clause-proper : goal.returns-clause-proper
returns-clause-proper c =
    let t = c.args.table.now.tree in
    let at = map.get c.args.pointers.now in
    let all = subst (λ ids. AreEntriesAt (look t) at ids c.loop-id.entries.items) (take_all c.loop-id.id-index c.deref-id-items.result.now c.loop-id-test.false ∙ c.deref-id-items.ensures.value) c.loop-id.invariant in
    entries_proper t c.is_well_formed.ensures at c.args.parent c.in_ok-children.children.items c.in_ok-children.ensures c.loop-id.entries.items all

pub returns-clause-children : goal.returns-clause-children
returns-clause-children c =
    let t = c.args.table.now.tree in
    let at = map.get c.args.pointers.now in
    let all = subst (λ ids. AreEntriesAt (look t) at ids c.loop-id.entries.items) (take_all c.loop-id.id-index c.deref-id-items.result.now c.loop-id-test.false ∙ c.deref-id-items.ensures.value) c.loop-id.invariant in
    entries_children t c.is_well_formed.ensures at c.args.parent c.in_ok-children.children.items c.in_ok-children.ensures c.loop-id.entries.items all

pub returns-clause-pointed : goal.returns-clause-pointed
returns-clause-pointed c =
    let t = c.args.table.now.tree in
    let at = map.get c.args.pointers.now in
    let all = subst (λ ids. AreEntriesAt (look t) at ids c.loop-id.entries.items) (take_all c.loop-id.id-index c.deref-id-items.result.now c.loop-id-test.false ∙ c.deref-id-items.ensures.value) c.loop-id.invariant in
    entries_pointed t c.is_well_formed.ensures at c.args.parent c.in_ok-children.children.items c.in_ok-children.ensures c.loop-id.entries.items all
