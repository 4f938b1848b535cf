use Rattle.std.proofs.Common.{◌≡◌, ◌≤◌, length, sym, subst, ◌∙◌}
use Rattle.std.specs.Prelude.{IfOk}
use Rattle.kb_ops.specs.Trees.{IsWellFormed}
use Rattle.kb_ops.specs.Lists.{tree_of}
use Rattle.kb_rules.specs.Meet.{Meet}
use Rattle.kb_rules.specs.Merge.{splits, merge, report}
use Rattle.kb_opchains.specs.Edits.{edited}
use Rattle.kb_resolver.proofs.Rows.{values_up, values_tree}
use Rattle.kb_resolver.proofs.by_rows.Goals as goal

pub by_lists-requires-clause-base : goal.by_lists-requires-clause-base
by_lists-requires-clause-base g c = values_up (g.V.View.tree c.args.base.now) (g.met.V.View.formed c.args.base.now) c.deref.result.now (c.deref.ensures.value ∙ c.in_ok-base_rows.ensures.found)

pub by_lists-requires-clause-merged : goal.by_lists-requires-clause-merged
by_lists-requires-clause-merged g c = values_up (g.V.View.tree c.args.merged.now) (g.met.V.View.formed c.args.merged.now) c.deref-2.result.now (c.deref-2.ensures.value ∙ c.in_ok-merged_rows.ensures.found)

pub by_lists-requires-clause-ours : goal.by_lists-requires-clause-ours
by_lists-requires-clause-ours g c = values_up (g.V.View.tree c.args.ours.now) (g.met.V.View.formed c.args.ours.now) c.deref-3.result.now (c.deref-3.ensures.value ∙ c.in_ok-our_rows.ensures.found)

pub by_lists-requires-clause-meet : goal.by_lists-requires-clause-meet
by_lists-requires-clause-meet g c =
    let b : tree_of c.deref.result.now ≡ g.V.View.tree c.args.base.now = values_tree (g.V.View.tree c.args.base.now) (g.met.V.View.formed c.args.base.now) c.deref.result.now (c.deref.ensures.value ∙ c.in_ok-base_rows.ensures.found) in
    let m : tree_of c.deref-2.result.now ≡ g.V.View.tree c.args.merged.now = values_tree (g.V.View.tree c.args.merged.now) (g.met.V.View.formed c.args.merged.now) c.deref-2.result.now (c.deref-2.ensures.value ∙ c.in_ok-merged_rows.ensures.found) in
    let u : tree_of c.deref-3.result.now ≡ g.V.View.tree c.args.ours.now = values_tree (g.V.View.tree c.args.ours.now) (g.met.V.View.formed c.args.ours.now) c.deref-3.result.now (c.deref-3.ensures.value ∙ c.in_ok-our_rows.ensures.found) in
    subst (λ t. Meet t (tree_of c.deref-2.result.now) (tree_of c.deref-3.result.now) c.args.stamp.now) (sym b) (subst (λ t. Meet (g.V.View.tree c.args.base.now) t (tree_of c.deref-3.result.now) c.args.stamp.now) (sym m) (subst (λ t. Meet (g.V.View.tree c.args.base.now) (g.V.View.tree c.args.merged.now) t c.args.stamp.now) (sym u) c.requires.meet))

pub by_lists-requires-clause-few : goal.by_lists-requires-clause-few
by_lists-requires-clause-few g c =
    let b : tree_of c.deref.result.now ≡ g.V.View.tree c.args.base.now = values_tree (g.V.View.tree c.args.base.now) (g.met.V.View.formed c.args.base.now) c.deref.result.now (c.deref.ensures.value ∙ c.in_ok-base_rows.ensures.found) in
    let m : tree_of c.deref-2.result.now ≡ g.V.View.tree c.args.merged.now = values_tree (g.V.View.tree c.args.merged.now) (g.met.V.View.formed c.args.merged.now) c.deref-2.result.now (c.deref-2.ensures.value ∙ c.in_ok-merged_rows.ensures.found) in
    let u : tree_of c.deref-3.result.now ≡ g.V.View.tree c.args.ours.now = values_tree (g.V.View.tree c.args.ours.now) (g.met.V.View.formed c.args.ours.now) c.deref-3.result.now (c.deref-3.ensures.value ∙ c.in_ok-our_rows.ensures.found) in
    subst (λ xs. length xs ≤ 65535) (λ i. splits (sym b i) (sym m i) (sym u i)) c.requires.few

pub returns-clause-merge : goal.returns-clause-merge
returns-clause-merge g c =
    let b : tree_of c.deref.result.now ≡ g.V.View.tree c.args.base.now = values_tree (g.V.View.tree c.args.base.now) (g.met.V.View.formed c.args.base.now) c.deref.result.now (c.deref.ensures.value ∙ c.in_ok-base_rows.ensures.found) in
    let m : tree_of c.deref-2.result.now ≡ g.V.View.tree c.args.merged.now = values_tree (g.V.View.tree c.args.merged.now) (g.met.V.View.formed c.args.merged.now) c.deref-2.result.now (c.deref-2.ensures.value ∙ c.in_ok-merged_rows.ensures.found) in
    let u : tree_of c.deref-3.result.now ≡ g.V.View.tree c.args.ours.now = values_tree (g.V.View.tree c.args.ours.now) (g.met.V.View.formed c.args.ours.now) c.deref-3.result.now (c.deref-3.ensures.value ∙ c.in_ok-our_rows.ensures.found) in
    subst (λ t. IfOk c.by_lists.result (λ d. edited t d.0.items ≡ merge (g.V.View.tree c.args.base.now) t (g.V.View.tree c.args.ours.now) c.args.stamp.now)) m
    (subst (λ t. IfOk c.by_lists.result (λ d. edited (tree_of c.deref-2.result.now) d.0.items ≡ merge t (tree_of c.deref-2.result.now) (g.V.View.tree c.args.ours.now) c.args.stamp.now)) b
    (subst (λ t. IfOk c.by_lists.result (λ d. edited (tree_of c.deref-2.result.now) d.0.items ≡ merge (tree_of c.deref.result.now) (tree_of c.deref-2.result.now) t c.args.stamp.now)) u c.by_lists.ensures.merge))

pub returns-clause-formed : goal.returns-clause-formed
returns-clause-formed g c =
    let m : tree_of c.deref-2.result.now ≡ g.V.View.tree c.args.merged.now = values_tree (g.V.View.tree c.args.merged.now) (g.met.V.View.formed c.args.merged.now) c.deref-2.result.now (c.deref-2.ensures.value ∙ c.in_ok-merged_rows.ensures.found) in
    subst (λ t. IfOk c.by_lists.result (λ d. IsWellFormed (edited t d.0.items))) m c.by_lists.ensures.formed

pub returns-clause-report : goal.returns-clause-report
returns-clause-report g c =
    let b : tree_of c.deref.result.now ≡ g.V.View.tree c.args.base.now = values_tree (g.V.View.tree c.args.base.now) (g.met.V.View.formed c.args.base.now) c.deref.result.now (c.deref.ensures.value ∙ c.in_ok-base_rows.ensures.found) in
    let m : tree_of c.deref-2.result.now ≡ g.V.View.tree c.args.merged.now = values_tree (g.V.View.tree c.args.merged.now) (g.met.V.View.formed c.args.merged.now) c.deref-2.result.now (c.deref-2.ensures.value ∙ c.in_ok-merged_rows.ensures.found) in
    let u : tree_of c.deref-3.result.now ≡ g.V.View.tree c.args.ours.now = values_tree (g.V.View.tree c.args.ours.now) (g.met.V.View.formed c.args.ours.now) c.deref-3.result.now (c.deref-3.ensures.value ∙ c.in_ok-our_rows.ensures.found) in
    subst (λ t. IfOk c.by_lists.result (λ d. d.1 ≡ report t (g.V.View.tree c.args.merged.now) (g.V.View.tree c.args.ours.now) c.args.stamp.now)) b
    (subst (λ t. IfOk c.by_lists.result (λ d. d.1 ≡ report (tree_of c.deref.result.now) t (g.V.View.tree c.args.ours.now) c.args.stamp.now)) m
    (subst (λ t. IfOk c.by_lists.result (λ d. d.1 ≡ report (tree_of c.deref.result.now) (tree_of c.deref-2.result.now) t c.args.stamp.now)) u c.by_lists.ensures.report))
