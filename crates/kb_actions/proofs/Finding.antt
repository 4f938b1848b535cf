-- The edits and the report that the code finds are those of the definition.
use Rattle.std.proofs.Common.{◌≡◌, ℕ, ◌+◌, ◌≤◌, true, List, [], ◌∷◌, ◌++◌, length, Option, refl, ap, subst, ◌∙◌}
use Rattle.kb_name.specs.declared.ids.NodeId.{NodeId}
use Rattle.kb_ops.specs.Rows.{Look}
use Rattle.kb_ops.specs.Trees.{Tree, look}
use Rattle.kb_ops.specs.Lists.{tree_of, rises}
use Rattle.kb_rules.specs.Three.{Three}
use Rattle.kb_rules.specs.declared.report.Report.{Report}
use Rattle.kb_rules.specs.Merge.{copy_ids, put_ids, split_among, splits, joins, three}
use Rattle.kb_rules.proofs.SideFacts.{three_is, splits_are}
use Rattle.kb_actions.specs.Merges.{named_by, looks_for, IsMergeOf}
use Rattle.kb_rules.specs.declared.sides.Sides.{Sides}
use Rattle.kb_rules.specs.Names.{Given, result_with}
use Rattle.kb_rules.specs.Code.{merged_in, row_in, ids_of, copies_of}
use Rattle.kb_rules.specs.Naming.{named_three, given_to, row_by}
use Rattle.kb_rules.proofs.RowFacts.{row_with}
use Rattle.kb_opchains.specs.declared.view.Edit.{Edit}
use Rattle.kb_actions.specs.Edits.{edit_if, edits_in}

same_edits : (old a b : Look) → ((q : NodeId) → a q ≡ b q) → (ids : List NodeId) → edits_in old a ids ≡ edits_in old b ids
same_edits old a b h [] = refl
same_edits old a b h (q ∷ ids) = λ i. edit_if q (old q) (h q i) ++ same_edits old a b h ids i

pub edits_named : (s : Sides) (gs : List Given) (name : NodeId → Option (List ℕ)) (ids : List NodeId) (edits : List Edit) → ((q : NodeId) → name q ≡ given_to gs q) → edits ≡ edits_in (merged_in s) (λ q. row_by s (name q) q) ids → edits ≡ edits_in (merged_in s) (result_with (named_three s) gs) ids
edits_named s gs name ids edits are e = e ∙ same_edits (merged_in s) (λ q. row_by s (name q) q) (result_with (named_three s) gs) (λ q. ap (λ o. row_by s o q) (are q) ∙ row_with s gs q) ids

module _ (s : Sides) (base : rises s.base.now ≡ true) (merged : rises s.merged.now ≡ true) (ours : rises s.ours.now ≡ true)
    (split : s.splits.now ≡ split_among (row_in s.base.now) (row_in s.merged.now) (row_in s.ours.now) (ids_of s.merged.now))
    (copies : s.copies.now ≡ copies_of s.stamp.now 1 s.splits.now (row_in s.ours.now))
    (ids : s.ids.now ≡ put_ids (copy_ids s.stamp.now 1 s.splits.now) (put_ids (ids_of s.ours.now) (ids_of s.merged.now)))
    (rule : s.stamp.now.rule ≡ 1) where
  abbrev t : Three
  t = three (tree_of s.base.now) (tree_of s.merged.now) (tree_of s.ours.now) s.stamp.now

  same : named_three s ≡ t
  same = three_is s base merged ours split copies ids rule

  merged_is : merged_in s ≡ look (tree_of s.merged.now)
  unfolding merged_in
  merged_is = ap (λ (z : Three). z.merged) same

  pub merge_found : (m : Tree) (all : ℕ) (edits : List Edit) (report : Report) → edits ≡ edits_in (merged_in s) (result_with (named_three s) (named_by m all (named_three s))) s.ids.now → report.copies ≡ length s.splits.now → report.renamed ≡ length (named_by m all (named_three s)) → report.joined ≡ joins (named_three s)
      → IsMergeOf m all (tree_of s.merged.now) t (splits (tree_of s.base.now) (tree_of s.merged.now) (tree_of s.ours.now)) edits report
  merge_found m all edits report e copied renamed joined =
      subst (λ x. IsMergeOf m all (tree_of s.merged.now) x (splits (tree_of s.base.now) (tree_of s.merged.now) (tree_of s.ours.now)) edits report) same (record {
        edits_are = e ∙ ap (λ f. edits_in f (result_with (named_three s) (named_by m all (named_three s))) s.ids.now) merged_is;
        copies = copied ∙ ap length (splits_are s base merged ours split copies ids);
        renamed = renamed;
        joined = joined;
      })

  pub looks_found : (m : Tree) (all first more : ℕ) → more ≤ first + looks_for m all (named_three s) → more ≤ first + looks_for m all t
  looks_found m all first more h = subst (λ x. more ≤ first + looks_for m all x) same h
