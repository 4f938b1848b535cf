-- The rows and the report of the code are those of the merge.
use Rattle.std.proofs.Common.{◌≡◌, ◌^◌, ◌≤◌, ◌<◌, true, List, length, sym, ap, ◌∙◌}
use Rattle.std.specs.List.{filter_map}
use Rattle.std.specs.FinMap as map
use Rattle.kb_name.specs.Names.{is_device_name}
use Rattle.kb_name.specs.Moments.{last_second}
use Rattle.kb_ops.specs.declared.rows.Row.{Row}
use Rattle.kb_ops.specs.Lists.{rises, tree_of}
use Rattle.kb_rules.specs.declared.sides.Sides.{Sides}
use Rattle.kb_rules.specs.declared.report.Report.{Report}
use Rattle.kb_rules.specs.Three.{Three}
use Rattle.kb_rules.specs.Names.{given, result}
use Rattle.kb_rules.specs.Merge.{copy_ids, put_ids, split_among, three, merge, joins, report}
use Rattle.kb_rules.specs.Meet.{Meet}
use Rattle.kb_rules.specs.Code.{ascend, row_in, ids_of, copies_of}
use Rattle.kb_rules.specs.Naming.{named_three}
use Rattle.kb_rules.proofs.Copies.{can_name}
use Rattle.kb_rules.proofs.Formed.{result_was}
use Rattle.kb_rules.proofs.Listed.{naming, few_rows}
use Rattle.kb_rules.proofs.SideFacts.{three_is, splits_are, sides_are}
use Rattle.kb_rules.proofs.TreeRows.{IsKeyed, rows_rise, tree_rows}

module _ (s : Sides) (base : rises s.base.now ≡ true) (merged : rises s.merged.now ≡ true) (ours : rises s.ours.now ≡ true)
    (split : s.splits.now ≡ split_among (row_in s.base.now) (row_in s.merged.now) (row_in s.ours.now) (ids_of s.merged.now))
    (copies : s.copies.now ≡ copies_of s.stamp.now 1 s.splits.now (row_in s.ours.now))
    (ids : s.ids.now ≡ put_ids (copy_ids s.stamp.now 1 s.splits.now) (put_ids (ids_of s.ours.now) (ids_of s.merged.now)))
    (meet : Meet (tree_of s.base.now) (tree_of s.merged.now) (tree_of s.ours.now) s.stamp.now) (rule : s.stamp.now.rule ≡ 1) where
  abbrev t : Three
  t = three (tree_of s.base.now) (tree_of s.merged.now) (tree_of s.ours.now) s.stamp.now

  same : named_three s ≡ t
  same = three_is s base merged ours split copies ids rule

  module _ (device : is_device_name s.stamp.now.name ≡ true) (moment : s.stamp.now.moment ≤ last_second) (lm : length s.merged.now < 2 ^ 57) (lu : length s.ours.now < 2 ^ 57) where
    keyed : IsKeyed (result t)
    keyed q r h =
        let ready = can_name (tree_of s.base.now) (tree_of s.merged.now) (tree_of s.ours.now) s.stamp.now meet (naming s.stamp.now device moment) (few_rows s.merged.now s.ours.now merged ours lm lu) in
        let w = result_was (map.len (tree_of s.merged.now)) (map.len (tree_of s.ours.now)) t ready q r h in
        ap (λ (z : Row). z.id) w.3 ∙ w.4.id

    up : ascend t.ids ≡ true
    up = ap (λ (z : Three). ascend z.ids) (sym same) ∙ (sides_are s base merged ours split copies ids meet rule).ids

    rows_same : filter_map (result (named_three s)) s.ids.now ≡ filter_map (result t) t.ids
    rows_same = ap (λ (z : Three). filter_map (result z) z.ids) same

    pub merge_is : (rows : List Row) → rows ≡ filter_map (result (named_three s)) s.ids.now → tree_of rows ≡ merge (tree_of s.base.now) (tree_of s.merged.now) (tree_of s.ours.now) s.stamp.now
    merge_is rows e = ap tree_of (e ∙ rows_same) ∙ tree_rows (result t) keyed t.ids up

    pub rows_ascend : (rows : List Row) → rows ≡ filter_map (result (named_three s)) s.ids.now → rises rows ≡ true
    rows_ascend rows e = ap rises (e ∙ rows_same) ∙ rows_rise (result t) keyed t.ids up

  pub report_is : (r : Report) → r.copies ≡ length s.splits.now → r.renamed ≡ length (given (named_three s)) → r.joined ≡ joins (named_three s)
      → r ≡ report (tree_of s.base.now) (tree_of s.merged.now) (tree_of s.ours.now) s.stamp.now
  report_is r c n j = λ i. record {
    copies = (c ∙ ap length (splits_are s base merged ours split copies ids)) i;
    renamed = (n ∙ ap (λ (z : Three). length (given z)) same) i;
    joined = (j ∙ ap joins same) i;
  }
