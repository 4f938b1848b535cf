-- The lists of known rows, and what their merge is of the whole trees.
use Rattle.std.proofs.Common.{◌≡◌, ℕ, ◌+◌, ◌*◌, ◌^◌, ◌≤◌, ◌<◌, Bool, true, List, length, refl, ap, subst, arith, mul-le-mul_right}
use Rattle.std.proofs.Math.Nat.{mul-add}
use Rattle.std.specs.FinMap as map
use Rattle.std.specs.BTreeMap.{BTreeMap, IsOrdered}
use Rattle.kb_name.specs.declared.ids.NodeId.{NodeId}
use Rattle.kb_name.specs.Nodes.{node_cmp}
use Rattle.kb_ops.specs.declared.rows.Row.{Row}
use Rattle.kb_ops.specs.Lists.{tree_of, rises}
use Rattle.kb_ops.specs.Trees.{Tree, look, IsWellFormed}
use Rattle.kb_rules.specs.declared.stamp.Stamp.{Stamp}
use Rattle.kb_rules.specs.declared.report.Report.{Report}
use Rattle.kb_rules.specs.Merge.{conflicted, three, merge, report, splits}
use Rattle.kb_rules.specs.Meet.{Meet}
use Rattle.kb_rules.proofs.Copies.{IsNaming}
use Rattle.kb_opchains.specs.declared.view.Edit.{Edit}
use Rattle.kb_opchains.specs.Edits.{edited, edits_rise}
use Rattle.kb_actions.specs.declared.known.Trio.{Trio}
use Rattle.kb_actions.specs.Known.{known_in, IsGathered, ListsOf}
use Rattle.kb_actions.specs.Cuts.{AreCuts}
use Rattle.kb_actions.specs.Merges.{looks_for, IsMergeOf}
use Rattle.kb_opchains.specs.declared.chains.Net.{Net}
use Rattle.kb_opchains.specs.Nets.{AreNets}
use Rattle.kb_ops.specs.declared.rows.Op.{Op}
use Rattle.kb_ops.specs.Trees.{fold_ops}
use Rattle.kb_actions.specs.Bounds.{passed, most_looks}
use Rattle.kb_actions.proofs.Few.{asked_few, nets_few}
use Rattle.kb_actions.proofs.Lists.{kept, base_rise, merged_rise, ours_rise, lists_cut}
use Rattle.kb_actions.proofs.Cutting.{cut_meet, splits_same}
use Rattle.kb_actions.proofs.Whole.{ids_up, looks_whole, merge_same, edits_formed, edits_ordered, report_same}

-- trees of a view leave numbers of conflicted names enough
pub rows_few : (m u : Tree) → map.len m ≤ 2 ^ 32 → map.len u ≤ 2 ^ 32 → 4 * (map.len m + map.len u) < 2 ^ 63
rows_few m u few_m few_u = omega (arith, few_m, few_u)

module _ (b m u : Tree) (stamp : Stamp) (meet : Meet b m u stamp) (known : BTreeMap NodeId Trio) (up : IsOrdered node_cmp known) (all : IsGathered (look b) (look m) (look u) (known_in known)) (base part ours : List Row) (of : ListsOf known base part ours) where
  pub base_up : rises base ≡ true
  base_up = base_rise b m u meet.base meet.merged meet.ours known up all base part ours of

  pub part_up : rises part ≡ true
  part_up = merged_rise b m u meet.base meet.merged meet.ours known up all base part ours of

  pub ours_up : rises ours ≡ true
  ours_up = ours_rise b m u meet.base meet.merged meet.ours known up all base part ours of

  abbrev pub is_kept : NodeId → Bool
  is_kept = kept b m u meet.base meet.merged meet.ours known up all

  pub cuts : AreCuts is_kept b m u (tree_of base) (tree_of part) (tree_of ours)
  cuts = lists_cut b m u meet.base meet.merged meet.ours known up all base part ours of

  pub part_meet : Meet (tree_of base) (tree_of part) (tree_of ours) stamp
  part_meet = cut_meet is_kept b m u (tree_of base) (tree_of part) (tree_of ours) stamp cuts meet

  pub part_splits : splits (tree_of base) (tree_of part) (tree_of ours) ≡ splits b m u
  part_splits = splits_same is_kept b m u (tree_of base) (tree_of part) (tree_of ours) stamp cuts meet

  -- the rows that are looked at for names
  pub names_looks : IsNaming (conflicted stamp) → 4 * (map.len m + map.len u) < 2 ^ 63 → (most : ℕ) → 2 ^ 63 ≤ most → (nm nu : List Net) → AreNets (look b) (look m) nm → AreNets (look b) (look u) nu → (tree : Tree) → tree ≡ m
      → looks_for tree most (three (tree_of base) (tree_of part) (tree_of ours) stamp) ≤ 2 * (2 * length nm + length nu) + passed (three b m u stamp)
  names_looks naming few most enough nm nu are_m are_u tree same =
      let c = three (tree_of base) (tree_of part) (tree_of ours) stamp in
      let whole = looks_whole is_kept b m u (tree_of base) (tree_of part) (tree_of ours) stamp cuts meet naming few most enough in
      let asked = asked_few b m u stamp nm nu are_m are_u c.ids (ids_up is_kept b m u (tree_of base) (tree_of part) (tree_of ours) stamp cuts meet naming few most enough) in
      let e : looks_for tree most c ≡ looks_for m most c = ap (λ x. looks_for x most c) same in
      omega (arith, whole, asked, e)

  module _ (naming : IsNaming (conflicted stamp)) (few : 4 * (map.len m + map.len u) < 2 ^ 63) (most : ℕ) (enough : 2 ^ 63 ≤ most) (tree : Tree) (same : tree ≡ m) (edits : List Edit) (r : Report)
      (is : IsMergeOf tree most (tree_of part) (three (tree_of base) (tree_of part) (tree_of ours) stamp) (splits (tree_of base) (tree_of part) (tree_of ours)) edits r) where
    of_m : IsMergeOf m most (tree_of part) (three (tree_of base) (tree_of part) (tree_of ours) stamp) (splits (tree_of base) (tree_of part) (tree_of ours)) edits r
    of_m = subst (λ x. IsMergeOf x most (tree_of part) (three (tree_of base) (tree_of part) (tree_of ours) stamp) (splits (tree_of base) (tree_of part) (tree_of ours)) edits r) same is

    pub merge_made : edited m edits ≡ merge b m u stamp
    merge_made = merge_same is_kept b m u (tree_of base) (tree_of part) (tree_of ours) stamp cuts meet naming few most enough edits r of_m

    pub merge_formed : IsWellFormed (edited m edits)
    merge_formed = edits_formed is_kept b m u (tree_of base) (tree_of part) (tree_of ours) stamp cuts meet naming few most enough edits r of_m

    pub edits_up : edits_rise edits ≡ true
    edits_up = edits_ordered is_kept b m u (tree_of base) (tree_of part) (tree_of ours) stamp cuts meet naming few most enough edits r of_m

    pub report_made : r ≡ report b m u stamp
    report_made = report_same is_kept b m u (tree_of base) (tree_of part) (tree_of ours) stamp cuts meet naming few most enough edits r of_m

-- ---- the bound

room : (n d p a : ℕ) → a ≡ 64 * (1 + n) → ((1 + (4 * n) * d) + 8 * n) + p ≤ a * (1 + n) * (1 + d) + a * p
room n d p a e =
    let one : 1 ≤ a = omega (arith, e) in
    let s1 : a * (1 + n) ≡ a * 1 + a * n = mul-add a 1 n in
    let le1 : a ≤ a * (1 + n) = omega (arith, s1) in
    let s2 : a * (1 + d) ≤ a * (1 + n) * (1 + d) = mul-le-mul_right (1 + d) le1 in
    let s3 : a * (1 + d) ≡ a * 1 + a * d = mul-add a 1 d in
    let le2 : 4 * n ≤ a = omega (arith, e) in
    let s4 : (4 * n) * d ≤ a * d = mul-le-mul_right d le2 in
    let s5 : 1 * p ≤ a * p = mul-le-mul_right p one in
    omega (arith, s2, s3, s4, s5, e)

-- walks and names together
pub fits_bound : (b m u : Tree) (merged_ops our_ops : List Op) (nm nu : List Net) → fold_ops merged_ops b ≡ m → fold_ops our_ops b ≡ u → AreNets (look b) (look m) nm → AreNets (look b) (look u) nu
    → (d p first last extra : ℕ) → last ≤ ((first + 1) + (2 * (length nm + length nu)) * d) + extra → extra ≤ 2 * (2 * length nm + length nu) + p → last ≤ first + most_looks (length merged_ops + length our_ops) d p
unfolding most_looks
fits_bound b m u merged_ops our_ops nm nu em eu are_m are_u d p first last extra walks names =
    let x = nets_few b m merged_ops nm em are_m in
    let y = nets_few b u our_ops nu eu are_u in
    let n : ℕ = length merged_ops + length our_ops in
    let le : 2 * (length nm + length nu) ≤ 4 * n = omega (arith, x, y) in
    let all : (2 * (length nm + length nu)) * d ≤ (4 * n) * d = mul-le-mul_right d le in
    let big = room n d p (64 * (1 + n)) refl in
    omega (arith, x, y, all, big, walks, names)

pub no_names : (b m u : Tree) (merged_ops our_ops : List Op) (nm nu : List Net) → fold_ops merged_ops b ≡ m → fold_ops our_ops b ≡ u → AreNets (look b) (look m) nm → AreNets (look b) (look u) nu
    → (d p first last : ℕ) → last ≤ (first + 1) + (2 * (length nm + length nu)) * d → last ≤ first + most_looks (length merged_ops + length our_ops) d p
no_names b m u merged_ops our_ops nm nu em eu are_m are_u d p first last walks =
    fits_bound b m u merged_ops our_ops nm nu em eu are_m are_u d p first last 0 (omega (arith, walks)) (omega arith)

pub fits_both : (b m u : Tree) (merged_ops our_ops : List Op) (nm nu : List Net) → fold_ops merged_ops b ≡ m → fold_ops our_ops b ≡ u → AreNets (look b) (look m) nm → AreNets (look b) (look u) nu
    → (d p first middle last extra : ℕ) → middle ≤ (first + 1) + (2 * (length nm + length nu)) * d → last ≤ middle + extra → extra ≤ 2 * (2 * length nm + length nu) + p → last ≤ first + most_looks (length merged_ops + length our_ops) d p
fits_both b m u merged_ops our_ops nm nu em eu are_m are_u d p first middle last extra walks more names =
    fits_bound b m u merged_ops our_ops nm nu em eu are_m are_u d p first last extra (omega (arith, walks, more)) names
