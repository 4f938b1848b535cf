-- The merge by the trees that are cut down is the merge of the whole trees.
use Rattle.std.proofs.Common.{◌≡◌, ℕ, ◌+◌, ◌*◌, ◌^◌, ◌≤◌, ◌<◌, Bool, true, List, length, filter, inl, inr, cond, Option, refl, sym, ap, subst, ◌∙◌, arith}
use Rattle.std.specs.FinMap as map
use Rattle.kb_name.specs.declared.ids.NodeId.{NodeId}
use Rattle.kb_ops.specs.declared.rows.Row.{Row}
use Rattle.kb_name.specs.Nodes.{root}
use Rattle.kb_ops.specs.Trees.{Tree, look, IsWellFormed}
use Rattle.kb_ops.proofs.Looks.{same_tree}
use Rattle.kb_rules.specs.declared.stamp.Stamp.{Stamp}
use Rattle.kb_rules.specs.declared.report.Report.{Report}
use Rattle.kb_rules.specs.Three.{Three}
use Rattle.kb_rules.specs.Names.{result, result_with}
use Rattle.kb_rules.specs.Merge.{conflicted, three, merge, joins, report, copy_ids, put_ids}
use Rattle.kb_rules.specs.Code.{ascend}
use Rattle.kb_rules.proofs.Ids.{keys_rise}
use Rattle.kb_rules.specs.Merge as merging
use Rattle.kb_rules.specs.Meet.{Meet}
use Rattle.kb_rules.specs.Ready.{is_in, CanMerge}
use Rattle.kb_rules.proofs.Ready.{CanName}
use Rattle.kb_rules.proofs.Basics.{bool_cases, when, unless}
use Rattle.kb_rules.proofs.Tables.{root_in_ids}
use Rattle.kb_rules.proofs.Copies.{IsNaming, can_merge, can_name, ids_few}
use Rattle.kb_rules.proofs.Lawful.{look-merge, lawful}
use Rattle.kb_opchains.specs.declared.view.Edit.{Edit}
use Rattle.kb_opchains.specs.Edits.{edited, edits_rise}
use Rattle.kb_actions.specs.Parts.{IsPart}
use Rattle.kb_actions.specs.Cuts.{AreCuts}
use Rattle.kb_actions.specs.Seen.{Seen}
use Rattle.kb_actions.specs.Merges.{seen_for, named_by, looks_for, IsMergeOf}
use Rattle.kb_actions.specs.Bounds.{passed}
use Rattle.kb_actions.proofs.Counting.{asks, names_few}
use Rattle.kb_actions.proofs.Ascend.{ascend_puts}
use Rattle.kb_actions.proofs.NameFacts.{outside_at, seen_is, given_same}
use Rattle.kb_actions.proofs.Results.{result_inside, result_outside, joins_same}
use Rattle.kb_actions.proofs.Cutting.{cut_meet, cut_part, splits_same}
use Rattle.kb_actions.proofs.Editing.{edited_at, rise_all}

module _ (kept : NodeId → Bool) (b m u cb cm cu : Tree) (stamp : Stamp) (cuts : AreCuts kept b m u cb cm cu) (meet : Meet b m u stamp) (naming : IsNaming (conflicted stamp)) (few : 4 * (map.len m + map.len u) < 2 ^ 63) (most : ℕ) (enough : 2 ^ 63 ≤ most) where
  abbrev t : Three
  t = three b m u stamp

  abbrev c : Three
  c = three cb cm cu stamp

  abbrev inside : NodeId → Bool
  inside q = is_in q c.ids

  ready : CanName (map.len m) (map.len u) t
  ready = can_name b m u stamp meet naming few

  less : CanMerge (map.len cm) (map.len cu) c
  less = can_merge cb cm cu stamp (cut_meet kept b m u cb cm cu stamp cuts meet)

  part : IsPart t c inside
  part = cut_part kept b m u cb cm cu stamp cuts meet

  top : inside root ≡ true
  top = root_in_ids (map.len cm) (map.len cu) c less

  abbrev seen : Seen
  seen = seen_for m c

  sees : (p : NodeId) (x : List ℕ) → seen p x ≡ outside_at t inside p x
  sees = seen_is m t inside meet.merged refl top (λ q r h. (can_merge b m u stamp meet).merged_in q r h)

  enough_ids : 2 * length t.ids ≤ most
  enough_ids = let some = ids_few b m u stamp meet naming few in omega (arith, some, enough)

  pub ids_up : ascend c.ids ≡ true
  ids_up = ascend_puts (copy_ids stamp 1 (merging.splits cb cm cu)) (put_ids (map.keys cu) (map.keys cm)) (ascend_puts (map.keys cu) (map.keys cm) (keys_rise cm))

  -- how many rows are looked at for names
  pub looks_whole : looks_for m most c ≤ 2 * length (filter (asks t) c.ids) + passed t
  looks_whole = names_few (map.len m) (map.len u) (map.len cm) (map.len cu) t c inside part less ready seen sees refl most enough_ids

  module _ (edits : List Edit) (r : Report) (is : IsMergeOf m most cm c (merging.splits cb cm cu) edits r) where
    abbrev new : NodeId → Option Row
    new = result_with c (named_by m most c)

    up : ascend c.ids ≡ true
    up = ascend_puts (copy_ids stamp 1 (merging.splits cb cm cu)) (put_ids (map.keys cu) (map.keys cm)) (ascend_puts (map.keys cu) (map.keys cm) (keys_rise cm))

    at : (q : NodeId) → look (edited m edits) q ≡ cond (inside q) (new q) (look m q)
    at q =
        ap (λ x. look (edited m x) q) is.edits_are
        ∙ edited_at m (look cm) new c.ids up (λ k h. sym (part.merged k h)) q

    same_at : (q : NodeId) → look (edited m edits) q ≡ result t q
    same_at q = elim (bool_cases (inside q)) [
      | inl h ↦ at q ∙ when (inside q) (new q) (look m q) h
          ∙ sym (result_inside (map.len m) (map.len u) (map.len cm) (map.len cu) t c inside part less ready seen sees refl most enough_ids q h)
      | inr h ↦ at q ∙ unless (inside q) (new q) (look m q) h
          ∙ sym (result_outside (map.len m) (map.len u) (map.len cm) (map.len cu) t c inside part less ready seen sees refl most enough_ids q h)
    ]

    -- the edits make the merge of merged
    pub merge_same : edited m edits ≡ merge b m u stamp
    merge_same = same_tree (edited m edits) (merge b m u stamp) (λ q. same_at q ∙ sym (look-merge b m u stamp meet naming few q))

    pub edits_formed : IsWellFormed (edited m edits)
    edits_formed = subst IsWellFormed (sym merge_same) (lawful b m u stamp meet naming few).formed

    pub edits_ordered : edits_rise edits ≡ true
    edits_ordered = ap edits_rise is.edits_are ∙ rise_all (look cm) new c.ids up

    pub report_same : r ≡ report b m u stamp
    report_same = λ i. record {
      copies = (is.copies ∙ ap length (splits_same kept b m u cb cm cu stamp cuts meet)) i;
      renamed = (is.renamed ∙ ap length (sym (given_same (map.len m) (map.len u) (map.len cm) (map.len cu) t c inside part ready.can less seen sees ready refl most enough_ids))) i;
      joined = (is.joined ∙ sym (joins_same (map.len m) (map.len u) (map.len cm) (map.len cu) t c inside part less ready seen sees refl most enough_ids)) i;
    }
