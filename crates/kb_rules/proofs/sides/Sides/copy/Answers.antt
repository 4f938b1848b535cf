use Rattle.std.proofs.Common.{◌≡◌, ◌≢◌, ◌-◌, true, List, length, Option, None, is_some, slice_get, inl, inr, sym, ap, ◌∙◌}
use Rattle.kb_name.specs.declared.ids.NodeId.{NodeId}
use Rattle.kb_ops.specs.declared.rows.Row.{Row}
use Rattle.kb_ops.specs.Rows.{Look}
use Rattle.kb_rules.specs.declared.stamp.Stamp.{Stamp}
use Rattle.kb_rules.specs.Merge.{copied, with_copies}
use Rattle.kb_rules.specs.Code.{row_in, copies_of, ours_in}
use Rattle.kb_rules.proofs.Basics.{not_both}
use Rattle.kb_rules.proofs.Copies.{copied_cases}
use Rattle.kb_rules.proofs.CopyRows.{copy_is, copy_none, copy_like}
use Rattle.kb_rules.proofs.sides.Sides.copy.Goals as goal

found : (stamp : Stamp) (splits : List NodeId) (u : Look) (copies : List Row) (q : NodeId) (o : Option Row) → copies ≡ copies_of stamp 1 splits u → length copies ≡ length splits
    → q.device ≡ stamp.device → q.seq ≡ stamp.last → q.part ≢ 0 → o ≡ slice_get copies (q.part - 1) → is_some (copied stamp splits q) ≡ true → o ≡ with_copies stamp splits u q
found stamp splits u copies q o are all d s p got h = elim (copied_cases stamp splits u q) [
  | inl x ↦ got ∙ ap (λ rows. slice_get rows (q.part - 1)) are ∙ copy_is stamp splits u (sym (ap length are) ∙ all) q x.0 (copy_like stamp q d s) p x.1
  | inr none ↦ not_both _ h (ap is_some none)
]

none : (stamp : Stamp) (splits : List NodeId) (u : Look) (copies : List Row) (q : NodeId) (o : Option Row) → copies ≡ copies_of stamp 1 splits u → length copies ≡ length splits
    → q.device ≡ stamp.device → q.seq ≡ stamp.last → q.part ≢ 0 → o ≡ slice_get copies (q.part - 1) → copied stamp splits q ≡ None → o ≡ None
none stamp splits u copies q o are all d s p got h = got ∙ ap (λ rows. slice_get rows (q.part - 1)) are ∙ copy_none stamp splits u (sym (ap length are) ∙ all) q (copy_like stamp q d s) p h

pub returns-then-q-ne0-clause-found : goal.returns-then-q-ne0-clause-found
unfolding ours_in
returns-then-q-ne0-clause-found c = let s = c.args.self.now in found s.stamp.now s.splits.now (row_in s.ours.now) s.copies.now c.args.q _ c.requires.copies c.requires.all c.if-q-self.true c.if-q-self-2.true c.if-q-ne0.true c.row_at.ensures

pub returns-then-q-ne0-clause-none : goal.returns-then-q-ne0-clause-none
returns-then-q-ne0-clause-none c = let s = c.args.self.now in none s.stamp.now s.splits.now (row_in s.ours.now) s.copies.now c.args.q _ c.requires.copies c.requires.all c.if-q-self.true c.if-q-self-2.true c.if-q-ne0.true c.row_at.ensures
