use Rattle.std.proofs.Common.{true, false, sym, ap, ◌∙◌}
use Rattle.std.specs.Option.{option_copied}
use Rattle.kb_rules.specs.Code.{row_in, ours_in}
use Rattle.kb_rules.proofs.CopyRows.{none_found, not_copy}
use Rattle.kb_rules.proofs.sides.Sides.ours.Goals as goal

pub returns-then-is_split : goal.returns-then-is_split
unfolding ours_in
returns-then-is_split c =
    let s = c.args.self.now in
    let none = none_found s.stamp.now s.splits.now (row_in s.ours.now) s.copies.now c.args.q (option_copied c.copy.result) c.requires.copies c.requires.all c.copy.ensures.found (ap option_copied c.in-None.is) in
    sym (not_copy s.stamp.now s.splits.now (row_in s.ours.now) c.args.q none true (sym c.if-is_split.true ∙ c.is_split.ensures))

pub returns-else-is_split : goal.returns-else-is_split
unfolding ours_in
returns-else-is_split c =
    let s = c.args.self.now in
    let none = none_found s.stamp.now s.splits.now (row_in s.ours.now) s.copies.now c.args.q (option_copied c.copy.result) c.requires.copies c.requires.all c.copy.ensures.found (ap option_copied c.in-None.is) in
    c.row.ensures ∙ sym (not_copy s.stamp.now s.splits.now (row_in s.ours.now) c.args.q none false (sym c.if-is_split.false ∙ c.is_split.ensures))
