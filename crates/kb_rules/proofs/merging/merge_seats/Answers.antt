use Rattle.std.proofs.Common.{◌∙◌}
use Rattle.kb_rules.specs.Naming.{name_of}
use Rattle.kb_rules.proofs.RowFacts.{rows_are}
use Rattle.kb_rules.proofs.merging.merge_seats.Goals as goal

pub returns-clause-rows : goal.returns-clause-rows
returns-clause-rows c =
    let s = c.args.seats.now.sides.now in
    c.in_ok-rows.ensures ∙ rows_are s (name_of c.in_ok-naming.naming.names) c.in_ok-naming.ensures.names s.ids.now
