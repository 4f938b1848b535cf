use Rattle.std.proofs.Common.{◌<◌, ◌++◌, length, sym, ◌∙◌, arith}
use Rattle.std.specs.Option.{option_to_list}
use Rattle.kb_rules.specs.Naming.{name_of, row_by}
use Rattle.kb_rules.proofs.RowFacts.{rows_more}
use Rattle.kb_rules.proofs.merged.merged_rows.Goals as goal

pub loop-q-preserved : goal.loop-q-preserved
loop-q-preserved c =
    let s = c.args.seats.now.sides.now in
    let i = c.loop-q.q-index in
    let within : i < length s.ids.now = omega arith in
    c.in_ok-push_some.ensures
    ∙ ((λ j. c.loop-q.invariant j ++ option_to_list (c.in_ok-row.ensures j))
    ∙ sym (rows_more (λ q. row_by s (name_of c.args.names.now q) q) s.ids.now i (record { device = 0; seq = 0; part = 0 }) within))
