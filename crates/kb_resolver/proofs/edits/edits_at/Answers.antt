use Rattle.std.proofs.Common.{◌<◌, length, arith}
use Rattle.kb_rules.specs.Code.{row_in}
use Rattle.kb_actions.proofs.Editing.{next_edit}
use Rattle.kb_resolver.proofs.edits.edits_at.Goals as goal

pub loop-id-preserved : goal.loop-id-preserved
loop-id-preserved c =
    let ids = c.args.ids.now in
    let within : c.loop-id.id-index < length ids = omega arith in
    next_edit (row_in c.args.before.now) (row_in c.args.after.now) ids c.loop-id.id-index (record { device = 0; seq = 0; part = 0 }) c.loop-id.edits.items c.push_edit.new.edits.items _ _ _ within c.loop-id.invariant c.row.ensures c.row-in-loop-id.ensures c.in_ok-push_edit.ensures
