use Rattle.std.proofs.Common.{◌+◌, Ok, refl, ap, ◌∙◌}
use Rattle.kb_ops.specs.Plan.{change_for}
use Rattle.kb_journal.specs.State.{last_seq}
use Rattle.kb_device.proofs.Planned.{planned_made}
use Rattle.kb_device.proofs.session.Session.call_without_seq.Goals as goal

pub returns-clause-does : goal.returns-clause-does
returns-clause-does g c =
    let session = c.args.self.now in
    let made = planned_made (change_for session.shown.tree c.args.request.now) c.args.number c.last-seq.result (last_seq session.journal.state + 1) c.args.moment c.in-Ok-Made.field-0-0
    (c.in-Ok-Made.ensures.plan ∙ ap (λ p. Ok p) c.in-Ok-Made.field-0-is) in
    record { op = made.0; writes = c.requires.writes; plan = made.1; adds = record { refuses = c.requires.spent; stays = record { session = refl; disk = refl } } }
