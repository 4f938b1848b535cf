use Rattle.std.proofs.Common.{◌+◌, Ok, sym, ap, ◌∙◌, arith}
use Rattle.kb_ops.specs.Plan.{plan_of, change_for}
use Rattle.kb_ops.proofs.Proper.{planned_proper}
use Rattle.kb_journal.specs.State.{last_seq}
use Rattle.kb_device.specs.Views.{inside, platter}
use Rattle.kb_device.proofs.Ids.{next_is_new}
use Rattle.kb_device.proofs.OwnQueues.{add_owned}
use Rattle.kb_device.proofs.Planned.{made_numbers}
use Rattle.kb_device.proofs.session.Session.call.Goals as goal

pub add-requires-clause-proper : goal.add-requires-clause-proper
add-requires-clause-proper g c =
    let t = c.args.self.now.shown.tree in
    let last = last_seq c.args.self.now.journal.state in
    let made = (λ i. plan_of t c.args.request.now c.args.number (sym c.last-seq.ensures i + 1) c.args.moment) ∙ c.in-Ok-Made.ensures.plan ∙ ap (λ p. Ok p) c.in-Ok-Made.field-0-is in
    planned_proper t c.args.request.now c.args.number (last + 1) c.args.moment c.in-Ok-Made.op c.is_well_formed.ensures (next_is_new c.args.number last t c.requires.owned.fresh) c.requires.numbered (omega arith) made

pub returns-in-Ok-Made-clause-owned : goal.returns-in-Ok-Made-clause-owned
returns-in-Ok-Made-clause-owned g c =
    let t = c.args.self.now.shown.tree in
    let last = last_seq c.args.self.now.journal.state in
    let made = (λ i. plan_of t c.args.request.now c.args.number (sym c.last-seq.ensures i + 1) c.args.moment) ∙ c.in-Ok-Made.ensures.plan ∙ ap (λ p. Ok p) c.in-Ok-Made.field-0-is in
    let numbers = made_numbers (change_for t c.args.request.now) c.args.number (last + 1) c.args.moment c.in-Ok-Made.op made in
    add_owned c.args.number (inside c.args.self.now) (inside c.add.new.self) c.requires.owned (platter g.D.Disk c.args.self.now.journal.disk) (platter g.D.Disk c.add.new.self.journal.disk) c.in-Ok-Made.op c.add.result numbers.0 numbers.1 c.add.ensures.does
