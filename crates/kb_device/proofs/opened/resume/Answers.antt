use Rattle.std.proofs.Common.{◌≡◌, sym, ap, subst, ◌∙◌}
use Rattle.kb_journal.specs.State.{State, HasState}
use Rattle.kb_device.specs.Inside.{Inside, IsRunning}
use Rattle.kb_device.specs.Noting.{Writes, Stops}
use Rattle.kb_device.specs.Opened.{started}
use Rattle.kb_device.specs.Opening.{taken_by, caught_by}
use Rattle.kb_device.specs.Views.{platter, read_of}
use Rattle.kb_device.proofs.Resuming.{resumes_twice, stops_first, stops_second, begins_running}
use Rattle.kb_device.proofs.opened.resume.Goals as goal

pub returns-in-Err-clause-stops : goal.returns-in-Err-clause-stops
returns-in-Err-clause-stops g c =
    let s = c.args.journal.state in
    let taken = taken_by s c.args.start.taking in
    stops_first (platter g.D.Disk c.args.journal.disk) (platter g.D.Disk c.in-Err.disk) s taken (caught_by taken (read_of c.args.start.head)) c.in-Err.ensures.stops

pub catch_up-requires-clause-durable : goal.catch_up-requires-clause-durable
catch_up-requires-clause-durable g c = λ image may. subst (λ (s : State). HasState s image) (sym c.in-Ok.ensures.state) (c.in-Ok.ensures.writes.images image may)

pub returns-in-Err-catch_up-clause-stops : goal.returns-in-Err-catch_up-clause-stops
returns-in-Err-catch_up-clause-stops g c =
    let s = c.args.journal.state in
    let r = read_of c.args.start.head in
    let taken = taken_by s c.args.start.taking in
    let mid = platter g.D.Disk c.in-Ok.journal.disk in
    let now = platter g.D.Disk c.in-Err-catch_up.disk in
    stops_second (platter g.D.Disk c.args.journal.disk) mid now s taken (caught_by taken r) c.in-Ok.ensures.writes (subst (λ (x : State). Stops x (caught_by x r) mid now) c.in-Ok.ensures.state c.in-Err-catch_up.ensures.stops)

pub returns-clause-running : goal.returns-clause-running
returns-clause-running g c =
    let s = c.args.journal.state in
    let head = c.args.start.head in
    let r = read_of head in
    let after : c.in-Ok-catch_up.journal.state ≡ caught_by (taken_by s c.args.start.taking) r = c.in-Ok-catch_up.ensures.state ∙ ap (λ x. caught_by x r) c.in-Ok.ensures.state in
    subst (λ (j : State). (let t : Inside = record (started s c.args.start.taking r head.shown.tree head.role) { journal = j } in IsRunning t)) (sym after) (begins_running s c.args.start.taking r head.shown.tree c.requires.can head.role c.requires.proper c.requires.pointed)

pub returns-clause-writes : goal.returns-clause-writes
returns-clause-writes g c =
    let s = c.args.journal.state in
    let r = read_of c.args.start.head in
    let taken = taken_by s c.args.start.taking in
    let mid = platter g.D.Disk c.in-Ok.journal.disk in
    let now = platter g.D.Disk c.in-Ok-catch_up.journal.disk in
    resumes_twice (platter g.D.Disk c.args.journal.disk) mid now taken (caught_by taken r) c.in-Ok.ensures.writes (subst (λ (x : State). Writes (caught_by x r) mid now) c.in-Ok.ensures.state c.in-Ok-catch_up.ensures.writes)
