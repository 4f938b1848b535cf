use Rattle.std.proofs.Common.{◌≡◌, ◌⊎◌, inl, inr, OnOk, ap, subst}
use Rattle.kb_log.specs.Images.{EachImage}
use Rattle.kb_journal.specs.declared.entries.Entry.TheVariants.{Op}
use Rattle.kb_journal.specs.Held.{state_of}
use Rattle.kb_journal.specs.Seen.{JournalState}
use Rattle.kb_journal.specs.State.{State, HasState, done}
use Rattle.kb_journal.proofs.journal.Journal.add_op.Goals as goal

pub returns-clause-durable : goal.returns-clause-durable
returns-clause-durable g c =
    let same : state_of c.self.inside.ready.held ≡ c.args.self.now.state = ap (λ (j : JournalState _). j.state) c.self.view_is in
    subst (λ (s : State). OnOk c.add.result (EachImage g.D.Disk.content g.D.Disk.dirty c.add.new.log.disk (HasState (done s (Op c.args.op.now))))) same c.add.ensures.durable

pub returns-clause-every : goal.returns-clause-every
returns-clause-every g c =
    let same : state_of c.self.inside.ready.held ≡ c.args.self.now.state = ap (λ (j : JournalState _). j.state) c.self.view_is in
    subst (λ (s : State). EachImage g.D.Disk.content g.D.Disk.dirty c.add.new.log.disk (λ image. HasState s image ⊎ HasState (done s (Op c.args.op.now)) image)) same c.add.ensures.every

pub returns-clause-used : goal.returns-clause-used
returns-clause-used g c =
    let same : state_of c.self.inside.ready.held ≡ c.args.self.now.state = ap (λ (j : JournalState _). j.state) c.self.view_is in
    inr (inl (c.args.self.now.state, done c.args.self.now.state (Op c.args.op.now), subst (λ (s : State). EachImage g.D.Disk.content g.D.Disk.dirty c.add.new.log.disk (λ image. HasState s image ⊎ HasState (done s (Op c.args.op.now)) image)) same c.add.ensures.every))
