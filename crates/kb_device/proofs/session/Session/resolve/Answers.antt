use Rattle.std.proofs.Common.{◌⊎◌, ◌+◌, None, ap, subst, ◌∙◌}
use Rattle.kb_log.specs.Images.{EachImage}
use Rattle.kb_journal.specs.State.{HasState, done}
use Rattle.kb_journal.specs.declared.entries.Entry.TheVariants as entry
use Rattle.kb_device.specs.Inside.{Inside}
use Rattle.kb_device.specs.Views.{inside, plan_of}
use Rattle.kb_device.proofs.Settlings.{running_merged}
use Rattle.kb_device.proofs.session.Session.resolve.Goals as goal

pub returns-in-Err-clause-stops : goal.returns-in-Err-clause-stops
returns-in-Err-clause-stops g c = record {
  images = subst (λ n. EachImage g.D.Disk.content g.D.Disk.dirty c.note.new.self.disk (λ image. HasState c.args.self.now.journal.state image ⊎ HasState (done c.args.self.now.journal.state (entry.Merged (c.args.goal.number + 1) c.args.hash n)) image)) c.queue_len-count.ensures c.in-Err.ensures.every;
  size = c.in-Err.ensures.size;
  ran_out = c.in-Err.ensures.spent;
}

pub returns-clause-running : goal.returns-clause-running
returns-clause-running g c =
    let journal = c.in-Ok.ensures.state ∙ ap (λ n. done c.args.self.now.journal.state (entry.Merged (c.args.goal.number + 1) c.args.hash n)) c.queue_len-count.ensures in
    running_merged (inside c.args.self.now) _ (plan_of c.args.goal) c.args.table.tree c.args.pointers c.args.hash c.args.role c.requires.can c.requires.pointed
    (λ i. let s : Inside = record { journal = journal i; base = c.args.table.tree; ahead = 0; shown = c.requires.same i; kept = c.args.pointers; cache = c.args.goal.cache; written = None; ring = c.args.goal.ring; generation = c.args.goal.generation; role = c.args.role; aloft = None; plan = None } in s)
