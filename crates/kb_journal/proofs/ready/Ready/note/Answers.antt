use Rattle.std.proofs.Common.{length, ap, ◌∙◌}
use Rattle.kb_log.specs.LogList.{area_size}
use Rattle.kb_journal.specs.Held.{state_of}
use Rattle.kb_journal.specs.State.{is_whole}
use Rattle.kb_journal.proofs.Changed.{either_state}
use Rattle.kb_journal.proofs.Noted.{note_leads, whole_note}
use Rattle.kb_journal.proofs.ready.Ready.note.Goals as goal

pub write_change-requires-clause-leads : goal.write_change-requires-clause-leads
write_change-requires-clause-leads g c =
    note_leads (state_of c.args.self.now.held) (state_of c.note.new.self) c.args.log.now.payloads c.last-last.result c.args.note.now c.deref.result.now c.requires.ready.leads c.last-last.ensures c.make_line.ensures.is (c.deref.ensures.value ∙ c.make_line.ensures.text) c.requires.allowed c.note.ensures

pub write_change-requires-clause-whole : goal.write_change-requires-clause-whole
write_change-requires-clause-whole g c =
    ap (λ s. is_whole (area_size (length (g.D.Disk.content c.args.log.now.disk))) s) c.note.ensures ∙ whole_note _ (state_of c.args.self.now.held) c.args.note.now c.requires.ready.whole c.requires.allowed

pub returns-in-Ok-clause-every : goal.returns-in-Ok-clause-every
returns-in-Ok-clause-every g c = λ image may.
    either_state (state_of c.args.self.now.held) (state_of c.note.new.self) _ _ image c.args.log.now.payloads c.requires.ready.leads c.requires.ready.whole (may.size ∙ c.in-Ok.ensures.size) c.note.ensures (c.in-Ok.ensures.every image may)

pub returns-in-Err-clause-every : goal.returns-in-Err-clause-every
returns-in-Err-clause-every g c = λ image may.
    either_state (state_of c.args.self.now.held) (state_of c.note.new.self) _ _ image c.args.log.now.payloads c.requires.ready.leads c.requires.ready.whole (may.size ∙ c.in-Err.ensures.size) c.note.ensures (c.in-Err.ensures.every image may)
